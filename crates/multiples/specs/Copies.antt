-- What `multiple` ensures.
--   copies S a D m         the product of m copies of the ideal of a
--   IsCopies S a D m r     r is a divisor, and its ideal is equivalent to that product
--   MultipleOf             multiple: the result is such a divisor
use Rattle.std.specs.Prelude.{ℕ, replicate}
use Rattle.algebra.specs.Ring.{CommRing}
use Rattle.ideal.specs.Ideal.{ProductOf, Equivalent}
use Rattle.triple.specs.Setting.{Setting, ring}
use Rattle.ground.specs.declared.Ground.{Ground}
use Rattle.basis.specs.declared.Divisor.{Divisor}
use Rattle.group.specs.Contract.{IsDivisor, ideal, NegativeAsked}

-- the product of m copies
abbrev pub copies : {p : ℕ} (S : Setting p) (a : Divisor) → IsDivisor S a → ℕ → (ring S).Car → Type 0
copies S a D m = ProductOf (ring S) (λ (_ : Unit {0}). ideal S a D) (replicate m tt)

abbrev pub IsCopies : {p : ℕ} (S : Setting p) (a : Divisor) → IsDivisor S a → ℕ → Divisor → Type 0
IsCopies S a D m r = (E : IsDivisor S r) × Equivalent (ring S) (copies S a D m) (ideal S r E)

abbrev pub MultipleOf : (g : Ground) (a : Divisor) (m : ℕ) (r : Divisor) → Type 0
MultipleOf g a m r = (A : NegativeAsked g a) → IsCopies A.grounded.ready.setting a A.a_is m r
