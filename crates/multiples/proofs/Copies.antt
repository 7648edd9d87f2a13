-- Multiples by doubling and adding. A turn keeps that r and b stand for i and j copies of a with i + n·j = m.
--   Held G D m w r b n   r stands for i and b for j copies, and i + n·(w·j) = m
--   held-add, held-twice   r and b, or b and b, may be added
--   held_start             at the start r is the zero class, b is a and n is m
--   held-odd, held_even    b is added to r if n is odd, and n halved
--   held_done              there is no need to double b if n is then 0
--   held-double            b is doubled
--   held-end               at the end, with n = 0, r stands for m copies
use mathlib.Core.Path.{◌≡◌, sym, ◌∙◌, ap, subst}
use Prim.Native.Nat.{ℕ, zero, suc, ◌+◌, ◌*◌, ◌/◌, ◌%◌}
use native.Mathlib.Omega.{arith}
use lib.ListN.{replicate, replicate-append-replicate}
use Rattle.algebra.specs.Ring.{CommRing}
use Rattle.ideal.specs.Ideal.{IsIdeal, ProductOf, Equivalent}
use Rattle.ideal.proofs.Every.{Every}
use Rattle.ideal.proofs.Class.{equivalent_same, equivalent_sym, equivalent_trans}
use Rattle.ideal.proofs.Product.{productof_one, productof_join}
use Rattle.triple.specs.Setting.{Setting, ring, poles_of}
use Rattle.ground.specs.declared.Ground.{Ground}
use Rattle.ground.specs.Ground.{Grounded}
use Rattle.basis.specs.declared.Divisor.{Divisor}
use Rattle.group.specs.Contract.{IsDivisor, ideal, SumAsked, SumOf, ZeroClass}
use Rattle.multiples.specs.Copies.{IsCopies}
use Rattle.group.proofs.Divisor.{divisor_footprint, kind-zero, zero-divisor}
use Rattle.group.proofs.Sums.{sum_equivalent}

odd-total : (n i j : ℕ) → n % 2 ≡ 1 → i + j + n / 2 * (2 * j) ≡ i + n * (1 * j)
odd-total n i j e = ring (n / 2) i j ∙ ap (λ u. i + u * (1 * j)) (omega arith)
  where
    ring : (q i j : ℕ) → i + j + q * (2 * j) ≡ i + (2 * q + 1) * (1 * j)
    ring q i j = omega arith

even_total : (n i j : ℕ) → ¬ (n % 2 ≡ 1) → i + n / 2 * (2 * j) ≡ i + n * (1 * j)
even_total n i j e = ring (n / 2) i j ∙ ap (λ u. i + u * (1 * j)) (omega arith)
  where
    ring : (q i j : ℕ) → i + q * (2 * j) ≡ i + (2 * q) * (1 * j)
    ring q i j = omega arith

double-total : (n i j : ℕ) → i + n * (1 * (j + j)) ≡ i + n * (2 * j)
double-total n i j = omega arith

module _ {g : Ground} (G : Grounded g) {a : Divisor} (D : IsDivisor G.ready.setting a) where
  abbrev S : Setting g.p
  S = G.ready.setting

  abbrev I : Unit {0} → (ring S).Car → Type 0
  I _ = ideal S a D

  -- a divisor's ideal is an ideal, for each copy
  copies-ideal : (m : ℕ) → Every (λ (u : Unit {0}). IsIdeal (ring S) (I u)) (replicate m tt)
  copies-ideal zero = tt
  copies-ideal (suc m) = ((divisor_footprint S D).ideal, copies-ideal m)

  -- the zero class stands for no copy
  copies-none : {r : Divisor} → ZeroClass r → IsCopies S a D 0 r
  copies-none z = (zero-divisor S z, equivalent_same (poles_of S) (kind-zero S (zero-divisor S z) z.kind))

  -- a stands for one copy of itself
  copies-one : IsCopies S a D 1 a
  copies-one = (D, equivalent_same (poles_of S) (productof_one (ring S) I tt (divisor_footprint S D).ideal))

  -- the sum of i and j copies stands for i + j copies
  copies-sum : (i j : ℕ) {x y r : Divisor} → IsCopies S a D i x → IsCopies S a D j y → SumOf g x y r → IsCopies S a D (i + j) r
  copies-sum i j (X, e) (Y, e') s =
      let z = sum_equivalent s (record { grounded = G; a_is = X; b_is = Y }) in
      let join = productof_join (poles_of S) I (replicate i tt) (replicate j tt) (copies-ideal i) (copies-ideal j) (equivalent_sym (poles_of S) e) (equivalent_sym (poles_of S) e') in
      let all = equivalent_trans (poles_of S) (equivalent_sym (poles_of S) join) z.1 in
      (z.0, subst (λ us. Equivalent (ring S) (ProductOf (ring S) I us) (ideal S _ z.0)) (replicate-append-replicate i j tt) all)

  pub record Held (m w : ℕ) (r b : Divisor) (n : ℕ) : Type 0 where
    pub i : ℕ
    pub j : ℕ
    pub r_is : IsCopies S a D i r
    pub b_is : IsCopies S a D j b
    pub total : i + n * (w * j) ≡ m

  pub held-add : {m w : ℕ} {r b : Divisor} {n : ℕ} → Held m w r b n → SumAsked g r b
  held-add h = record { grounded = G; a_is = h.r_is.0; b_is = h.b_is.0 }

  pub held-twice : {m w : ℕ} {r b : Divisor} {n : ℕ} → Held m w r b n → SumAsked g b b
  held-twice h = record { grounded = G; a_is = h.b_is.0; b_is = h.b_is.0 }

  module _ {m : ℕ} where
    pub held_start : {r : Divisor} → ZeroClass r → Held m 1 r a m
    held_start z = record { i = 0; j = 1; r_is = copies-none z; b_is = copies-one; total = omega arith }

    pub held-odd : {r b s : Divisor} {n : ℕ} → Held m 1 r b n → n % 2 ≡ 1 → SumOf g r b s → Held m 2 s b (n / 2)
    held-odd {n = n} h e q =
        record { i = h.i + h.j; j = h.j; r_is = copies-sum h.i h.j h.r_is h.b_is q; b_is = h.b_is; total = odd-total n h.i h.j e ∙ h.total }

    pub held_even : {r b : Divisor} {n : ℕ} → Held m 1 r b n → ¬ (n % 2 ≡ 1) → Held m 2 r b (n / 2)
    held_even {n = n} h e = record { i = h.i; j = h.j; r_is = h.r_is; b_is = h.b_is; total = even_total n h.i h.j e ∙ h.total }

    pub held_done : {r b : Divisor} {n : ℕ} → Held m 2 r b n → n ≡ 0 → Held m 1 r b n
    held_done {n = n} h e = record { i = h.i; j = h.j; r_is = h.r_is; b_is = h.b_is; total = ap (λ u. h.i + u * (1 * h.j)) e ∙ omega arith ∙ ap (λ u. h.i + u * (2 * h.j)) (sym e) ∙ h.total }

    pub held-double : {r b c : Divisor} {n : ℕ} → Held m 2 r b n → SumOf g b b c → Held m 1 r c n
    held-double {n = n} h q =
        record { i = h.i; j = h.j + h.j; r_is = h.r_is; b_is = copies-sum h.j h.j h.b_is h.b_is q; total = double-total n h.i h.j ∙ h.total }

    pub held-end : {r b : Divisor} {n : ℕ} → Held m 1 r b n → n ≡ 0 → IsCopies S a D m r
    held-end {r} h e = subst (λ i. IsCopies S a D i r) (all ∙ ap (λ u. h.i + u * (1 * h.j)) (sym e) ∙ h.total) h.r_is
      where
        all : h.i ≡ h.i + 0 * (1 * h.j)
        all = omega arith
