-- The multiple of a divisor by value, by the sign and the size of the number.
--   copies-asked           m copies are a divisor that may be negated
--   multiple_up            n is m, and the multiple is m copies
--   multiple_down          n is −m, and the multiple is the negative of m copies
use mathlib.Core.Path.{◌≡◌, sym, subst}
use mathlib.Core.List.{List}
use Prim.Native.Nat.{ℕ, suc}
use lib.ListN.{replicate}
use lib.IntN.{ℤ, pos, negsuc}
use Rattle.ground.specs.declared.Ground.{Ground}
use Rattle.basis.specs.declared.Divisor.{Divisor}
use Rattle.group.specs.Contract.{NegativeAsked, NegativeOf}
use Rattle.multiples.specs.Copies.{MultipleOf}
use Rattle.reader.specs.Reading.{GivenOn}
use Rattle.calls.specs.Class.{IsListSum, IsMultiple}
use Rattle.whole.specs.Whole.{SignOf}
use Rattle.whole.specs.declared.Whole.{Whole}
use Rattle.whole.specs.declared.Whole.TheVariants as whole
use Rattle.classes.specs.Found.{OnCurves, MultipleMade}
use Rattle.classes.proofs.Values.{negative-made, times-made}

module _ {g : Ground} {x : Divisor} where
  pub copies-asked : {r : Divisor} (m : ℕ) → NegativeAsked g x → MultipleOf g x m r → NegativeAsked g r
  copies-asked m h t = record { grounded = h.grounded; a_is = (t h).0 }

  module _ (n : ℤ) (size : Whole) (h : SignOf n size) (m : ℕ) where
    pub multiple_up : {r : Divisor} → size ≡ whole.Up m → MultipleOf g x m r → OnCurves g (λ c. MultipleMade c x n r)
    multiple_up {r} q t c o a v =
        subst (λ (k : ℤ). (w : List ℕ) × IsMultiple c a k w × GivenOn c w r) (sym is) (times-made o m v t)
      where
        is : n ≡ pos m
        is = subst (SignOf n) q h

    pub multiple_down : {s r : Divisor} → size ≡ whole.Down m → MultipleOf g x m s → NegativeOf g s r → OnCurves g (λ c. MultipleMade c x n r)
    multiple_down {s} {r} q t u c o a v = go (subst (SignOf n) q h) (times-made o m v t)
      where
        go : (k : ℕ) × (n ≡ negsuc k) × (m ≡ suc k) → (v : List ℕ) × IsListSum c (replicate m a) v × GivenOn c v s
            → (w : List ℕ) × IsMultiple c a n w × GivenOn c w r
        go (k, e₁, e₂) (v, l, given) =
            let z = negative-made o given u in (
              z.0,
              subst (λ (i : ℤ). IsMultiple c a i z.0) (sym e₁) (v, subst (λ (j : ℕ). IsListSum c (replicate j a) v) e₂ l, z.1),
              z.2,
            )
