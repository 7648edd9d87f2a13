-- Leads by coefficients, for the reader: what HasPole and Monic of crates/ideal mean in the coordinate ring.
--   has_pole-coefficient, coefficient-has_pole
--                      the lead of g has pole number n exactly if its coefficient at n is not 0 and those above n are
--   monic-coefficient, coefficient-monic
--                      g is monic with lead n exactly if n is a pole number, its coefficient there is 1 and those above n are 0
use mathlib.Core.Path.{◌≡◌, sym, ◌∙◌, ap, ap₂, subst}
use Prim.Native.Nat.{ℕ, suc, ◌<◌}
use native.Mathlib.Omega.{arith}
use Rattle.algebra.specs.Ring.{Field}
use Rattle.algebra.proofs.Laws as L
use Rattle.algebra.proofs.Solve.{solve, ◌⊞◌, ⊟◌}
use Rattle.ideal.specs.Poles.{IsPole, HasPole, Monic}
use Rattle.curve.specs.Curve.{Curve, Coordinate, constant}
use Rattle.curve.proofs.Coefficient.{constant-one}
use Rattle.curve.specs.Sequence.{coefficient}
use Rattle.curve.specs.Monomial.{mono, Below}
use Rattle.curve.proofs.Term.{coefficient-add}
use Rattle.curve.proofs.Filtration.{below-coefficient, coefficient-below, below_add, below_more}
use Rattle.curve.proofs.Product.{below_mono, coefficient-mono, split}
use Rattle.poles.specs.Poles.{poles}
use Rattle.curve.proofs.Poles.{lead-nonzero}

module _ (K : Field) (C : Curve K.ring) (nonzero : ¬ (C.a0 ≡ K.ring.zero)) where
  open K.ring use {Car, zero as 𝟘, one as 𝟙, add as ◌+ₖ◌}
  open Coordinate C use {Car as El, add as ◌⊕◌, mul as ◌⊗◌, neg as ⊖◌}

  infixl 60 ◌⊕◌ ◌+ₖ◌
  infixl 70 ◌⊗◌
  infix 80 ⊖◌
  pub has_pole-coefficient : {g : El} {n : ℕ} → HasPole (poles K C nonzero) g n → (¬ (coefficient C n g ≡ 𝟘)) × ((m : ℕ) → n < m → coefficient C m g ≡ 𝟘)
  unfolding poles
  has_pole-coefficient {g} {n} p =
      (lead-nonzero K C p.upper p.exact, λ m h. below-coefficient C p.upper m h)

  pub coefficient-has_pole : {g : El} {n : ℕ} → ¬ (coefficient C n g ≡ 𝟘) → ((m : ℕ) → n < m → coefficient C m g ≡ 𝟘) → HasPole (poles K C nonzero) g n
  unfolding poles
  coefficient-has_pole {g} {n} u z =
      record { upper = coefficient-below C (suc n) g z; exact = λ b. u (below-coefficient C b n (omega arith)) }

  back_again : (g h : El) → g ⊕ ⊖ h ⊕ h ≡ g
  back_again = solve (Coordinate C) 2 (λ g h. g ⊞ ⊟ h ⊞ h) (λ g h. g) tt

  pub monic-coefficient : {g : El} {n : ℕ} → Monic (poles K C nonzero) g n → IsPole n × (coefficient C n g ≡ 𝟙) × ((m : ℕ) → n < m → coefficient C m g ≡ 𝟘)
  unfolding poles
  monic-coefficient {g} {n} u =
      (u.pole, top, λ m h. below-coefficient C all m h)
    where
      all : Below C (suc n) g
      all =
          subst (λ (v : El). Below C (suc n) v) (back_again g (mono C n)) (below_add C (below_more C (omega arith) u.rest) (below_mono C n u.pole))

      top : coefficient C n g ≡ 𝟙
      top =
          ap (coefficient C n) (sym (back_again g (mono C n)))
          ∙ coefficient-add C n _ _
          ∙ ap₂ ◌+ₖ◌ (below-coefficient C u.rest n (omega arith)) (coefficient-mono C n u.pole)
          ∙ L.zero-add K.ring 𝟙

  pub coefficient-monic : {g : El} {n : ℕ} → IsPole n → coefficient C n g ≡ 𝟙 → ((m : ℕ) → n < m → coefficient C m g ≡ 𝟘) → Monic (poles K C nonzero) g n
  unfolding poles
  coefficient-monic {g} {n} p e z =
      record {
        pole = p;
        rest =
            subst (λ (v : El). Below C n (g ⊕ ⊖ v))
            (ap (λ c. constant C c ⊗ mono C n) e ∙ ap (λ v. v ⊗ mono C n) (constant-one C) ∙ L.one-mul (Coordinate C) (mono C n))
            (split C (coefficient-below C (suc n) g z));
      }
