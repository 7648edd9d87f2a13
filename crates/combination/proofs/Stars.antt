-- The star of u·I + v·J, for the ideals I and J of two divisors.
--   first-asked            u·I may be added to the triple without members
--   combined-asked         with v·J added too, the span of the triple is an ideal with a lead of at most 12
--   combination_of         … so the star of the triple is that of u·I + v·J
use mathlib.Core.Path.{refl, subst}
use mathlib.Core.List.{List}
use Prim.Native.Nat.{ℕ, ◌+◌, ◌*◌, ◌%◌, ◌<◌, ◌≤◌}
use native.Mathlib.Omega.{arith}
use Rattle.ideal.specs.Ideal.{IsIdeal, SameIdeal}
use Rattle.ideal.proofs.Degree.{monic-pole, pole-mul}
use Rattle.ideal.proofs.Invertible.{Scaled, scaled_ideal}
use Rattle.ideal.proofs.Leads.{Lead}
use Rattle.ideal.proofs.Parts.{sum-right, sum-ideal, sum_same, sum_comm, sum-none}
use Rattle.ideal.proofs.Same.{same_refl, same_sym, same_trans, ideal-same}
use Rattle.vector.specs.Vector.{at, width}
use Rattle.triple.specs.Setting.{Setting, ring, poles_of}
use Rattle.triple.specs.Triple.{Spanned}
use Rattle.triple.proofs.Element.{present-monic}
use Rattle.triple.proofs.Empty.{no_rows, no-degrees, empty_triple, empty_same}
use Rattle.triple.proofs.Leads.{full-of, spanned-lead}
use Rattle.ground.specs.declared.Ground.{Ground}
use Rattle.basis.specs.declared.Divisor.{Divisor}
use Rattle.star.specs.Contract.{StarAsked, StarOf}
use Rattle.group.specs.Contract.{ideal, NegativeAsked}
use Rattle.group.proofs.Divisor.{divisor_footprint}
use Rattle.group.proofs.Stars.{starred}
use Rattle.combination.specs.declared.Polynomial.{Polynomial}
use Rattle.combination.specs.Contract.{value, combined, CombinationAsked, CombinationOf, AddAsked, Added}

module _ {g : Ground} {u : Polynomial} {x : Divisor} {v : Polynomial} {y : Divisor} where
  abbrev first-divisor : CombinationAsked g u x v y → NegativeAsked g x
  first-divisor A = record { grounded = A.pair.grounded; a_is = A.pair.a_is }

  abbrev second-divisor : CombinationAsked g u x v y → NegativeAsked g y
  second-divisor A = record { grounded = A.pair.grounded; a_is = A.pair.b_is }

  positive : CombinationAsked g u x v y → 0 < g.p
  positive A = omega (arith, A.pair.grounded.ready.setting.prime.two_le)

  pub first-asked : CombinationAsked g u x v y → AddAsked g u x no_rows no-degrees
  first-asked A = record { asked = first-divisor A; u_is = A.u_is; triple = empty_triple (positive A) }

  module _ {t₁ : List (List ℕ)} {d₁ : List ℕ} (h₁ : Added g u x no_rows t₁ d₁) where
    module _ {t : List (List ℕ)} {d : List ℕ} (h : Added g v y t₁ t d) (A : CombinationAsked g u x v y) where
      abbrev S : Setting g.p
      S = A.pair.grounded.ready.setting

      abbrev I : (ring S).Car → Type 0
      I = ideal S x A.pair.a_is

      abbrev J : (ring S).Car → Type 0
      J = ideal S y A.pair.b_is

      -- the span is v·J + (u·I + nothing)
      combined-same : SameIdeal (ring S) (Spanned S t) (combined S u v I J)
      combined-same =
          same_trans (ring S) (h.same (second-divisor A))
          (same_trans (ring S) (sum_same (ring S) (same_refl (ring S) (Scaled (ring S) (value S v) J))
          (same_trans (ring S) (h₁.same (first-divisor A)) (sum-none (ring S) (empty_same (positive A) S)))) (sum_comm (ring S)))

      first-ideal : IsIdeal (ring S) (Scaled (ring S) (value S u) I)
      first-ideal = scaled_ideal (ring S) (value S u) (divisor_footprint S A.pair.a_is).ideal

      second-ideal : IsIdeal (ring S) (Scaled (ring S) (value S v) J)
      second-ideal = scaled_ideal (ring S) (value S v) (divisor_footprint S A.pair.b_is).ideal

      -- v times an element of J of the pole number n
      reached : (n : ℕ) → 6 ≤ n → (at d ((v.d + n) % 3) ≤ v.d + n) × (at d ((v.d + n) % 3) < width)
      reached n l = go ((divisor_footprint S A.pair.b_is).leads n l)
        where
          go : Lead (poles_of S) J n → (at d ((v.d + n) % 3) ≤ v.d + n) × (at d ((v.d + n) % 3) < width)
          go (w, mw, pw) =
              spanned-lead S h.triple ((combined-same ((ring S).mul (value S v) w)).1 (sum-right (ring S) first-ideal (w, mw, refl)))
              (pole-mul (poles_of S) (monic-pole (poles_of S) (present-monic S A.v_is.vec A.v_is.present)) pw)

      -- one of the pole numbers 6, 7 and 8 and v's degree add up to a number of the class i
      filled : (i : ℕ) → i < 3 → at d i < width
      filled i l = subst (λ k. at d k < width) (omega arith) (reached (6 + (i + 2 * v.d) % 3) (omega arith)).1

      pub combined-asked : StarAsked g t d
      combined-asked =
          record {
            grounded = A.pair.grounded;
            full = full-of h.triple filled;
            ideal = ideal-same (ring S) (same_sym (ring S) combined-same) (sum-ideal (ring S) first-ideal second-ideal);
            low = ((v.d + 6) % 3, omega arith, omega (arith, (reached 6 (omega arith)).0, A.v_low));
          }

    pub combination_of : {t : List (List ℕ)} {d : List ℕ} {r : Divisor} → Added g v y t₁ t d → StarOf g t d r → CombinationOf g u x v y r
    unfolding combined-asked
    combination_of h s A = starred (combined-same h A) (s (combined-asked h A))
