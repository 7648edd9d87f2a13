-- The span of a record's triple.
--   triple-member, triple_degree   its rows stand for the members of the record, and have their degrees
--   triple-least           its least degree is at most 6
--   triple-closed          a triple that is closed under y is that of a basis
--   triple_open            a triple that is not is that of no basis
--   based_ideal            the span of a basis' triple is an ideal
--   based-same             … the ideal of the record
use mathlib.Core.Path.{◌≡◌, refl, sym, ◌∙◌, ap, subst}
use mathlib.Core.List.{List, []}
use Prim.Native.Nat.{ℕ, zero, suc, ◌%◌, ◌<◌, ◌≤◌}
use native.Mathlib.Omega.{arith}
use lib.ListN.{get_or, get_or-map}
use Rattle.field.specs.Residue.{Z}
use Rattle.prime_field.specs.Field.{F}
use Rattle.ideal.specs.Ideal.{IsIdeal, SameIdeal}
use Rattle.ideal.proofs.Span.{Span}
use Rattle.curve.specs.Curve.{Curve, y}
use Rattle.divisor.specs.Kind.{Kind, IdealOf, IsBasis}
use Rattle.divisor.proofs.Table.{degree, degree_bound}
use Rattle.divisor.proofs.Members.{member, members}
use Rattle.divisor.proofs.Basis as B
use Rattle.vector.specs.Vector.{at, row, element}
use Rattle.triple.specs.Setting.{Setting, ring, poles_of, Ready}
use Rattle.triple.specs.Triple.{Spanned}
use Rattle.span.specs.Contract.{Open}
use Rattle.basis.specs.declared.Divisor.{Divisor}
use Rattle.basis.specs.Divisor.{residues}
use Rattle.basis.specs.Contract.{three_degrees, Tripled}

module _ {p : ℕ} {κ : Kind} {r : Divisor} {t : List (List ℕ)} {d : List ℕ} (h : Tripled p κ r t d) where
  pub triple-member : (C : Curve (Z p)) (j : ℕ) → j ≤ 2 → element p C (row t j) ≡ member C κ (residues p r) j
  triple-member C j l =
      sym (get_or-map (element p C) t j [])
      ∙ ap (λ gs. get_or gs j (element p C [])) (h.members_are C)
      ∙ listed j l
    where
      listed : (j : ℕ) → j ≤ 2 → get_or (members C κ (residues p r)) j (element p C []) ≡ member C κ (residues p r) j
      listed zero l = refl
      listed (suc zero) l = refl
      listed (suc (suc zero)) l = refl
      listed (suc (suc (suc j))) l = absurd (omega arith)

  pub triple_degree : (j : ℕ) → j ≤ 2 → at d j ≡ degree κ j
  triple_degree j l = ap (λ e. at e j) h.degrees_are ∙ listed j l
    where
      listed : (j : ℕ) → j ≤ 2 → at (three_degrees κ) j ≡ degree κ j
      listed zero l = refl
      listed (suc zero) l = refl
      listed (suc (suc zero)) l = refl
      listed (suc (suc (suc j))) l = absurd (omega arith)

  pub triple-least : at d 0 ≤ 6
  triple-least = omega (arith, triple_degree 0 (omega arith), degree_bound κ 0 (omega arith))

  module _ (S : Setting p) where
    abbrev C : Curve (Z p)
    C = S.curve

    triple-spanned : Spanned S t ≡ Span (poles_of S) (members C κ (residues p r))
    triple-spanned = ap (Span (poles_of S)) (h.members_are C)

    there : (g : (ring S).Car) → Spanned S t g → Span (poles_of S) (members C κ (residues p r)) g
    there g = subst (λ (U : (ring S).Car → Type 0). U g) triple-spanned

    pub triple-closed : ((j : ℕ) → j < 3 → Spanned S t ((ring S).mul (y C) (element p C (row t j)))) → IsBasis C κ (residues p r)
    triple-closed c =
        B.closed-basis (F p S.prime) C S.nonzero κ (residues p r)
        (λ j l. subst (λ u. Span (poles_of S) (members C κ (residues p r)) ((ring S).mul (y C) u)) (triple-member C j l) (there _ (c j (omega arith))))

    module _ (b : IsBasis C κ (residues p r)) where
      based-closed : B.Closed (F p S.prime) C S.nonzero κ (residues p r)
      based-closed = B.basis-closed (F p S.prime) C S.nonzero κ (residues p r) b

      pub based_ideal : IsIdeal (ring S) (Spanned S t)
      based_ideal = subst (IsIdeal (ring S)) (sym triple-spanned) (B.closed-ideal (F p S.prime) C S.nonzero κ (residues p r) based-closed)

      pub based-same : SameIdeal (ring S) (Spanned S t) (IdealOf C κ (residues p r))
      based-same = subst (λ (U : (ring S).Car → Type 0). SameIdeal (ring S) U (IdealOf C κ (residues p r))) (sym triple-spanned) (B.basis-same (F p S.prime) C S.nonzero κ (residues p r) b)

  module _ {cube : List ℕ} (R : Ready p cube) where
    pub triple_open : Open p cube t d R → ¬ IsBasis R.setting.curve κ (residues p r)
    triple_open o =
        B.open_not_basis (F p R.setting.prime) R.setting.curve R.setting.nonzero κ (residues p r) o.j (omega (arith, o.j_below)) o.rest o.s
        (ap ((ring R.setting).mul (y R.setting.curve)) (sym (triple-member R.setting.curve o.j (omega (arith, o.j_below)))) ∙ o.split)
        (there R.setting o.s o.spanned)
        o.nonzero
        (λ m l. o.normal m (subst (λ e. e ≤ m) (sym (triple_degree (m % 3) (omega arith))) l))
