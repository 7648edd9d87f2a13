-- Which polynomial is that of a divisor: the one of its kind.
--   chosen-x       the polynomial in x of the divisor's kind
--   chosen-y       the polynomial of the divisor's kind in which y leads
--   chosen_31      for kind 31 this one or the first
use mathlib.Core.Path.{◌≡◌, sym, ◌∙◌, subst}
use mathlib.Core.Logic.{inl, inr}
use Prim.Native.Nat.{ℕ}
use native.Mathlib.Decide.{ℕ_discrete}
use Rattle.algebra.specs.Ring.{CommRing}
use Rattle.field.specs.Residue.{Z, el}
use Rattle.divisor.specs.Kind.{Kind, k31}
use Rattle.basis.specs.declared.Divisor.{Divisor}
use Rattle.basis.specs.Divisor.{residues}
use Rattle.roots.specs.declared.Cubic.{Cubic}
use Rattle.roots.specs.Contract.{cubic_at}
use Rattle.point.proofs.Vanish.{x-value, y-value}
use Rattle.eliminants.specs.Contract.{InX, InY}
use Rattle.eliminants.specs.Parts.{Stands, InY31}

module _ {p : ℕ} {r : Divisor} {c : Cubic} where
  pub chosen-x : (κ' : Kind) → Stands p c (x-value (Z p) κ' (residues p r)) → r.kind ≡ κ' → InX p r c
  chosen-x κ' h same =
      record {
        below = h.below;
        is = λ κ s t. subst (λ (ν : Kind). cubic_at p c t ≡ x-value (Z p) ν (residues p r) t) (sym same ∙ s.kind) (h.is t);
      }

  module _ {a : ℕ} where
    pub chosen-y : (κ' : Kind) → Stands p c (y-value (Z p) κ' (residues p r) (el p a)) → r.kind ≡ κ' → InY p r a c
    chosen-y κ' h same =
        record {
          below = h.below;
          is = λ κ s t. inl (subst (λ (ν : Kind). cubic_at p c t ≡ y-value (Z p) ν (residues p r) (el p a) t) (sym same ∙ s.kind) (h.is t));
        }

    pub chosen_31 : InY31 p r a c → r.kind ≡ k31 → InY p r a c
    chosen_31 h same = go (ℕ_discrete r.n2 0)
      where
        go : Dec (r.n2 ≡ 0) → InY p r a c
        go (yes e) = chosen-y k31 (h.square e) same
        go (no e) = record { below = (h.line e).below; is = λ κ s t. inr (sym s.kind ∙ same, (h.line e).is t) }
