-- A divisor by value on the ground's curve, its ideal and its triple.
--   divisor_footprint      its ideal is a based ideal with all leads from 6 on
--   divisor-based          … and so a based ideal with a nonzero element
--   divisor_tripled        the triple of the divisor has its kind's members
--   divisor_span           the span of the triple is an ideal
--   divisor-same           … the ideal of the divisor
--   kind-zero              a divisor of kind 0 has the whole ring for its ideal
--   zero-divisor           the zero class is a divisor
use mathlib.Core.Path.{◌≡◌, sym, ◌∙◌, ap, subst}
use mathlib.Core.List.{List}
use Prim.Native.Nat.{ℕ, ◌<◌}
use native.Mathlib.Omega.{arith}
use Rattle.prime_field.specs.Field.{F}
use Rattle.field.proofs.Invert.{prime-large}
use Rattle.ideal.specs.Ideal.{IsIdeal, SameIdeal}
use Rattle.ideal.proofs.Reduced.{SmallFootprint}
use Rattle.ideal.proofs.Finite.{BasedIdeal}
use Rattle.divisor.specs.Kind.{k0, IdealOf}
use Rattle.divisor.proofs.Basis.{basis_footprint, basis-based}
use Rattle.divisor.proofs.Class.{zero-basis, zero-whole}
use Rattle.vector.specs.Vector.{at}
use Rattle.vector.proofs.Loop.{zeros-at}
use Rattle.triple.specs.Setting.{Setting, ring, poles_of}
use Rattle.triple.specs.Triple.{Spanned}
use Rattle.basis.specs.declared.Divisor.{Divisor}
use Rattle.basis.specs.Divisor.{residues}
use Rattle.basis.specs.Contract.{Tripled, TripleOf}
use Rattle.basis.proofs.Ideal.{based_ideal, based-same}
use Rattle.group.specs.Contract.{IsDivisor, ideal, ZeroClass}

module _ {p : ℕ} (S : Setting p) {r : Divisor} (D : IsDivisor S r) where
  pub divisor_footprint : SmallFootprint (poles_of S) (ideal S r D)
  divisor_footprint = basis_footprint (F p S.prime) S.curve S.nonzero D.kind (residues p r) D.based.basis

  pub divisor-based : BasedIdeal (poles_of S) (ideal S r D)
  divisor-based = basis-based (F p S.prime) S.curve S.nonzero D.kind (residues p r) D.based.basis

  module _ {t : List (List ℕ)} {d : List ℕ} (h : TripleOf r t d) where
    pub divisor_tripled : Tripled p D.kind r t d
    divisor_tripled = h.of p D.kind S.prime D.based.shaped

    pub divisor_span : IsIdeal (ring S) (Spanned S t)
    divisor_span = based_ideal divisor_tripled S D.based.basis

    pub divisor-same : SameIdeal (ring S) (Spanned S t) (ideal S r D)
    divisor-same = based-same divisor_tripled S D.based.basis

  pub kind-zero : r.kind ≡ k0 → SameIdeal (ring S) (λ _. Unit) (ideal S r D)
  kind-zero e =
      subst (λ κ. SameIdeal (ring S) (λ _. Unit) (IdealOf S.curve κ (residues p r))) (sym e ∙ D.based.shaped.kind) (zero-whole (F p S.prime) S.curve S.nonzero (residues p r))

pub zero-divisor : {p : ℕ} (S : Setting p) {r : Divisor} → ZeroClass r → IsDivisor S r
zero-divisor {p} S {r} z =
    record {
      kind = k0;
      based =
          record {
            shaped = record { kind = z.kind; below = λ i. subst (λ v. v < p) (sym (ap (λ v. at v i) z.none ∙ zeros-at 9 i)) (omega (arith, prime-large p S.prime)) };
            basis = zero-basis (F p S.prime) S.curve S.nonzero (residues p r);
          };
    }
