-- The sum of two divisors by formulas, where these are tried and serve.
--   formulas_tried         the formulas may be tried for two divisors of kind 31
--   formulas_sum           what they give is the sum
--   first-other, second-other      they say nothing of a divisor of another kind
use mathlib.Core.Path.{◌≡◌, sym, ◌∙◌, subst, subst₂}
use Rattle.std.specs.Prelude.{Option, Some, None, IfSome}
use Rattle.ideal.specs.Ideal.{Product}
use Rattle.ideal.specs.Reduced.{IsReduced}
use Rattle.divisor.specs.Kind.{k31, IdealOf}
use Rattle.triple.specs.Setting.{Setting, ring, poles_of}
use Rattle.ground.specs.declared.Ground.{Ground}
use Rattle.basis.specs.declared.Divisor.{Divisor}
use Rattle.basis.specs.Divisor.{residues, BasisValue}
use Rattle.usual.specs.Trial.{TriedAsked, TriedOf, Summed}
use Rattle.group.specs.Contract.{IsDivisor, SumAsked, SumIs, SumOf, ByFormulasOf}

module _ {g : Ground} {a b : Divisor} (ka : a.kind ≡ k31) (kb : b.kind ≡ k31) where
  module _ (A : SumAsked g a b) where
    abbrev S : Setting g.p
    S = A.grounded.ready.setting

    kind_31 : {r : Divisor} (D : IsDivisor S r) → r.kind ≡ k31 → k31 ≡ D.kind
    kind_31 D e = sym e ∙ D.based.shaped.kind

    pub formulas_tried : TriedAsked g a b
    formulas_tried =
        record {
          grounded = A.grounded;
          a_is = subst (λ κ. BasisValue g.p S.curve κ a) (sym (kind_31 A.a_is ka)) A.a_is.based;
          b_is = subst (λ κ. BasisValue g.p S.curve κ b) (sym (kind_31 A.b_is kb)) A.b_is.based;
        }

    formulas_is : {r : Divisor} → Summed formulas_tried r → SumIs A r
    unfolding formulas_tried
    formulas_is {r} s = (
      record { kind = k31; based = s.based },
      subst₂ (λ κ κ'. IsReduced (poles_of S) (Product (ring S) (IdealOf S.curve κ (residues g.p a)) (IdealOf S.curve κ' (residues g.p b))) (IdealOf S.curve k31 (residues g.p r)))
          (kind_31 A.a_is ka) (kind_31 A.b_is kb) s.reduced,
    )

  pub formulas_sum : {t : Option Divisor} → TriedOf g a b t → ByFormulasOf g a b t
  formulas_sum {t} T = record { sum = sum t T; tried = T }
    where
      sum : (t : Option Divisor) → TriedOf g a b t → IfSome t (SumOf g a b)
      sum None T = tt
      sum (Some s) T = λ A. formulas_is A (T (formulas_tried A)).yes

module _ {g : Ground} {a b : Divisor} where
  pub first-other : ¬ (a.kind ≡ k31) → ByFormulasOf g a b None
  first-other n = record { sum = tt; tried = λ A. absurd (n A.a_is.shaped.kind) }

  pub second-other : ¬ (b.kind ≡ k31) → ByFormulasOf g a b None
  second-other n = record { sum = tt; tried = λ A. absurd (n A.b_is.shaped.kind) }
