-- What is tried of two divisors of kind 31: where the formulas serve, and what they give.
--   TriedAsked g a b       two divisors of kind 31 that are bases on the curve of the ground g
--   curve_on, product_on   its curve, and the product of their ideals
--   HasPivots A            the determinant of the first three columns is not zero: that for the sum, and that for the double where the numbers of a and b are the same
--   Summed A r             r is the sum, of kind 31 with f2 not zero, and there are pivots
--   Untypical A            where there are pivots, the f2 of the sum is zero
--   TriedIs A r            tried: r is the sum, if the formulas serve, and where they do not the sum is untypical
--   TriedOf g a b r        … wherever it may be tried
use Rattle.std.specs.Prelude.{◌≡◌, ℕ, Option, IfSome, IfNone}
use Rattle.field.specs.Residue.{Z}
use Rattle.ideal.specs.Ideal.{Product}
use Rattle.ideal.specs.Reduced.{IsReduced}
use Rattle.curve.specs.Curve.{Curve, Coordinate}
use Rattle.divisor.specs.Kind.{Kind, k31, IdealOf, IsBasis}
use Rattle.columns.specs.Pivots.{pivot_sum, pivot_double}
use Rattle.triple.specs.Setting.{poles_of}
use Rattle.ground.specs.declared.Ground.{Ground}
use Rattle.ground.specs.Ground.{Grounded}
use Rattle.basis.specs.declared.Divisor.{Divisor}
use Rattle.basis.specs.Divisor.{numbers_of, residues, BasisValue}

pub record TriedAsked (g : Ground) (a b : Divisor) : Type 0 where
  pub grounded : Grounded g
  pub a_is : BasisValue g.p grounded.ready.setting.curve k31 a
  pub b_is : BasisValue g.p grounded.ready.setting.curve k31 b

module _ {g : Ground} {a b : Divisor} (A : TriedAsked g a b) where
  abbrev pub curve_on : Curve (Z g.p)
  curve_on = A.grounded.ready.setting.curve

  abbrev pub product_on : (Coordinate curve_on).Car → Type 0
  product_on = Product (Coordinate curve_on) (IdealOf curve_on k31 (residues g.p a)) (IdealOf curve_on k31 (residues g.p b))

  pub record HasPivots : Type 0 where
    pub different : ¬ (numbers_of a ≡ numbers_of b) → ¬ (pivot_sum (Z g.p) (residues g.p a) (residues g.p b) ≡ (Z g.p).zero)
    pub equal : numbers_of a ≡ numbers_of b → ¬ (pivot_double curve_on (residues g.p a) ≡ (Z g.p).zero)

  pub record Summed (r : Divisor) : Type 0 where
    pub pivots : HasPivots
    pub based : BasisValue g.p curve_on k31 r
    pub typical : ¬ (residues g.p r 2 ≡ (Z g.p).zero)
    pub reduced : IsReduced (poles_of A.grounded.ready.setting) product_on (IdealOf curve_on k31 (residues g.p r))

  abbrev pub Untypical : Type 0
  Untypical =
      HasPivots → (κ : Kind) (n : ℕ → (Z g.p).Car) → IsBasis curve_on κ n → IsReduced (poles_of A.grounded.ready.setting) product_on (IdealOf curve_on κ n)
      → n 2 ≡ (Z g.p).zero

  pub record TriedIs (r : Option Divisor) : Type 0 where
    pub yes : IfSome r Summed
    pub no : IfNone r Untypical

abbrev pub TriedOf : (g : Ground) (a b : Divisor) (r : Option Divisor) → Type 0
TriedOf g a b r = (A : TriedAsked g a b) → TriedIs A r
