-- Where the quick sum is served by the formulas, by value and in bytes.
--   ShortGround g          the ground of a curve with c5, c6 and c8 zero, and p above 3
--   TypicalValue x         a divisor of kind 31 with f2 not zero
--   ServedOn c a b r       the formulas serve for the records a and b on the curve c exactly where r has a value, and this is the sum
--   ServedOf g x y r       served: … for the records of x and y, on each curve with the ground g
use Rattle.std.specs.Prelude.{◌≡◌, List, ℕ, ◌<◌, get_or, Option, IfSome, IfNone}
use Rattle.divisor.specs.Kind.{k31}
use Rattle.ground.specs.declared.Ground.{Ground}
use Rattle.basis.specs.declared.Divisor.{Divisor}
use Rattle.reader.specs.Reading.{GivenOn}
use Rattle.calls.specs.Class.{IsSum}
use Rattle.calls.specs.Quick.{Serves}
use Rattle.classes.specs.Found.{OnCurves}

pub record ShortGround (g : Ground) : Type 0 where
  pub large : 3 < g.p
  pub at_8 : get_or g.cube 8 0 ≡ 0
  pub at_9 : get_or g.cube 9 0 ≡ 0
  pub at_11 : get_or g.cube 11 0 ≡ 0

pub record TypicalValue (x : Divisor) : Type 0 where
  pub kind : x.kind ≡ k31
  pub second : ¬ (x.n2 ≡ 0)

pub record ServedOn (c a b : List ℕ) (r : Option Divisor) : Type 0 where
  pub yes : IfSome r (λ s. Serves c a b × ((w : List ℕ) × IsSum c a b w × GivenOn c w s))
  pub no : IfNone r (¬ Serves c a b)

abbrev pub ServedOf : (g : Ground) (x y : Divisor) (r : Option Divisor) → Type 0
ServedOf g x y r = OnCurves g (λ c. (a b : List ℕ) → GivenOn c a x → GivenOn c b y → ServedOn c a b r)
