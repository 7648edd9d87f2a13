-- What the quick sum by value ensures.
--   AddedOf g x y r        added: the record of r is the sum of the records of x and y, on each curve with the ground g
use Rattle.std.specs.Prelude.{List, ℕ}
use Rattle.ground.specs.declared.Ground.{Ground}
use Rattle.basis.specs.declared.Divisor.{Divisor}
use Rattle.reader.specs.Reading.{GivenOn}
use Rattle.calls.specs.Class.{IsSum}
use Rattle.classes.specs.Found.{OnCurves}

abbrev pub AddedOf : (g : Ground) (x y r : Divisor) → Type 0
AddedOf g x y r = OnCurves g (λ c. (a b : List ℕ) → GivenOn c a x → GivenOn c b y → (w : List ℕ) × IsSum c a b w × GivenOn c w r)
