-- What the functions of the second road require and ensure.
--   RoadAsked g a b        two divisors on a nonsingular curve
--   RoadOf g a b r         what group's sum ensures: the ideal of r is the reduced ideal of the product
--   DoubleOf g x y r       … where the ideal of x lies inside that of y, which is not the whole ring
use Rattle.ground.specs.declared.Ground.{Ground}
use Rattle.basis.specs.declared.Divisor.{Divisor}
use Rattle.group.specs.Contract.{SumAsked, SumIs}
use Rattle.parts.specs.Contract.{Smooth, InsideAsked}

pub record RoadAsked (g : Ground) (a b : Divisor) : Type 0 where
  pub pair : SumAsked g a b
  pub smooth : Smooth pair.grounded.ready.setting

abbrev pub RoadOf : (g : Ground) (a b r : Divisor) → Type 0
RoadOf g a b r = (A : RoadAsked g a b) → SumIs A.pair r

abbrev pub DoubleOf : (g : Ground) (x y r : Divisor) → Type 0
DoubleOf g x y r = (A : InsideAsked g x y) → SumIs A.pair r
