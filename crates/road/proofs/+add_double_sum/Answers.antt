-- `road::add`, `road::double` and `road::sum` meet their contracts. Adding goes on with a common part of smaller degree, doubling too.
use borrow.Author.Rules.{rules}
use native.Mathlib.Omega.{arith}
use Rattle.road.proofs.Steps.{swap_asked, road_swap, road_zero, inside_asked, road_double, parts_asked, road_parts, apart-asked, double-apart}
use Rattle.road.proofs.+add_double_sum.Goals as goal

pub add-returns-then-eq : goal.add-returns-then-eq
add-returns-then-eq t c = road_zero (search rules)

pub add-double-requires : goal.add-double-requires
add-double-requires t c =
    (omega (arith, c.decreases), inside_asked c.common_part-part.ensures (search rules) (omega arith) c.requires)

pub add-returns-then-degree : goal.add-returns-then-degree
add-returns-then-degree t c = road_double c.common_part-part.ensures (search rules) (omega arith) c.double.ensures

pub add-sum-requires : goal.add-sum-requires
add-sum-requires t c =
    (omega (arith, c.decreases), parts_asked c.common_part-part.ensures c.common_multiple-multiple.ensures c.requires)

pub add-returns : goal.add-returns
add-returns t c = road_parts c.common_part-part.ensures c.common_multiple-multiple.ensures c.sum.ensures

pub double-sum-requires : goal.double-sum-requires
double-sum-requires t c =
    (omega (arith, c.decreases, (c.apart-s.ensures c.requires).smaller), apart-asked c.apart-s.ensures c.requires)

pub double-returns : goal.double-returns
double-returns t c = double-apart c.apart-s.ensures c.sum.ensures

pub sum-add-requires : goal.sum-add-requires
sum-add-requires t c = (omega (arith, c.decreases), swap_asked c.requires)

pub sum-returns-then-degree : goal.sum-returns-then-degree
sum-returns-then-degree t c = road_swap c.add.ensures

pub sum-add-requires-2 : goal.sum-add-requires-2
sum-add-requires-2 t c = (omega (arith, c.decreases), c.requires)
