-- The measures of `road::sum`, `road::add` and `road::double`, which call each other: three times the degree of the smaller divisor, and 2 more
-- for sum, 1 more for add.
use Prim.Native.Nat.{◌+◌, ◌*◌, min}
use Rattle.kind.specs.Kinds.{degree_of}
use Rattle.road.proofs.+add_double_sum.Given as goal

abbrev pub decreases-add : goal.decreases-add
decreases-add l = 3 * degree_of l.y.kind + 1

abbrev pub decreases-double : goal.decreases-double
decreases-double l = 3 * degree_of l.y.kind

abbrev pub decreases-sum : goal.decreases-sum
decreases-sum l = 3 * min (degree_of l.a.kind) (degree_of l.b.kind) + 2
