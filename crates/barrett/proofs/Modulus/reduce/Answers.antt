-- `Modulus::reduce` meets its contract: what the quotient leaves is below 2·p, and below p after one correction.
use native.Mathlib.Omega.{arith}
use Rattle.barrett.proofs.Quotient.{whole_below, whole-near, rest-small, rest-large}
use Rattle.barrett.proofs.Modulus.reduce.Goals as goal

pub overflow_mul-r : goal.overflow_mul-r
overflow_mul-r c = omega (arith, whole_below c.args.self.divides _ _ c.high-q.ensures)

pub overflow_sub-r : goal.overflow_sub-r
overflow_sub-r c = whole_below c.args.self.divides _ _ c.high-q.ensures

pub overflow_cast-result : goal.overflow_cast-result
overflow_cast-result c = omega arith

pub overflow_cast-result-else-r-w : goal.overflow_cast-result-else-r-w
overflow_cast-result-else-r-w c = omega (arith, whole-near c.args.self.divides _ _ c.high-q.ensures (omega arith))

pub returns-then-r-w : goal.returns-then-r-w
returns-then-r-w c = rest-small _ _ _ (whole_below c.args.self.divides _ _ c.high-q.ensures) (omega arith)

pub returns-else-r-w : goal.returns-else-r-w
returns-else-r-w c =
    rest-large _ _ _
    (whole_below c.args.self.divides _ _ c.high-q.ensures)
    (omega arith)
    (whole-near c.args.self.divides _ _ c.high-q.ensures (omega arith))
