-- `share::rounded` meets its contract: nothing overflows below 2⁶², and each return is a case of the definition.
use mathlib.Core.Path.{sym}
use native.Mathlib.Nat.{mod-lt, div-le_self}
use native.Mathlib.Omega.{arith}
use Rattle.report.proofs.Rounded.{rounded-below, rounded-above, rounded_even, rounded-odd}
use Rattle.share.proofs.rounded.Goals as goal

pub overflow_mul-twice : goal.overflow_mul-twice
overflow_mul-twice c = omega (arith, mod-lt c.args.a {m = c.args.b} (omega arith))

pub returns-then-twice-b : goal.returns-then-twice-b
returns-then-twice-b c = sym (rounded-below _ _ (omega arith))

pub overflow_add-result : goal.overflow_add-result
overflow_add-result c = omega (arith, div-le_self c.args.a c.args.b)

pub returns-then-b-twice : goal.returns-then-b-twice
returns-then-b-twice c = sym (rounded-above _ _ (omega arith))

pub returns-then-quotient-eq0 : goal.returns-then-quotient-eq0
returns-then-quotient-eq0 c = sym (rounded_even _ _ (omega arith) (omega arith))

pub overflow_add-result-2 : goal.overflow_add-result-2
overflow_add-result-2 c = omega (arith, div-le_self c.args.a c.args.b)

pub returns : goal.returns
returns c = sym (rounded-odd _ _ (omega arith) (omega arith))
