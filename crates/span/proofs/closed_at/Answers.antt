-- `span::closed_at` meets its contract, by `at_test` of proofs/Reduction.
use native.Mathlib.Omega.{arith}
use Rattle.span.proofs.Reduction.{at-times_asked, at-reduce_asked, at-zero_asked, at_test}
use Rattle.span.proofs.closed_at.Goals as goal

pub overflow_add-e : goal.overflow_add-e
overflow_add-e c = omega (arith, c.requires.closed.small c.args.j c.requires.inside)

pub times_y-v-requires : goal.times_y-v-requires
times_y-v-requires c = at-times_asked c.requires

pub overflow_add-e-2 : goal.overflow_add-e-2
overflow_add-e-2 c = omega (arith, c.requires.closed.small c.args.j c.requires.inside)

pub reduce-requires : goal.reduce-requires
reduce-requires c = at-reduce_asked c.requires c.times_y-v.ensures

pub is_zero-requires : goal.is_zero-requires
is_zero-requires c = at-zero_asked c.requires c.reduce.ensures

pub returns : goal.returns
returns c =
    at_test _ _ c.times_y-v.ensures c.reduce.ensures
    c.requires.inside c.is_zero.ensures
