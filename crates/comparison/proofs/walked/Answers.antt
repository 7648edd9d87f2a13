-- The words are compared once the curve and both divisors are accepted.
use Rattle.std.proofs.Common.{rules}
use Rattle.comparison.proofs.Walks.{walk-read}
use Rattle.comparison.proofs.walked.Goals as goal

pub returns : goal.returns
returns c = walk-read c.args.curve.now c.args.a.now c.args.b.now (λ g x y w h. search rules) _ c.of_two.ensures
