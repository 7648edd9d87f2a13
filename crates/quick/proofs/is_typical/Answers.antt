-- `quick::is_typical` meets its contract.
use mathlib.Core.Path.{◌≡◌}
use borrow.Author.Rules.{rules}
use Rattle.divisor.specs.Kind.{k31}
use Rattle.algebra.proofs.Answers.{answer-yes, answer-no}
use Rattle.quick.proofs.is_typical.Goals as goal

pub returns-then-ne : goal.returns-then-ne
returns-then-ne c =
    let other : ¬ (c.args.x.kind ≡ k31) = search rules in
    answer-no (λ t. other t.kind)

pub returns-then-x-eq0 : goal.returns-then-x-eq0
returns-then-x-eq0 c = answer-no (λ t. t.second c.if-x-eq0.true)

pub returns : goal.returns
returns c = answer-yes (record { kind = search rules; second = c.if-x-eq0.false })
