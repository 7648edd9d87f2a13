-- `words::compare` meets its contract. The loop's invariant: the words before the i-th agree.
use mathlib.Core.Path.{sym, ◌∙◌}
use native.Mathlib.Omega.{arith}
use borrow.Author.Count.{below_more}
use Rattle.words.proofs.Compared.{walk_differ, walk_all}
use Rattle.words.proofs.compare.Goals as goal

pub returns-then-v-w : goal.returns-then-v-w
returns-then-v-w c =
    let a = c.args.a.now in
    let b = c.args.b.now in
    let loop = c.loop-i in
    walk_differ a b loop.i (omega (arith, c.min-most.ensures)) loop.invariant (λ e. c.if-v-w.true (c.read_u32-v.ensures.is ∙ e ∙ sym c.read_u32-w.ensures.is))

pub loop-i-preserved : goal.loop-i-preserved
loop-i-preserved c = below_more _ _ c.loop-i.invariant (sym c.read_u32-v.ensures.is ∙ c.if-v-w.false ∙ c.read_u32-w.ensures.is)

pub returns : goal.returns
returns c =
    walk_all c.args.a.now c.args.b.now _ c.min-most.ensures
    (λ k h. c.loop-i.invariant k (omega (arith, c.min-most.ensures)))
