-- `Triple::turn` meets its contract, by the laws of proofs/Turns.
use native.Mathlib.Omega.{arith}
use Rattle.field.proofs.Invert.{lt_of_ne}
use Rattle.triple.proofs.Turns.{turn_none, clear_asked, turn_clear, monic_asked, swap_asked, turn_swap, turn_fill}
use Rattle.triple.proofs.Triple.turn.Goals as goal

pub returns-then-v-m-eq0 : goal.returns-then-v-m-eq0
returns-then-v-m-eq0 c = turn_none c.requires c.if-v-m-eq0.true

pub clear-requires : goal.clear-requires
clear-requires c = clear_asked c.requires c.if-old-m.true

pub returns-then-old-m : goal.returns-then-old-m
returns-then-old-m c = turn_clear c.requires c.if-old-m.true c.clear.ensures

pub make_monic-requires : goal.make_monic-requires
make_monic-requires c = monic_asked c.requires (lt_of_ne _ c.if-v-m-eq0.false)

pub clear-requires-then-old-lt26 : goal.clear-requires-then-old-lt26
clear-requires-then-old-lt26 c =
    rw (c.swap.ensures.x_after, c.swap.ensures.y_after)
    (swap_asked c.requires c.make_monic.ensures (omega (arith, c.if-old-m.false)) c.if-old-lt26.true)

pub returns-then-old-lt26 : goal.returns-then-old-lt26
returns-then-old-lt26 c =
    let h = rw (c.swap.ensures.x_after, c.swap.ensures.y_after) at c.clear-then-old-lt26.ensures in
    rw c.swap.ensures.x_after (turn_swap c.requires c.make_monic.ensures c.if-old-lt26.true h)

pub returns : goal.returns
returns c = rw (c.swap.ensures.x_after, c.swap.ensures.y_after) (turn_fill c.requires c.make_monic.ensures c.if-old-lt26.false)
