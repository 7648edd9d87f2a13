-- `writing::write_numbers` meets its contract. The loop's invariant: the first i numbers are written.
use Rattle.std.proofs.Common.{arith}
use Rattle.writing.proofs.Stores.{filled_none, filled_turn}
use Rattle.writing.proofs.write_numbers.Goals as goal

pub loop-i-init : goal.loop-i-init
loop-i-init c = (omega arith, filled_none c.args.out.now c.args.at c.args.ns.now)

pub loop-i-preserved : goal.loop-i-preserved
loop-i-preserved c =
    (omega arith, filled_turn _ _ _ _ _ _ (omega arith) (omega arith) c.loop-i.invariant.1 c.write_u32.ensures)
