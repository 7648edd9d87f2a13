-- `counting::put_pass` meets its contract: the record of the sum is written, and all lines are put, or the line of the refusal.
use native.Mathlib.Omega.{arith}
use Rattle.reply.proofs.Write.{write_asked}
use Rattle.counting.proofs.Printed.{taken, all_put, refused-put}
use Rattle.counting.proofs.put_pass.Goals as goal

pub write_divisor-size-requires : goal.write_divisor-size-requires
write_divisor-size-requires c = write_asked (omega arith)

pub slice_bounds-sum-end : goal.slice_bounds-sum-end
slice_bounds-sum-end c = (taken c.write_divisor-size.ensures).inside

pub slice_bounds-push_all-end : goal.slice_bounds-push_all-end
slice_bounds-push_all-end c = (taken c.write_divisor-size.ensures).full

pub push_all-requires : goal.push_all-requires
push_all-requires c =
    let z = taken c.write_divisor-size.ensures in
    record { typical_le_total = rw c.in-Ok.is at c.requires.printable; longest_bound = omega arith; in_bounds = omega (arith, z.least, z.full); w_len_bound = omega (arith, z.most, z.full) }

pub returns-in-Ok : goal.returns-in-Ok
returns-in-Ok c = rw c.in-Ok.is (all_put (taken c.write_divisor-size.ensures) c.push_all.ensures)

pub returns-in-Err : goal.returns-in-Err
returns-in-Err c = rw c.in-Err.is (refused-put c.in-Err.cause (rw c.number.ensures at c.push_refused.ensures))
