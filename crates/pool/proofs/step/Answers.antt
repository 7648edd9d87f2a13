-- `pool::step` meets its contract: the sum call, and for a long enough buffer the two records leave and the new one comes in.
use mir.Facts.{to_z-of_z}
use mir.Syntax.{w32}
use native.Mathlib.Omega.{arith}
use lib.Seq.{length-take-le}
use Rattle.slots.proofs.Slots.{copied_front}
use Rattle.pool.proofs.OneCall.{sizes, step_short, cast_fits, copy_fits, step_long}
use Rattle.pool.proofs.step.Goals as goal

pub sum_slots-r-requires : goal.sum_slots-r-requires
sum_slots-r-requires c =
    let a = c.args in
    let q = c.requires in
    sizes a.curve.now a.s.now a.n a.i a.j q

pub returns-then-out-lt-ROOM : goal.returns-then-out-lt-ROOM
returns-then-out-lt-ROOM c =
    let a = c.args in
    let q = c.requires in
    let k = c.sum_slots-r in
    let out = k.new.out in
    let read = to_z-of_z {w = w32} {z = k.result} (record { sfits = k.type_inv }) in
    step_short a.curve.now a.s.now a.n a.i a.j q a.out.now k.result out k.ensures (omega arith)

pub overflow_cast-r : goal.overflow_cast-r
overflow_cast-r c =
    let a = c.args in
    let q = c.requires in
    let k = c.sum_slots-r in
    let out = k.new.out in
    let read = to_z-of_z {w = w32} {z = k.result} (record { sfits = k.type_inv }) in
    cast_fits a.curve.now a.s.now a.n a.i a.j q a.out.now k.result out k.ensures _ read (omega arith)

pub copy_in-requires : goal.copy_in-requires
copy_in-requires c =
    let a = c.args in
    let q = c.requires in
    let k = c.sum_slots-r in
    let out = k.new.out in
    let read = to_z-of_z {w = w32} {z = k.result} (record { sfits = k.type_inv }) in
    let fits = copy_fits a.curve.now a.s.now a.n a.i a.j q a.out.now k.result out k.ensures _ read (omega arith) c.close_up.new.s
    (omega arith) (omega arith) in
    omega (arith, fits.0, length-take-le _ _ fits.1)

pub returns : goal.returns
returns c =
    let a = c.args in
    let q = c.requires in
    let k = c.sum_slots-r in
    let out = k.new.out in
    let read = to_z-of_z {w = w32} {z = k.result} (record { sfits = k.type_inv }) in
    let fits = copy_fits a.curve.now a.s.now a.n a.i a.j q a.out.now k.result out k.ensures _ read (omega arith) c.close_up.new.s
    (omega arith) (omega arith) in
    step_long a.curve.now a.s.now a.n a.i a.j q a.out.now k.result out k.ensures _ read (omega arith)
    c.close_up.new.s c.copy_in.new.s (omega arith)
    c.close_up.ensures (copied_front _ _ _ _ _ fits.1 c.copy_in.ensures)
