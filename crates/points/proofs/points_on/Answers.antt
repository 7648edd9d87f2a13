-- The divisor is read, and its points are listed where the slice has room, by the laws of proofs/Found.
use native.Mathlib.Omega.{arith}
use Rattle.refusal.proofs.Passed.{passed_on}
use Rattle.reader.proofs.Ground.{grounded_on}
use Rattle.points.proofs.Found.{listed-asked, on_refused, on_short, on_written}
use Rattle.points.proofs.points_on.Goals as goal

pub read_divisor-requires : goal.read_divisor-requires
read_divisor-requires c = grounded_on c.requires.1

pub returns-in_err-x : goal.returns-in_err-x
returns-in_err-x c = rw (passed_on _ c.from_residual.ensures.1) (on_refused c.args.divisor.now _ c.in_err-x.ensures)

pub returns-then-out-lt-ROOM : goal.returns-then-out-lt-ROOM
returns-then-out-lt-ROOM c = on_short c.args.divisor.now _ c.in_ok-x.ensures (omega (arith, c.if-out-lt-ROOM.true))

pub list_points-requires : goal.list_points-requires
list_points-requires c = listed-asked c.args.divisor.now _ c.in_ok-x.ensures c.requires (omega (arith, c.if-out-lt-ROOM.false))

pub returns : goal.returns
returns c = on_written c.args.divisor.now _ c.in_ok-x.ensures (omega (arith, c.if-out-lt-ROOM.false)) c.list_points.ensures
