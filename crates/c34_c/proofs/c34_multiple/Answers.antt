-- The number is handed over, and the result handed back.
use mir.Facts.{to_z-of_z}
use mir.Syntax.{w32}
use Rattle.c34_c.proofs.c34_multiple.Goals as goal

pub returns : goal.returns
returns c =
    let call = c.c34_multiple in
    rw (to_z-of_z {w = w32} {z = call.result} (record { sfits = call.type_inv })) (rw (to_z-of_z c.ranges.n) at call.ensures)
