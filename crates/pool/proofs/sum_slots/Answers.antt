-- `pool::sum_slots` meets its contract: the parts of the pool are the records at the two slots.
use mir.Facts.{to_z-of_z}
use mir.Syntax.{w32}
use Rattle.pool.proofs.Calls.{sum-slots}
use Rattle.pool.proofs.sum_slots.Goals as goal

pub returns : goal.returns
returns c =
    let a = c.args in
    let k = c.sum in
    sum-slots a.curve.now a.s.now a.i a.j c.read_u16-n.result
    c.read_u16-m.result a.out.now k.result _ k.new.out
    c.read_u16-n.ensures.is
    c.read_u16-m.ensures.is
    (to_z-of_z {w = w32} {z = k.result} (record { sfits = k.type_inv }))
    k.ensures
