-- `unpacking::five` meets its contract.
use native.Mathlib.Omega.{arith}
use Rattle.unpacking.proofs.Steps.{five_last, five_whole}
use Rattle.unpacking.proofs.five.Goals as goal

pub returns-then-s-at : goal.returns-then-s-at
returns-then-s-at c =
    let a = c.args in
    five_last a.s.now a.at c.last.result (λ i. omega (arith, c.type_inv.s i)) (omega arith) c.last.ensures

pub returns : goal.returns
returns c =
    let a = c.args in
    let low = c.read_u32-low in
    five_whole a.s.now a.at _ low.result (λ i. omega (arith, c.type_inv.s i)) (omega arith) low.ensures (omega arith)
