-- `equation::nonsingular` meets its contract, by `test` of proofs/Singular.
use Rattle.equation.proofs.Singular.{start-asked, test}
use Rattle.equation.proofs.nonsingular.Goals as goal

pub insert_all-requires : goal.insert_all-requires
insert_all-requires c = rw (c.empty-t.ensures.rows, c.empty-t.ensures.degrees) (start-asked _ c.requires c.y_multiples-ys.ensures)

pub returns : goal.returns
returns c =
    let filled = rw (c.empty-t.ensures.rows, c.empty-t.ensures.degrees) at c.insert_all.ensures in
    test _ c.requires c.derivative_y-v.ensures c.y_multiples-ys.ensures filled c.derivative_x-w.ensures c.y_multiples-zs.ensures
    c.insert_all-2.ensures c.is_whole.ensures
