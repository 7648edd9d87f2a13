-- `matrix::row_reduced` meets its contract: the last two columns are multiplied by the inverse of the determinant.
use mathlib.Core.Path.{sym, subst}
use Rattle.matrix.specs.Matrix.{ColumnBelow}
use Rattle.matrix.proofs.Reduced.{row_reduced}
use Rattle.matrix.proofs.row_reduced.Goals as goal

pub times-d-requires : goal.times-d-requires
times-d-requires c =
    record { small = c.requires.small; v_below = subst (ColumnBelow _) (sym c.column_of.ensures) c.requires.d_below; u_below = c.requires.u_below }

pub times-e-requires : goal.times-e-requires
times-e-requires c =
    record { small = c.requires.small; v_below = subst (ColumnBelow _) (sym c.column_of-2.ensures) c.requires.e_below; u_below = c.requires.u_below }

pub returns : goal.returns
returns c =
    row_reduced c.column_of.ensures c.column_of-2.ensures c.times-d.ensures c.times-e.ensures
    c.rows.ensures
