-- `usual::solved` meets its contract: it serves exactly where neither the determinant nor f2 of the sum is zero.
use mathlib.Core.Path.{subst}
use Rattle.matrix.specs.Matrix.{ColumnBelow}
use Rattle.usual.proofs.Pivots.{front, unserved, form-below, served}
use Rattle.usual.proofs.solved.Goals as goal

pub factors_of-f-requires : goal.factors_of-f-requires
factors_of-f-requires c =
    let asked = c.requires in
    let w = front c.cleared-c.ensures c.column_of-first.ensures c.column_of-d.ensures c.column_of-e.ensures in
    record { o_below = asked.o_below; f2_below = asked.n_below.n2; z_below = w.z_is.below; b_below = w.d_below.x; c_below = w.d_below.y; e_below = w.e_below.y }

pub returns-then-f-eq0 : goal.returns-then-f-eq0
returns-then-f-eq0 c = record { yes = tt; no = unserved _ c.requires.prime _ c.args.n _ _ _ _ _ (front c.cleared-c.ensures c.column_of-first.ensures c.column_of-d.ensures c.column_of-e.ensures) _ c.factors_of-f.ensures c.if-f-eq0.true }

pub inverses_of-i-requires : goal.inverses_of-i-requires
inverses_of-i-requires c =
    let asked = c.requires in
    let f = c.factors_of-f.ensures in
    record { prime = asked.prime; small = asked.n_below.small; y_below = f.y_is.below; zy_below = f.zy_is.below; zzz_below = f.zzz_is.below }

pub row_reduced-r-requires : goal.row_reduced-r-requires
row_reduced-r-requires c =
    let asked = c.requires in
    let w = front c.cleared-c.ensures c.column_of-first.ensures c.column_of-d.ensures c.column_of-e.ensures in record {
      small = asked.n_below.small;
      d_below = subst (ColumnBelow _) c.column_of-d.ensures w.d_below;
      e_below = subst (ColumnBelow _) c.column_of-e.ensures w.e_below;
      u_below = c.inverses_of-i.ensures.one_below;
    }

pub completed-requires : goal.completed-requires
completed-requires c =
    let asked = c.requires in
    let b = form-below _ c.requires.prime _ c.args.n _ _ _ _ _ (front c.cleared-c.ensures c.column_of-first.ensures c.column_of-d.ensures c.column_of-e.ensures) _ c.factors_of-f.ensures c.if-f-eq0.false _ c.inverses_of-i.ensures _ c.cleared-c.ensures c.row_reduced-r.ensures _ _ c.column_of-s.ensures c.column_of-t.ensures in
    record { o_below = asked.o_below; n_below = asked.n_below; s_below = b.0; t_below = b.1; i_below = c.inverses_of-i.ensures.two_below }

pub returns : goal.returns
returns c = record { yes = served _ c.requires.prime _ c.args.n _ _ _ _ _ (front c.cleared-c.ensures c.column_of-first.ensures c.column_of-d.ensures c.column_of-e.ensures) _ c.factors_of-f.ensures c.if-f-eq0.false _ c.inverses_of-i.ensures _ c.cleared-c.ensures c.row_reduced-r.ensures _ _ c.column_of-s.ensures c.column_of-t.ensures _ c.completed.ensures; no = tt }
