-- `matrix::cleared` meets its contract, by Cramer's rule.
use native.Mathlib.Omega.{arith}
use Rattle.matrix.proofs.Reduced.{below_at, cleared_made}
use Rattle.matrix.proofs.cleared.Goals as goal

pub crossed-bc-requires : goal.crossed-bc-requires
crossed-bc-requires c =
    record { small = c.requires.small; a_below = below_at c.requires 1 (omega arith) c.column_of-b.ensures; b_below = below_at c.requires 2 (omega arith) c.column_of-c.ensures }

pub crossed-ca-requires : goal.crossed-ca-requires
crossed-ca-requires c =
    record { small = c.requires.small; a_below = below_at c.requires 2 (omega arith) c.column_of-c.ensures; b_below = below_at c.requires 0 (omega arith) c.column_of-a.ensures }

pub crossed-ab-requires : goal.crossed-ab-requires
crossed-ab-requires c =
    record { small = c.requires.small; a_below = below_at c.requires 0 (omega arith) c.column_of-a.ensures; b_below = below_at c.requires 1 (omega arith) c.column_of-b.ensures }

pub dotted-z-requires : goal.dotted-z-requires
dotted-z-requires c =
    record { small = c.requires.small; a_below = below_at c.requires 0 (omega arith) c.column_of-a.ensures; b_below = c.crossed-bc.ensures.below }

pub coordinates-d-requires : goal.coordinates-d-requires
coordinates-d-requires c =
    record {
      small = c.requires.small;
      v_below = below_at c.requires 3 (omega arith) c.column_of.ensures;
      a_below = c.crossed-bc.ensures.below;
      b_below = c.crossed-ca.ensures.below;
      c_below = c.crossed-ab.ensures.below;
    }

pub coordinates-e-requires : goal.coordinates-e-requires
coordinates-e-requires c =
    record {
      small = c.requires.small;
      v_below = below_at c.requires 4 (omega arith) c.column_of-2.ensures;
      a_below = c.crossed-bc.ensures.below;
      b_below = c.crossed-ca.ensures.below;
      c_below = c.crossed-ab.ensures.below;
    }

pub returns : goal.returns
returns c =
    cleared_made c.column_of-a.ensures c.column_of-b.ensures c.column_of-c.ensures c.column_of.ensures
    c.column_of-2.ensures
    (record {
      bc_is = c.crossed-bc.ensures;
      ca_is = c.crossed-ca.ensures;
      ab_is = c.crossed-ab.ensures;
      z_is = c.dotted-z.ensures;
      d_is = c.coordinates-d.ensures;
      e_is = c.coordinates-e.ensures;
      rows = c.rows.ensures;
    })
