-- `entries::sum_matrix` meets its contract, column by column.
use Rattle.entries.proofs.sum_matrix.Goals as goal

pub returns : goal.returns
returns c =
    record {
      a = c.difference-a.result;
      b = c.difference-b.result;
      c = c.difference-c.result;
      d = c.shifted-d.result;
      e = c.shifted-e.result;
      rows = c.rows.ensures;
      a_is = c.difference-a.ensures;
      b_is = c.difference-b.ensures;
      c_is = c.difference-c.ensures;
      d_is = c.shifted-d.ensures;
      e_is = c.shifted-e.ensures;
    }
