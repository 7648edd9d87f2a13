-- `entries::shifted` meets its contract, equation by equation.
use Rattle.entries.proofs.shifted.Goals as goal

pub returns : goal.returns
returns c =
    record {
      below = record { one = c.less2-one.ensures.below; x = c.less2-x.ensures.below; y = c.less2-y.ensures.below };
      one_is = c.less2-one.ensures.is;
      x_is = c.less2-x.ensures.is;
      y_is = c.less2-y.ensures.is;
    }
