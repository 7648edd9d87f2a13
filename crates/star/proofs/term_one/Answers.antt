-- `star::term_one` meets its contract.
use Rattle.star.proofs.Numbers.{term_one-is}
use Rattle.star.proofs.term_one.Goals as goal

pub returns : goal.returns
returns c =
    term_one-is c.requires.values c.value_at-a.ensures c.mul_add-b.ensures c.mul_add-e.ensures c.neg.ensures
