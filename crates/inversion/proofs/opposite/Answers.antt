-- `inversion::opposite` meets its contract.
use Rattle.std.proofs.Common.{refl}
use Rattle.inversion.proofs.Negative.{one_more, negative}
use Rattle.inversion.proofs.opposite.Goals as goal

pub returns : goal.returns
returns c =
    negative _ _ _ _ _ _ _ _ _ _ c.requires refl
    (one_more _ _ _ c.low.ensures.is)
    c.low-f.ensures.is
    c.low-g.ensures.is
    c.low-h.ensures.is
    c.low-a.ensures.is
    c.low-b.ensures.is
    c.low-c.ensures.is
    c.low-2.ensures
