-- `listing::stands` meets its contract, by the laws of proofs/Counted.
use Rattle.listing.proofs.Counted.{stands_asked, stands-point, stands-other}
use Rattle.listing.proofs.stands.Goals as goal

pub read_pair-requires : goal.read_pair-requires
read_pair-requires c = let s = c.requires.divided in (s.0, s.2)

pub multiplicity-requires : goal.multiplicity-requires
multiplicity-requires c = stands_asked _ _ _ _ c.in-Ok.ensures c.triple_of-u.ensures c.requires

pub returns-in-Ok : goal.returns-in-Ok
returns-in-Ok c = stands-point _ _ _ _ c.in-Ok.ensures c.triple_of-u.ensures c.requires.triple c.multiplicity.ensures

pub returns-in-Err : goal.returns-in-Err
returns-in-Err c = stands-other _ _ _ _ c.in-Err.ensures
