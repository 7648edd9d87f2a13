-- `combination::star_of` meets its contract: u·I and v·J are added to the triple without members, and its star is taken.
use Rattle.combination.proofs.Stars.{first-asked, combined-asked, combination_of}
use Rattle.combination.proofs.star_of.Goals as goal

pub add-requires : goal.add-requires
add-requires c = rw (c.empty-t.ensures.rows, c.empty-t.ensures.degrees) (first-asked c.requires)

pub star-requires : goal.star-requires
star-requires c =
    combined-asked (rw c.empty-t.ensures.rows at c.add.ensures) c.add-2.ensures c.requires

pub returns : goal.returns
returns c =
    combination_of (rw c.empty-t.ensures.rows at c.add.ensures) c.add-2.ensures c.star.ensures
