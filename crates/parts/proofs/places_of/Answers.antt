-- `parts::places_of` meets its contract: by the kind.
use Rattle.parts.proofs.Classes.{places_21, places_22, places-other}
use borrow.Author.Rules.{rules}
use Rattle.parts.proofs.places_of.Goals as goal

pub returns-in-K21 : goal.returns-in-K21
returns-in-K21 c = rw c.in-K21.is places_21

pub returns-in-K22 : goal.returns-in-K22
returns-in-K22 c = rw c.in-K22.is places_22

pub returns-in-Zero : goal.returns-in-Zero
returns-in-Zero c = places-other (search rules)
