-- `lambda::value_at` meets its contract.
use Rattle.lambda.proofs.Pairing.{value_asked, value_at}
use Rattle.lambda.proofs.value_at.Goals as goal

pub value-requires : goal.value-requires
value-requires c = value_asked c.requires

pub returns : goal.returns
returns c = value_at c.requires c.value.ensures
