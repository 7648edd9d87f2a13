-- `basis::is_basis` meets its contract: a record is a basis exactly if the span of its triple is closed under y.
use Rattle.basis.proofs.Test.{closed_asked, basis_test}
use Rattle.basis.proofs.is_basis.Goals as goal

pub closed-requires : goal.closed-requires
closed-requires c = closed_asked c.triple_of-t.ensures c.requires

pub returns : goal.returns
returns c = basis_test c.triple_of-t.ensures c.closed.ensures
