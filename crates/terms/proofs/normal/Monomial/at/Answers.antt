-- `Monomial::at` meets its contract: the table passes its test.
use Rattle.std.proofs.Common.{None}
use Rattle.terms.specs.declared.normal.TheConstants.{MONOMIALS}
use Rattle.terms.proofs.Table.{table-says}
use Rattle.terms.proofs.normal.Monomial.at.Goals as goal

pub returns : goal.returns
returns c = table-says MONOMIALS None tt c.args.n c.requires
