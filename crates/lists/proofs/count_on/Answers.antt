-- Each step counts one more for the kind.
use Rattle.std.proofs.Common.{rules}
use Rattle.lists.proofs.Lists.{tally-asked, found-tally}
use Rattle.lists.proofs.count_on.Goals as goal

pub fold_records-requires-clause-callable : goal.fold_records-requires-clause-callable
fold_records-requires-clause-callable c a x h = tally-asked c.args.kind (λ n m x q. search rules) c.requires h

pub returns : goal.returns
returns c = found-tally c.args.kind (λ n m x q. search rules) _ _ c.fold_records.ensures
