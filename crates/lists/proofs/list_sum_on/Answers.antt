-- Each step adds the next divisor.
use Rattle.std.proofs.Common.{rules}
use Rattle.lists.proofs.Lists.{sum-asked, found-sum}
use Rattle.lists.proofs.list_sum_on.Goals as goal

pub fold_records-requires-clause-callable : goal.fold_records-requires-clause-callable
fold_records-requires-clause-callable c a x h = sum-asked (λ a b x m. search rules) c.zero_class.ensures c.requires h

pub returns : goal.returns
returns c = found-sum (λ a b x m. search rules) c.zero_class.ensures _ _ c.fold_records.ensures
