-- Each step takes the next record.
use Rattle.std.proofs.Common.{rules}
use Rattle.pass.proofs.Records.{with_asked, found-pass}
use Rattle.pass.proofs.pass_on.Goals as goal

pub fold_records-requires-clause-callable : goal.fold_records-requires-clause-callable
fold_records-requires-clause-callable c p x h = with_asked (λ p q x m. search rules) c.none.ensures.sum c.none.ensures.tallies c.requires h

pub returns : goal.returns
returns c = found-pass (λ p q x m. search rules) c.none.ensures.sum c.none.ensures.tallies _ _ c.fold_records.ensures
