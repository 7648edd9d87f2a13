-- `group::by_formulas` meets its contract: the sum of the formulas where they are tried and serve.
use Rattle.group.proofs.Formulas.{formulas_tried, formulas_sum, first-other, second-other}
use borrow.Author.Rules.{rules}
use Rattle.group.proofs.by_formulas.Goals as goal

pub returns-then-ne : goal.returns-then-ne
returns-then-ne c = first-other (search rules)

pub returns-then-ne-2 : goal.returns-then-ne-2
returns-then-ne-2 c = second-other (search rules)

pub sum_tried-requires : goal.sum_tried-requires
sum_tried-requires c = formulas_tried (search rules) (search rules) c.requires

pub returns : goal.returns
returns c = formulas_sum (search rules) (search rules) c.sum_tried.ensures
