-- `group::by_product` meets its contract: two stars of the product, or the other divisor where one is of kind 0.
use Rattle.group.proofs.Sums.{sum_of, sum_left, sum-right, star-divisor}
use borrow.Author.Rules.{rules}
use Rattle.group.proofs.by_product.Goals as goal

pub returns-then-eq : goal.returns-then-eq
returns-then-eq c = sum_left (search rules)

pub returns-then-eq-2 : goal.returns-then-eq-2
returns-then-eq-2 c = sum-right (search rules)

pub negative-requires : goal.negative-requires
negative-requires c = search (rules, star-divisor c.product_star-s.ensures)

pub returns : goal.returns
returns c = sum_of c.product_star-s.ensures c.negative.ensures
