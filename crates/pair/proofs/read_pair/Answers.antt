-- `pair::read_pair` meets its contract, by the laws of proofs/Pairs.
use Rattle.pair.proofs.Pairs.{pair_outside, pair-asked, pair_off, pair_on}
use Rattle.pair.proofs.read_pair.Goals as goal

pub returns-then-not-in_field : goal.returns-then-not-in_field
returns-then-not-in_field c = pair_outside _ _ (c.in_field.ensures.fails c.if-not-in_field.true)

pub neg-f0-requires : goal.neg-f0-requires
neg-f0-requires c = record { below = (c.in_field.ensures.holds c.if-not-in_field.false).0 }

pub neg-g0-requires : goal.neg-g0-requires
neg-g0-requires c = record { below = (c.in_field.ensures.holds c.if-not-in_field.false).1 }

pub is_basis-requires : goal.is_basis-requires
is_basis-requires c = pair-asked _ _ c.neg-f0.ensures c.neg-g0.ensures c.of_four-x.ensures c.requires

pub returns-then-not-is_basis : goal.returns-then-not-is_basis
returns-then-not-is_basis c =
    pair_off _ _ c.neg-f0.ensures c.neg-g0.ensures c.of_four-x.ensures c.is_basis.ensures
    (c.in_field.ensures.holds c.if-not-in_field.false) c.if-not-is_basis.true

pub returns : goal.returns
returns c =
    pair_on _ _ c.neg-f0.ensures c.neg-g0.ensures c.of_four-x.ensures c.is_basis.ensures
    (c.in_field.ensures.holds c.if-not-in_field.false) c.if-not-is_basis.false
