-- `multiplicity::multiplicity` meets its contract, by the laws of proofs/Powers.
use Rattle.multiplicity.proofs.Powers.{square-asked, cube-asked, found_none, found_once, found-twice, found-thrice}
use mathlib.Core.Path.{ap}
use mathlib.Core.Bool.{not}
use Rattle.multiplicity.proofs.multiplicity.Goals as goal

pub inside-requires : goal.inside-requires
inside-requires c = record { full = c.requires.full_t; triple = c.requires.full_u.triple }

pub returns-then-not-inside : goal.returns-then-not-inside
returns-then-not-inside c = found_none c.inside.ensures (ap not c.if-not-inside.true)

pub product-square-requires : goal.product-square-requires
product-square-requires c = square-asked c.requires

pub inside-requires-2 : goal.inside-requires-2
inside-requires-2 c = record { full = c.requires.full_t; triple = c.product-square.ensures.full.triple }

pub returns-then-not-inside-2 : goal.returns-then-not-inside-2
returns-then-not-inside-2 c =
    found_once c.inside.ensures (ap not c.if-not-inside.false) c.product-square.ensures c.inside-2.ensures (ap not c.if-not-inside-2.true)

pub product-third-requires : goal.product-third-requires
product-third-requires c = cube-asked c.requires c.product-square.ensures c.inside-2.ensures (ap not c.if-not-inside-2.false)

pub inside-requires-3 : goal.inside-requires-3
inside-requires-3 c = record { full = c.requires.full_t; triple = c.product-third.ensures.full.triple }

pub returns-then-not-inside-3 : goal.returns-then-not-inside-3
returns-then-not-inside-3 c =
    found-twice c.inside.ensures (ap not c.if-not-inside.false) c.product-square.ensures c.inside-2.ensures (ap not c.if-not-inside-2.false)
    c.product-third.ensures c.inside-3.ensures (ap not c.if-not-inside-3.true)

pub returns : goal.returns
returns c =
    found-thrice c.inside.ensures (ap not c.if-not-inside.false) c.product-square.ensures c.inside-2.ensures (ap not c.if-not-inside-2.false)
    c.product-third.ensures c.inside-3.ensures (ap not c.if-not-inside-3.false)
