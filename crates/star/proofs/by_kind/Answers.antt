-- `star::by_kind` meets its contract: the branch taken is that of the kind, and its candidates are solved.
use mathlib.Core.Path.{refl}
use Rattle.star.specs.Parts.{is_31, is_21, is_22, is_11}
use Rattle.star.proofs.by_kind.Goals as goal

pub returns-then-q-2 : goal.returns-then-q-2
returns-then-q-2 c =
    is_31 _ _ _ c.if-q-2.true c.if-q.true c.solve-f.ensures c.solve-g.ensures c.solve-h.ensures refl

pub returns-then-q : goal.returns-then-q
returns-then-q c =
    is_21 _ _ c.if-q-2.false c.if-q.true c.solve-f-then-q.ensures c.solve-g-then-q.ensures c.of_four.ensures

pub returns-then-q-3 : goal.returns-then-q-3
returns-then-q-3 c =
    is_22 _ _ c.if-q-3.true c.if-q.false c.solve-f-2.ensures c.solve-g-then-q-3.ensures c.of_four-then-q-3.ensures

pub returns : goal.returns
returns c =
    is_11 _ _ c.if-q-3.false c.if-q.false c.solve-f-2.ensures c.solve-g-2.ensures c.of_four-2.ensures
