-- `slots::pass_slot` meets its contract.
use mathlib.Core.Path.{refl}
use Rattle.slots.specs.Held.{first, second, other}
use Rattle.slots.proofs.pass_slot.Goals as goal

pub returns-then-m-i : goal.returns-then-m-i
returns-then-m-i c = first c.if-m-i.true refl refl

pub returns-then-m-j : goal.returns-then-m-j
returns-then-m-j c = second c.if-m-j.true refl refl

pub returns : goal.returns
returns c =
    other c.if-m-i.false c.if-m-j.false c.copy_back.ensures
    refl
