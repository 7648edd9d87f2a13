-- `tallies::add` meets its contract: each test counts as one record if it holds, and a record of no kind counts among all.
use mathlib.Core.Path.{refl, ap, ◌∙◌}
use mir.Val.{bool_byte}
use Rattle.tallies.proofs.More.{tallies-more}
use Rattle.tallies.proofs.add.Goals as goal

pub returns-in-Ok : goal.returns-in-Ok
returns-in-Ok c =
    rw c.in-Ok.is
    (tallies-more c.args.t c.in-Ok.x c.typical.result c.typical.ensures
    (c.from.ensures ∙ ap bool_byte c.eq.ensures) (c.from-in-Ok.ensures ∙ ap bool_byte c.eq-in-Ok.ensures) (c.from-in-Ok-2.ensures ∙ ap bool_byte c.eq-in-Ok-2.ensures)
    (c.from-in-Ok-3.ensures ∙ ap bool_byte c.eq-in-Ok-3.ensures) (c.from-in-Ok-4.ensures ∙ ap bool_byte c.eq-in-Ok-4.ensures) c.from-in-Ok-5.ensures)

pub returns-in-Err : goal.returns-in-Err
returns-in-Err c = rw c.in-Err.is refl
