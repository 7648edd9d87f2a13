-- By the sign: m copies, or their negative.
use mir.Facts.{to_z-of_z}
use Rattle.classes.proofs.Multiple.{copies-asked, multiple_up, multiple_down}
use Rattle.classes.proofs.multiple_of.Goals as goal

pub negative-requires : goal.negative-requires
negative-requires c = copies-asked c.in-Down.m c.requires c.multiple-r.ensures

pub returns-in-Up : goal.returns-in-Up
returns-in-Up c =
    let size = c.size_of-size in
    multiple_up c.args.n size.result (rw (to_z-of_z c.ranges.n) at size.ensures) _ c.in-Up.is c.multiple.ensures

pub returns-in-Down : goal.returns-in-Down
returns-in-Down c =
    let size = c.size_of-size in
    multiple_down c.args.n size.result (rw (to_z-of_z c.ranges.n) at size.ensures) _ c.in-Down.is c.multiple-r.ensures
    c.negative.ensures
