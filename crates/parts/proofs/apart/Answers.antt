-- `parts::apart` meets its contract: one of the two polynomials tried gives a smaller common part.
use native.Mathlib.Omega.{arith}
use Rattle.parts.proofs.Equivalents.{other-asked, other-meet_asked, apart_is, third-smaller}
use Rattle.parts.proofs.apart.Goals as goal

pub overlap-part-requires : goal.overlap-part-requires
overlap-part-requires c =
    let places = c.places_of-q.ensures in
    other-asked c.negative-n.ensures c.least-f.ensures c.member-u.ensures places.second_below c.requires

pub meet-multiple-requires : goal.meet-multiple-requires
meet-multiple-requires c =
    let places = c.places_of-q.ensures in
    other-meet_asked c.negative-n.ensures c.least-f.ensures c.member-u.ensures places.second_below c.requires

pub returns-then-degree : goal.returns-then-degree
returns-then-degree c A =
    let places = c.places_of-q.ensures in
    apart_is c.negative-n.ensures c.least-f.ensures c.member-u.ensures places.second_below A c.overlap-part.ensures
    c.meet-multiple.ensures (omega arith)

pub overlap-other-requires : goal.overlap-other-requires
overlap-other-requires c =
    let places = c.places_of-q.ensures in
    other-asked c.negative-n.ensures c.least-f.ensures c.member-w.ensures (omega (arith, places.first_below, places.third_below)) c.requires

pub meet-multiple-requires-2 : goal.meet-multiple-requires-2
meet-multiple-requires-2 c =
    let places = c.places_of-q.ensures in
    other-meet_asked c.negative-n.ensures c.least-f.ensures c.member-w.ensures (omega (arith, places.first_below, places.third_below)) c.requires

pub returns : goal.returns
returns c A =
    let places = c.places_of-q.ensures in
    let negative = c.negative-n.ensures in
    let least = c.least-f.ensures in
    apart_is negative least c.member-w.ensures (omega (arith, places.first_below, places.third_below)) A c.overlap-other.ensures c.meet-multiple-2.ensures
    (third-smaller negative least places c.member-u.ensures c.member-w.ensures c.overlap-part.ensures c.overlap-other.ensures A
    (omega arith))
