-- `star::star_from` meets its contract: the parts are asked for what they require, and the divisor of by_kind is the star.
use native.Mathlib.Omega.{arith}
use Rattle.star.proofs.Asked.{least-small, first_small, second-small, multiples_asked}
use Rattle.star.proofs.Result.{functional_asked, posed-of, starred_by}
use Rattle.star.proofs.star_from.Goals as goal

pub multiples-ys-requires : goal.multiples-ys-requires
multiples-ys-requires c =
    let a = c.requires in
    multiples_asked a.asked _ a.least.inside (omega (arith, least-small a.asked a.least))

pub multiples-us-requires : goal.multiples-us-requires
multiples-us-requires c =
    let a = c.requires in
    multiples_asked a.asked _ (omega arith) (omega (arith, first_small a.asked a.least))

pub multiples-ws-requires : goal.multiples-ws-requires
multiples-ws-requires c =
    let a = c.requires in
    multiples_asked a.asked _ (omega arith) (omega (arith, second-small a.asked a.least a.some))

pub functional-lam-requires : goal.functional-lam-requires
functional-lam-requires c =
    let a = c.requires in
    functional_asked a.asked a.least a.some c.multiples-ys.ensures

pub by_kind-requires : goal.by_kind-requires
by_kind-requires c =
    let a = c.requires in
    let lam = c.functional-lam.ensures in
    posed-of a.asked a.least a.some lam c.multiples-ys.ensures c.multiples-us.ensures c.multiples-ws.ensures

pub returns : goal.returns
returns c A =
    let a = c.requires in
    let lam = c.functional-lam.ensures in
    starred_by A a.least a.some lam c.multiples-ys.ensures c.multiples-us.ensures c.multiples-ws.ensures c.by_kind.ensures
