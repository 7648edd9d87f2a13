-- Each return is at the first stage that is not passed; the laws are those of DivisorReader.
use native.Mathlib.Omega.{arith}
use Rattle.reader.proofs.DivisorReader.{refused_8, basis_asked, found-no_basis, found-basis}
use Rattle.reader.proofs.read_divisor.Goals as goal

pub returns-then-not-all_below : goal.returns-then-not-all_below
returns-then-not-all_below c G =
    let h = c.in_ok-kind.ensures in
    refused_8 _ G.ready.setting.prime c.args.s.now c.value-r.result h.1 c.value-r.ensures h.0 G.ready.setting.curve
    (c.all_below.ensures.fails c.if-not-all_below.true)

pub is_basis-requires : goal.is_basis-requires
is_basis-requires c =
    let h = c.in_ok-kind.ensures in
    let below = c.all_below.ensures.holds c.if-not-all_below.false in
    basis_asked c.args.s.now c.value-r.result h.1 c.value-r.ensures h.0 below c.requires

pub returns-then-not-is_basis : goal.returns-then-not-is_basis
returns-then-not-is_basis c G =
    let h = c.in_ok-kind.ensures in
    let below = c.all_below.ensures.holds c.if-not-all_below.false in
    found-no_basis c.args.s.now c.value-r.result h.1 c.value-r.ensures h.0 below G c.is_basis.ensures c.if-not-is_basis.true

pub returns : goal.returns
returns c G =
    let h = c.in_ok-kind.ensures in
    let below = c.all_below.ensures.holds c.if-not-all_below.false in
    found-basis c.args.s.now c.value-r.result h.1 c.value-r.ensures h.0 below G c.is_basis.ensures c.if-not-is_basis.false
    (λ i. omega (arith, c.type_inv.s i))
