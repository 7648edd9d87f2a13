-- Each return is at the first of the four stages that is not passed, or behind them all.
use mathlib.Core.Path.{refl}
use mathlib.Core.Logic.{inl, inr}
use native.Mathlib.Omega.{arith}
use Rattle.quotients.proofs.Denominators.{zero-refused, unit-passes}
use Rattle.fractions.proofs.Reduced.{nonsingular_asked, reduced-accepted, reduced_singular}
use Rattle.fractions.proofs.reduce.Goals as goal

pub returns-then-not-has_form : goal.returns-then-not-has_form
returns-then-not-has_form c = inl (c.has_form.ensures.fails c.if-not-has_form.true, refl)

pub returns-then-not-is_modulus : goal.returns-then-not-is_modulus
returns-then-not-is_modulus c =
    let form = c.has_form.ensures.holds c.if-not-has_form.false in
    inr (form, inl (c.is_modulus.ensures.fails c.if-not-is_modulus.true, refl))

pub residues-d-requires : goal.residues-d-requires
residues-d-requires c =
    let form = c.has_form.ensures.holds c.if-not-has_form.false in
    let m = c.is_modulus.ensures.holds c.if-not-is_modulus.false in
    record { long = form.2; positive = omega (arith, m.0.two_le) }

pub products-before-requires : goal.products-before-requires
products-before-requires c =
    let m = c.is_modulus.ensures.holds c.if-not-is_modulus.false in
    record { large = omega (arith, m.0.two_le); below = λ i l. (c.residues-d.ensures.each i l).below }

pub returns-then-before-eq0 : goal.returns-then-before-eq0
returns-then-before-eq0 c =
    let form = c.has_form.ensures.holds c.if-not-has_form.false in
    let m = c.is_modulus.ensures.holds c.if-not-is_modulus.false in
    inr (form, inr (m, inl (zero-refused c.args.p _ m.0 c.residues-d.ensures c.products-before.ensures c.if-before-eq0.true, refl)))

pub quotients-c-requires : goal.quotients-c-requires
quotients-c-requires c =
    let form = c.has_form.ensures.holds c.if-not-has_form.false in
    let m = c.is_modulus.ensures.holds c.if-not-is_modulus.false in
    record { long = form.2; prime = m.0; residues = c.residues-d.ensures; products = c.products-before.ensures; unit = c.if-before-eq0.false }

pub is_nonsingular-requires : goal.is_nonsingular-requires
is_nonsingular-requires c =
    let m = c.is_modulus.ensures.holds c.if-not-is_modulus.false in
    nonsingular_asked c.args.s.now c.args.p m.0 m.1 c.quotients-c.result c.quotients-c.ensures c.equation_from-e.result c.equation_from-e.ensures

pub returns-then-not-is_nonsingular : goal.returns-then-not-is_nonsingular
returns-then-not-is_nonsingular c =
    let form = c.has_form.ensures.holds c.if-not-has_form.false in
    let m = c.is_modulus.ensures.holds c.if-not-is_modulus.false in
    let pass = unit-passes c.args.p _ m.0 c.residues-d.ensures c.products-before.ensures c.if-before-eq0.false in
    let q = c.quotients-c in
    let e = c.equation_from-e in
    let n = c.is_nonsingular.ensures.fails c.if-not-is_nonsingular.true in
    inr (form, inr (m, inr (pass, inl (reduced_singular c.args.s.now c.args.p m.0 m.1 q.result q.ensures e.result e.ensures pass n, refl))))

pub returns : goal.returns
returns c =
    let form = c.has_form.ensures.holds c.if-not-has_form.false in
    let m = c.is_modulus.ensures.holds c.if-not-is_modulus.false in
    let pass = unit-passes c.args.p _ m.0 c.residues-d.ensures c.products-before.ensures c.if-before-eq0.false in
    let q = c.quotients-c in
    let e = c.equation_from-e in
    let smooth = c.is_nonsingular.ensures.holds c.if-not-is_nonsingular.false in
    reduced-accepted c.args.s.now c.args.p m.0 m.1 q.result q.ensures e.result e.ensures form pass smooth
