-- Each return is at the first of the three stages that is not passed.
use mathlib.Core.Path.{sym, refl, ap, ◌∙◌}
use mathlib.Core.Logic.{inl, inr}
use Prim.Native.Nat.{ℕ, ◌+◌, ◌*◌}
use native.Mathlib.Omega.{arith}
use Rattle.divisor.specs.Kind.{size}
use Rattle.record.proofs.Accepted.{same_kind}
use Rattle.form.proofs.divisor_form.Goals as goal

pub returns-then-not-sized : goal.returns-then-not-sized
returns-then-not-sized c = inl (c.sized.ensures.fails c.if-not-sized.true, refl)

pub read_u16-code-requires : goal.read_u16-code-requires
read_u16-code-requires c = omega (arith, c.sized.ensures.holds c.if-not-sized.false)

pub returns-in_default : goal.returns-in_default
returns-in_default c =
    let h = c.sized.ensures.holds c.if-not-sized.false in
    let unknown = c.in_default.ensures.1 in
    inr (h, inl (λ k. unknown (k.0, c.read_u16-code.ensures.is ∙ k.1), refl))

pub returns-then-s-size : goal.returns-then-s-size
returns-then-s-size c =
    let h = c.sized.ensures.holds c.if-not-sized.false in
    let κ = c.in-Ok.kind in
    let e = sym c.read_u16-code.ensures.is ∙ c.in-Ok.ensures in
    inr (h, inr ((κ, e), inl (λ g. c.if-s-size.true (g κ e ∙ ap (λ (n : ℕ). 4 + 4 * n) (sym c.count.ensures.is)), refl)))

pub returns : goal.returns
returns c =
    let h = c.sized.ensures.holds c.if-not-sized.false in
    let κ = c.in-Ok.kind in
    let e = sym c.read_u16-code.ensures.is ∙ c.in-Ok.ensures in (
      (
        h,
        (
          (κ, e),
          (λ κ' q. c.if-s-size.false ∙ ap (λ (n : ℕ). 4 + 4 * n) c.count.ensures.is ∙ ap size (same_kind c.args.s.now κ κ' e q), tt),
        ),
      ),
      e,
    )
