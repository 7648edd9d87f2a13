-- Each return is at the first of the three stages that is not passed.
use mathlib.Core.Path.{sym, refl, ap, ap₂, ◌∙◌}
use mathlib.Core.Logic.{inl, inr}
use Prim.Native.Nat.{ℕ, ◌+◌, ◌*◌, ◌/◌}
use native.Mathlib.Nat.{mul-le-mul}
use native.Mathlib.Omega.{arith}
use Rattle.divisor.specs.Kind.{count}
use Rattle.short.proofs.Accepted.{same-short}
use Rattle.short_reader.proofs.ShortReader.{old-kind, short-kind}
use Rattle.short_reader.proofs.short_form.Goals as goal

pub returns-then-not-sized : goal.returns-then-not-sized
returns-then-not-sized c = (inl (c.sized.ensures.fails c.if-not-sized.true, refl))

pub read_u16-code-requires : goal.read_u16-code-requires
read_u16-code-requires c = omega (arith, c.sized.ensures.holds c.if-not-sized.false)

pub returns-then-code-lt100 : goal.returns-then-code-lt100
returns-then-code-lt100 c =
    let h = c.sized.ensures.holds c.if-not-sized.false in
    (inr (h, inl (λ k. omega (arith, c.read_u16-code.ensures.is, k.1, c.if-code-lt100.true), refl)))

pub returns-in_default : goal.returns-in_default
returns-in_default c =
    let h = c.sized.ensures.holds c.if-not-sized.false in
    let e = c.read_u16-code.ensures.is in
    let unknown = c.in_default.ensures.1 in
    (inr (h, inl (λ k. unknown (k.0, old-kind _ k.0 _ e k.1), refl)))

pub overflow_mul-size : goal.overflow_mul-size
overflow_mul-size c = omega (arith, mul-le-mul c.bit_length-w.ensures.small c.count.ensures.small)

pub overflow_add-size : goal.overflow_add-size
overflow_add-size c = omega (arith, mul-le-mul c.bit_length-w.ensures.small c.count.ensures.small)

pub overflow_add-size-2 : goal.overflow_add-size-2
overflow_add-size-2 c = omega (arith, mul-le-mul c.bit_length-w.ensures.small c.count.ensures.small)

pub returns-then-s-size : goal.returns-then-s-size
returns-then-s-size c =
    let h = c.sized.ensures.holds c.if-not-sized.false in
    let κ = c.in-Ok.kind in
    let e = short-kind _ κ _ c.read_u16-code.ensures.is c.if-code-lt100.false c.in-Ok.ensures in
    let w = c.bit_length-w.ensures.is in
    (inr (
      h,
      inr (
        (κ, e),
        inl (λ g. c.if-s-size.true (g κ e ∙ ap₂ (λ (a b : ℕ). 4 + (a * b + 7) / 8) (sym w) (sym c.count.ensures.is)), refl),
      ),
    ))

pub returns : goal.returns
returns c =
    let h = c.sized.ensures.holds c.if-not-sized.false in
    let κ = c.in-Ok.kind in
    let e = short-kind _ κ _ c.read_u16-code.ensures.is c.if-code-lt100.false c.in-Ok.ensures in
    let w = c.bit_length-w.ensures.is in (
      (
        h,
        (
          (κ, e),
          (
            λ κ' q.
                c.if-s-size.false
                ∙ ap₂ (λ (a b : ℕ). 4 + (a * b + 7) / 8) w (c.count.ensures.is ∙ ap count (same-short c.args.s.now κ κ' e q)),
            tt,
          ),
        ),
      ),
      e,
    )
