-- The buffer, the form and the numbers are tested, and then the short record is written.
use mathlib.Core.Path.{refl, sym, subst}
use mathlib.Core.Logic.{inl, inr}
use native.Mathlib.Omega.{arith}
use Rattle.divisor.specs.Kind.{Kind}
use Rattle.record.specs.Divisor.{OfKind, divisor_form}
use Rattle.record.proofs.Cause.{sound_must, passes_refuses}
use Rattle.checks.specs.Contract.{ValueOf}
use Rattle.bench_short.proofs.Value.{value-shaped, value_same, write_fits}
use Rattle.bench_short.proofs.bench_shorten.Goals as goal

pub returns-then-out-lt-ROOM : goal.returns-then-out-lt-ROOM
returns-then-out-lt-ROOM c = inr (λ x fit. omega (arith, fit.enough, c.if-out-lt-ROOM.true), refl, refl)

pub returns-in_default : goal.returns-in_default
returns-in_default c =
    inr (
      λ x fit. passes_refuses (divisor_form _) (sound_must _ _, (sound_must _ _, (sound_must _ _, tt))) fit.form _ c.in_default.ensures,
      refl,
      refl,
    )

pub returns-then-not-all_below : goal.returns-then-not-all_below
returns-then-not-all_below c =
    inr (
      λ x fit.
          c.all_below.ensures.fails c.if-not-all_below.true (value_same _ _ x.kind c.in-Ok.kind x _ fit.value c.value-x.ensures fit.below),
      refl,
      refl,
    )

pub write_short-n-requires : goal.write_short-n-requires
write_short-n-requires c =
    let below = c.all_below.ensures.holds c.if-not-all_below.false in
    record { shaped = value-shaped _ _ c.in-Ok.kind _ c.value-x.ensures below; enough = c.if-out-lt-ROOM.false }

pub overflow_cast-result : goal.overflow_cast-result
overflow_cast-result c = omega (arith, write_fits _ (omega arith) _ _ _ _ c.write_short-n.ensures)

pub returns : goal.returns
returns c =
    let a = c.args.divisor.now in
    let x = c.value-x.result in
    let v = c.value-x.ensures in
    inl (
      _,
      record {
        enough = c.if-out-lt-ROOM.false;
        form = c.in-Ok.ensures.0;
        kind = subst (OfKind a) (sym v.kind) c.in-Ok.ensures.1;
        value = subst (λ (κ : Kind). ValueOf κ a x) (sym v.kind) v;
        below = c.all_below.ensures.holds c.if-not-all_below.false;
      },
      c.write_short-n.ensures,
    )
