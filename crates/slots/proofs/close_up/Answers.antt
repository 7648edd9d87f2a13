-- `slots::close_up` meets its contract. The loop's invariant: m slots are passed, and what is left of their records stands in the first w slots.
use mathlib.Core.Path.{refl, ◌∙◌}
use native.Mathlib.Omega.{arith}
use Rattle.slots.proofs.Slots.{closing_none, closing_turn, closing_all, passed-below}
use Rattle.slots.proofs.close_up.Goals as goal

pub loop-m-init : goal.loop-m-init
loop-m-init c =
    let a = c.args in
    (omega arith, refl, λ p e h. closing_none a.i a.j p a.s.now h)

pub loop-m-preserved : goal.loop-m-preserved
loop-m-preserved c =
    let l = c.loop-m in
    let a = c.args in
    let k = c.pass_slot-w in (
      passed-below l.invariant.0 k.ensures,
      k.auto.s ∙ l.invariant.1,
      λ p e h.
          closing_turn a.i a.j p l.m l.w l.s (omega arith) (l.invariant.2 p e h) k.new.s k.result l.invariant.0
          (omega (arith, h.fits, l.invariant.1)) (h.short l.m (omega arith)) k.ensures,
    )

pub returns : goal.returns
returns c =
    let l = c.loop-m in
    let a = c.args in
    λ p e h. closing_all a.i a.j p l.m l.w l.s (omega arith) (l.invariant.2 p e h)
