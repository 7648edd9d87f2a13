-- A number below 2³¹ is itself; what is missing to 2³² of another is negated.
use mathlib.Core.Path.{sym, ap, ◌∙◌}
use native.Mathlib.Omega.{arith}
use native.Mathlib.Nat.{mod-lt}
use Prim.Native.Nat.{ℕ}
use Rattle.field.specs.Residue.{Z, el}
use Rattle.field.proofs.Element.{el_mod}
use Rattle.quotients.proofs.Signed.{signed_up, signed_down}
use Rattle.quotients.proofs.signed_residue.Goals as goal

pub returns-then-n-lt2147483648 : goal.returns-then-n-lt2147483648
returns-then-n-lt2147483648 c =
    let n = c.args.n in
    let p = c.args.p in
    record { below = mod-lt n c.requires; is = el_mod p n ∙ sym (signed_up p n c.if-n-lt2147483648.true) }

pub neg-requires : goal.neg-requires
neg-requires c = record { below = mod-lt _ c.requires }

pub returns : goal.returns
returns c =
    let n = c.args.n in
    let p = c.args.p in
    let h = c.neg.ensures in
    record {
      below = h.below;
      is =
          h.is
          ∙ ap (Z p).neg (el_mod p _)
          ∙ ap (λ (m : ℕ). (Z p).neg (el p m)) (omega arith)
          ∙ sym (signed_down p n (omega (arith, c.if-n-lt2147483648.false)) (omega (arith, c.ranges.n)));
    }
