-- The number is read as its 32 bits, and reduced as the signed number that has them.
use mathlib.Core.Path.{ap, ◌∙◌}
use Prim.Native.Nat.{ℕ}
use Rattle.record.specs.Fractions.{signed, residue}
use Rattle.quotients.proofs.numerator.Goals as goal

pub returns : goal.returns
returns c =
    let p = c.args.p in
    let h = c.signed_residue.ensures in
    record { below = h.below; is = h.is ∙ ap (λ (n : ℕ). residue p (signed n)) c.read_u32-n.ensures.is }
