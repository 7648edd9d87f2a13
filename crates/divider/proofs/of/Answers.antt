-- `divider::of` meets its contract: the numbers fit in 64 bits, and what is made divides by p.
use mathlib.Core.Path.{refl}
use native.Mathlib.Omega.{arith}
use Rattle.divider.proofs.Factor.{rest-fits, sum_fits, more-fits}
use Rattle.divider.proofs.Width.{zeros}
use Rattle.divider.proofs.Made.{high-below, made}
use Rattle.divider.proofs.of.Goals as goal

pub overflow_sub-shift-2 : goal.overflow_sub-shift-2
overflow_sub-shift-2 c = omega (arith, zeros _ c.requires.least c.requires.below)

pub overflow_mul-low : goal.overflow_mul-low
overflow_mul-low c = record { fits = rest-fits _ _ (omega arith) (omega arith) }

pub overflow_mul-result : goal.overflow_mul-result
overflow_mul-result c = omega (arith, high-below _ _ c.requires refl)

pub overflow_add-result : goal.overflow_add-result
overflow_add-result c = record { fits = sum_fits _ _ _ (omega arith) (high-below _ _ c.requires refl) }

pub overflow_add-result-2 : goal.overflow_add-result-2
overflow_add-result-2 c = record { fits = more-fits _ _ _ _ (omega arith) (high-below _ _ c.requires refl) (omega arith) }

pub invariant_of-result : goal.invariant_of-result
invariant_of-result c = record { divides = made _ _ c.requires refl _ c.opposite_of-opposite.ensures }
