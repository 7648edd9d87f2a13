-- The bits behind the last number are read as one number of 8 bits: the filling is less than a byte.
use native.Mathlib.Nat.{mul-le-mul}
use native.Mathlib.Omega.{arith}
use Rattle.short_reader.proofs.Places.{filling-answer}
use mathlib.Core.Path.{◌∙◌, ap}
use Rattle.divisor.specs.Kind.{count}
use Rattle.short.proofs.Accepted.{same-short}
use Rattle.short_reader.proofs.filling_zero.Goals as goal

pub overflow_mul-from : goal.overflow_mul-from
overflow_mul-from c = omega (arith, mul-le-mul c.bit_length-w.ensures.small c.count.ensures.small)

pub overflow_add-from : goal.overflow_add-from
overflow_add-from c = omega (arith, mul-le-mul c.bit_length-w.ensures.small c.count.ensures.small)

pub read_bits-requires : goal.read_bits-requires
read_bits-requires c = record { w_bound = omega arith; from_bound = omega (arith, mul-le-mul c.bit_length-w.ensures.small c.count.ensures.small) }

pub returns : goal.returns
returns c =
    filling-answer c.args.p c.args.s.now (λ i. omega (arith, c.type_inv.s i)) c.requires.asked.form _ _ _ c.bit_length-w.ensures.is
    (λ κ e. c.count.ensures.is ∙ ap count (same-short c.args.s.now c.args.kind κ c.requires.of_kind e)) c.read_bits.ensures
