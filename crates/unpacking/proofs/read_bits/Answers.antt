-- `unpacking::read_bits` meets its contract: the first byte is from / 8, the bits to skip are from % 8, and the mask is 2^w − 1.
use native.Mathlib.Omega.{arith}
use lib.Bits.{and_mask}
use lib.Pow.{pow_pos}
use Rattle.unpacking.proofs.Steps.{power, skip_fits, bits_fit, bits-from}
use Rattle.unpacking.proofs.read_bits.Goals as goal

pub overflow_sub-mask : goal.overflow_sub-mask
overflow_sub-mask c =
    let w = c.args.w in
    omega (arith, power w (omega arith), pow_pos w)

pub overflow_shr-result : goal.overflow_shr-result
overflow_shr-result c = skip_fits c.args.from _ (omega arith)

pub overflow_cast-result : goal.overflow_cast-result
overflow_cast-result c =
    let w = c.args.w in
    bits_fit c.five.result _ w _ (omega arith) (omega (arith, power w (omega arith), pow_pos w))

pub returns : goal.returns
returns c =
    let a = c.args in
    bits-from a.s.now a.from a.w _ _ c.five.result (λ i. omega (arith, c.type_inv.s i)) (omega arith) c.five.ensures
    (omega (arith, and_mask a.from 3))
    (omega (arith, power a.w (omega arith)))
