-- `packing::bit_length` meets its contract: 32 less the leading zeros.
use native.Mathlib.Omega.{arith}
use Rattle.packing.proofs.Width.{bit_length_leading}
use Rattle.packing.proofs.bit_length.Goals as goal

pub returns : goal.returns
returns c = record { is = omega (arith, bit_length_leading c.args.n (omega arith)); small = omega arith }
