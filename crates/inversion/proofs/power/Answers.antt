-- `inversion::power` meets its contract: 2^j is below 2^64.
use Rattle.std.proofs.Common.{◌∙◌, one-mul, arith, shl_exact}
use Rattle.inversion.proofs.power.Goals as goal

pub returns : goal.returns
returns c = shl_exact {a = 1} 1 c.args.j 64 (omega arith) (omega arith) ∙ one-mul _
