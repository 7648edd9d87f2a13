-- `group::zero_class` meets its contract: the divisor of the kind 0 has no number.
use mathlib.Core.Path.{ap}
use Rattle.basis.specs.Divisor.{numbers_of}
use Rattle.group.proofs.zero_class.Goals as goal

pub returns : goal.returns
returns c = record { kind = ap (λ r. r.kind) c.zero_class.ensures; none = ap numbers_of c.zero_class.ensures }
