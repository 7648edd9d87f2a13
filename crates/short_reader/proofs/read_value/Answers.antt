-- The record of the value is written in 40 bytes, and read as any record is.
use Rattle.short_reader.proofs.Record.{value_read}
use Rattle.short_reader.proofs.read_value.Goals as goal

pub returns : goal.returns
returns c G = value_read _ _ _ _ c.read_divisor.result c.write_divisor-n.ensures (c.read_divisor.ensures G)
