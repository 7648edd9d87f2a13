-- The bytes are those of the slots at the start.
use Rattle.std.proofs.Common.{refl}
use Rattle.layout.specs.Layout.{bytes2, bytes4, all_bytes4, record_bytes}
use Rattle.pool_test.specs.Start.{start}
use Rattle.pool_test.proofs.lay_out.Goals as goal

pub returns : goal.returns
unfolding start bytes2 bytes4 all_bytes4 record_bytes
returns c = refl
