-- The bytes are those of E.
use Rattle.std.proofs.Common.{refl}
use Rattle.layout.specs.Layout.{bytes2, bytes4, all_bytes4, record_bytes}
use Rattle.pool_test.proofs.curve.Goals as goal

pub returns : goal.returns
unfolding bytes2 bytes4 all_bytes4 record_bytes
returns c = refl
