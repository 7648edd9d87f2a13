-- `printing::put_refused` meets its contract: the bytes of a text that holds the line alone are put.
use mathlib.Core.Path.{ap}
use native.Mathlib.Omega.{arith}
use lib.ListN.{length}
use Rattle.text.proofs.Put.{text_only, text_put_at}
use Rattle.printing.proofs.put_refused.Goals as goal

pub put_bytes-requires : goal.put_bytes-requires
put_bytes-requires c = omega (arith, ap length (text_only c.new-line.ensures.bytes c.push_refused.ensures.put c.into_bytes.ensures))

pub returns : goal.returns
returns c =
    let put = text_put_at c.new-line.ensures.bytes c.push_refused.ensures.put c.into_bytes.ensures c.put_bytes.ensures in
    record { put = put; within = omega arith }
