-- `printing::put_all` meets its contract: the bytes of a text that holds these lines alone are put.
use mathlib.Core.Path.{ap}
use native.Mathlib.Omega.{arith}
use lib.ListN.{length}
use Rattle.text.proofs.Put.{text_put_at}
use Rattle.printing.proofs.put_all.Goals as goal

pub put_bytes-requires : goal.put_bytes-requires
put_bytes-requires c = omega (arith, ap length c.into_bytes.ensures, ap length c.new-lines.ensures.bytes, c.push_all.ensures.short)

pub returns : goal.returns
returns c =
    record {
      put = λ rs h. text_put_at c.new-lines.ensures.bytes (c.push_all.ensures.put rs h) c.into_bytes.ensures c.put_bytes.ensures;
      short = omega (arith, c.put_bytes.ensures.next, ap length c.into_bytes.ensures, ap length c.new-lines.ensures.bytes, c.push_all.ensures.short);
    }
