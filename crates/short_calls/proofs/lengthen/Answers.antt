-- The divisor that was read is written.
use mathlib.Core.List.{◌++◌}
use Rattle.record.specs.Curve.{curve_stages}
use Rattle.reply.proofs.Found.{writes_found}
use Rattle.reply.proofs.Number.{kept}
use Rattle.short.specs.ShortCall.{short_of, IsLong}
use Rattle.short_calls.proofs.lengthen.Goals as goal

pub returns : goal.returns
returns c =
    let k = c.args.curve.now in
    let s = c.args.short.now in
    rw (kept c.written.result c.written.type_inv)
    (writes_found k (curve_stages k ++ short_of k s) (IsLong k s) _ c.read_long.ensures c.written.ensures)
