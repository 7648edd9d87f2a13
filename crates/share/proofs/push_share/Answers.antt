-- `share::push_share` meets its contract: one line for no record, and one for some.
use native.Mathlib.Omega.{arith}
use Rattle.text.proofs.Put.{put_then}
use Rattle.share.proofs.Share.{share_none, share_some, share_small}
use Rattle.share.proofs.push_share.Goals as goal

pub returns-then-t-eq0 : goal.returns-then-t-eq0
returns-then-t-eq0 c =
    let t = c.args.t in
    rw (share_none t.typical t.total c.if-t-eq0.true) (record { put = c.push_bytes.ensures; within = omega arith })

pub overflow_cast-hundredths : goal.overflow_cast-hundredths
overflow_cast-hundredths c =
    let t = c.args.t in
    omega (arith, share_small t.typical t.total (omega (arith, c.requires)) (omega arith))

pub returns : goal.returns
returns c =
    let t = c.args.t in
    let all = put_then (put_then c.push_bytes-2.ensures c.push_per_cent.ensures.put) c.push_byte.ensures in
    rw (share_some t.typical t.total (omega arith), ← c.rounded-hundredths.ensures) (record { put = all; within = omega arith })
