-- `printing::push_all` meets its contract: the counts, the share and the sum, one after the other.
use native.Mathlib.Omega.{arith}
use Rattle.text.proofs.Put.{put_then, put_length}
use Rattle.printing.proofs.Lines.{lines_tallied}
use Rattle.printing.proofs.push_all.Goals as goal

pub returns : goal.returns
returns c =
    let all = put_then (put_then c.push_counts.ensures.put c.push_share.ensures.put) c.push_sum.ensures.put in
    record {
      put = λ rs h. rw (← lines_tallied rs c.args.w.now c.args.t h) all;
      short = omega (arith, put_length all);
    }
