-- `counting::report` meets its contract: the parts of the input are the curve and the list, and what was put for them is returned.
use Rattle.counting.proofs.Parts.{parts_reported}
use Rattle.counting.proofs.report.Goals as goal

pub returns : goal.returns
returns c =
    let parts = c.split_at.ensures in
    parts_reported c.args.input.now c.put_report.ensures c.new-text.ensures.bytes c.min.ensures parts.front parts.back c.into_bytes.ensures
