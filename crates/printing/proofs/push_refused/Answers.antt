-- `printing::push_refused` meets its contract: one line.
use Rattle.report.specs.Report.{refused_line}
use Rattle.printing.proofs.push_refused.Goals as goal

pub returns : goal.returns
unfolding refused_line
returns c = rw (← c.from.ensures) c.push_line.ensures
