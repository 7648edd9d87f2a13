-- What run_calls requires holds of the slots at the start, and they have five records.
use Rattle.pool_test.proofs.Start.{asked, few-left}
use Rattle.pool_test.proofs.run.Goals as goal

pub run_calls-requires : goal.run_calls-requires
run_calls-requires c = asked _ _ c.curve-c.ensures c.requires.s_value _ c.requires.valid

pub returns : goal.returns
returns c = few-left _ _ c.curve-c.ensures c.requires.s_value _ _ _ c.run_calls.ensures
