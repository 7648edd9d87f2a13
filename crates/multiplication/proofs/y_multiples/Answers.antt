-- `multiplication::y_multiples` meets its contract, by `y-rows` of proofs/Powers.
use Rattle.multiplication.proofs.Powers.{y-rows}
use Rattle.multiplication.proofs.y_multiples.Goals as goal

pub returns : goal.returns
returns c = y-rows c.requires c.times_y-a.ensures c.times_y-b.ensures
