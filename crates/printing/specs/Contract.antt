-- What the function that puts all lines of a report ensures.
--   longest             the most bytes that are printed
--   AllPushed t w s s'  push_all: the text s has become s': the lines for the records of which t holds the tallies, with the sum w, stand
--                       behind what was put before, in `longest` bytes at most
--   AllPut t w out r out'    put_all: the buffer out has become out': these lines stand at its start, in r bytes
use Rattle.std.specs.Prelude.{List, ℕ, ◌+◌, ◌≤◌, length}
use Rattle.text.specs.Written.{Written}
use Rattle.text.specs.Put.{PutAt, Put}
use Rattle.report.specs.Report.{lines}
use Rattle.tallies.specs.declared.Tallies.{Tallies}
use Rattle.tallies.specs.Tallied.{TalliesOf}

abbrev pub longest : ℕ
longest = 256

pub record AllPushed (t : Tallies) (w : List ℕ) (s s' : Written) : Type 0 where
  pub put : (rs : List (List ℕ)) → TalliesOf rs t → Put s (lines rs w) s'
  pub short : length s'.bytes ≤ length s.bytes + longest

pub record AllPut (t : Tallies) (w out : List ℕ) (r : ℕ) (out' : List ℕ) : Type 0 where
  pub put : (rs : List (List ℕ)) → TalliesOf rs t → PutAt out 0 (lines rs w) r out'
  pub short : r ≤ longest
