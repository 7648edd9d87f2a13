-- What the functions of the counting program require and ensure.
--   Printable p              no more records are typical than there are
--   TextOf p s s'            the text s has become s': what is printed for p stands behind what was put before
--   PassPut p s s'           put_pass: …, in the longest report's bytes at most
--   PrintedOn c l s s'       put_report: the same of what is printed for the curve c and the list l
use Rattle.std.specs.Prelude.{List, ℕ, ◌+◌, ◌≤◌, length, Result, Ok, Err}
use Rattle.refusal.specs.Refusal.{number_of}
use Rattle.refusal.specs.declared.Refusal.{Refusal}
use Rattle.text.specs.Written.{Written}
use Rattle.text.specs.Put.{Put}
use Rattle.reader.specs.Reading.{GivenOn}
use Rattle.report.specs.Report.{refused_line, lines, ReportOn}
use Rattle.tallies.specs.Tallied.{TalliesOf}
use Rattle.printing.specs.Contract.{longest}
use Rattle.pass.specs.declared.Pass.{Pass}

abbrev pub Printable : Result Pass Refusal → Type 0
Printable (Ok p) = p.tallies.typical ≤ p.tallies.total
Printable (Err e) = Unit

abbrev pub TextOf : Result Pass Refusal → Written → Written → Type 0
TextOf (Ok p) s s' = (c w : List ℕ) → GivenOn c w p.sum → (rs : List (List ℕ)) → TalliesOf rs p.tallies → Put s (lines rs w) s'
TextOf (Err e) s s' = Put s (refused_line (number_of e)) s'

pub record PassPut (p : Result Pass Refusal) (s s' : Written) : Type 0 where
  pub put : TextOf p s s'
  pub short : length s'.bytes ≤ length s.bytes + longest

pub record PrintedOn (c l : List ℕ) (s s' : Written) : Type 0 where
  pub text : List ℕ
  pub report : ReportOn c l text
  pub put : Put s text s'
  pub short : length s'.bytes ≤ length s.bytes + longest
