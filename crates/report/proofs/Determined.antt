-- Each input has at most one text, and so has what was read of it.
--   report_determined    two texts that are printed for an input are the same
--   read_determined      … for what was read
use mathlib.Core.Path.{◌≡◌, sym, ap, ap₂, ◌∙◌, subst}
use mathlib.Core.List.{List, ◌++◌}
use Prim.Native.Nat.{ℕ, ◌≤◌}
use lib.ListN.{length, take}
use Rattle.record.specs.Cause.{FirstCause, Passes}
use Rattle.record.specs.Curve.{modulus, equation, curve_stages}
use Rattle.record.proofs.Cause.{passes_refuses, one-cause, passes_append}
use Rattle.record.proofs.Lists.{listed_once}
use Rattle.calls.specs.Class.{IsListSum}
use Rattle.calls.specs.Call.{list_of}
use Rattle.calls.proofs.Answers.{list_of_sound}
use Rattle.calls.proofs.Multiples.{list-one}
use Rattle.report.specs.Report.{ReportOn, refused, counted, Report, curve_part, list_part, lines, refused_line}
use Rattle.report.specs.Input.{ReadFrom, ReportsRead}
use Rattle.report.proofs.Cut.{some_input}

module _ (c s text text' : List ℕ) where
  -- what is accepted is not refused
  never_both : (n : ℕ) → Passes (curve_stages c ++ list_of c s) → FirstCause (curve_stages c ++ list_of c s) n → ⊥
  never_both n p f = passes_refuses (curve_stages c ++ list_of c s) (list_of_sound c s) p n f

  report_on-one : ReportOn c s text → ReportOn c s text' → text ≡ text'
  report_on-one (refused n f e) (refused m g e') =
      e ∙ ap refused_line (one-cause (curve_stages c ++ list_of c s) (list_of_sound c s) n m f g) ∙ sym e'
  report_on-one (refused n f e) (counted rs w p l k e') = absurd (never_both n p f)
  report_on-one (counted rs w p l k e) (refused n f e') = absurd (never_both n p f)
  report_on-one (counted rs w p l k e) (counted rs' w' p' l' k' e') =
      let same : rs' ≡ rs = listed_once (modulus c) (equation c) s rs' rs l' l in
      let accepted = ((passes_append (curve_stages c) (list_of c s)).0 p).0 in
      let sum : IsListSum c rs w' = subst (λ (ws : List (List ℕ)). IsListSum c ws w') same k' in
      e ∙ ap₂ lines (sym same) (list-one c accepted rs w w' l.accepted k sum) ∙ sym e'

pub report_determined : (input text text' : List ℕ) → Report input text → Report input text' → text ≡ text'
report_determined input text text' = report_on-one (curve_part input) (list_part input) text text'

pub read_determined : (read : List ℕ) (n : ℕ) (text text' : List ℕ) → n ≤ length read
    → ReportsRead read n text → ReportsRead read n text' → text ≡ text'
read_determined read n text text' h r r' =
    let read_all : ReadFrom (take n read) read n = some_input h in
    report_determined (take n read) text text' (r (take n read) read_all) (r' (take n read) read_all)
