-- What a buffer holds of an input decides what is printed: of a list that is too long only its length counts.
--   report_cut       an input may be cut to the length of any buffer that is long enough
--   read_cut         what was read of an input is the input, cut to the length of the buffer
--   reports_read     the report on what was read is the report on the input
--   some_input       the first n bytes of any buffer are what was read of some input
use mathlib.Core.Path.{◌≡◌, sym, ap, ◌∙◌, subst}
use mathlib.Core.Logic.{◌⊎◌, inl, inr}
use mathlib.Core.List.{List, ◌++◌}
use Prim.Native.Nat.{ℕ, ◌≤◌, ◌<◌}
use native.Mathlib.Decide.{dec_le}
use native.Mathlib.Omega.{arith}
use lib.ListN.{length, take, length-drop, length-take}
use lib.Seq.{take-take, take_all, length-take-le}
use Rattle.record.specs.Cause.{FirstCause, Passes}
use Rattle.record.specs.Curve.{curve_stages, curve_size}
use Rattle.record.specs.Listed.{list_limit}
use Rattle.record.proofs.Cause.{passes_append, first_append}
use Rattle.calls.specs.Call.{list_of}
use Rattle.report.specs.Report.{curve_part, list_part, ReportOn, refused, counted, Report}
use Rattle.report.specs.Input.{enough, ReadFrom, ReportsRead}

-- A list that is too long is refused with 11, whatever its bytes are.
module _ (c s s' : List ℕ) (h : list_limit < length s) (h' : list_limit < length s') where
  cut_cause : (n : ℕ) → FirstCause (list_of c s') n → FirstCause (list_of c s) n
  cut_cause n (inl f) = inl (λ l. omega arith, f.1)
  cut_cause n (inr f) = absurd (omega (arith, f.0))

  too_long : (text : List ℕ) → ReportOn c s' text → ReportOn c s text
  too_long text (refused n f e) = refused n (go ((first_append (curve_stages c) (list_of c s') n).0 f)) e
    where
      go : FirstCause (curve_stages c) n ⊎ (Passes (curve_stages c) × FirstCause (list_of c s') n)
          → FirstCause (curve_stages c ++ list_of c s) n
      go (inl g) = (first_append (curve_stages c) (list_of c s) n).1 (inl g)
      go (inr g) = (first_append (curve_stages c) (list_of c s) n).1 (inr (g.0, cut_cause n g.1))
  too_long text (counted rs w p l k e) = absurd (omega (arith, ((passes_append (curve_stages c) (list_of c s')).0 p).1.0))

pub report_cut : (l : ℕ) → enough ≤ l → (input text : List ℕ) → Report (take l input) text → Report input text
report_cut l least input text r = go (dec_le (length input) l)
  where
    go : Dec (length input ≤ l) → Report input text
    go (yes h) = subst (λ (s : List ℕ). Report s text) (take_all l input h) r
    go (no h) =
        let same : curve_part (take l input) ≡ curve_part input = take-take curve_size l input (omega arith) in
        too_long (curve_part input) (list_part input) (list_part (take l input))
        (omega (arith, length-drop curve_size input, h))
        (omega (arith, length-drop curve_size (take l input), length-take-le l input (omega (arith, h))))
        text (subst (λ (c : List ℕ). ReportOn c (list_part (take l input)) text) same r)

module _ {read : List ℕ} {n : ℕ} where
  pub read_cut : {input : List ℕ} → ReadFrom input read n → take n read ≡ take (length read) input
  read_cut {input} f = f.same ∙ go (dec_le (length input) (length read))
    where
      go : Dec (length input ≤ length read) → take n input ≡ take (length read) input
      go (yes h) = take_all n input (omega (arith, f.many)) ∙ sym (take_all (length read) input h)
      go (no h) = let full : n ≡ length read = omega (arith, f.many, h) in ap (λ (k : ℕ). take k input) full

  pub reports_read : {m : ℕ} {text : List ℕ} → enough ≤ length read → Report (take m read) text → m ≡ n → ReportsRead read n text
  reports_read {m} {text} least r e input f =
      let cut : take m read ≡ take (length read) input = ap (λ (k : ℕ). take k read) e ∙ read_cut f in
      report_cut (length read) least input text (subst (λ (s : List ℕ). Report s text) cut r)

  pub some_input : n ≤ length read → ReadFrom (take n read) read n
  some_input h = record { many = omega (arith, length-take n read); same = sym (take-take n n read (omega arith)) }
