-- The parts of an input, and the report on them.
--   parts_reported   what was put for the parts is the report on the input
use mathlib.Core.Path.{◌≡◌, sym, ap, ◌∙◌, subst, subst₂}
use mathlib.Core.List.{List, [], ◌++◌}
use Prim.Native.Nat.{ℕ, ◌≤◌, min}
use native.Mathlib.Decide.{dec_le}
use native.Mathlib.Omega.{arith}
use lib.ListN.{length, take, drop, drop_of_length-le}
use lib.Seq.{take_all}
use Rattle.text.specs.Written.{Written}
use Rattle.record.specs.Curve.{curve_size}
use Rattle.report.specs.Report.{curve_part, list_part, ReportOn, Report}
use Rattle.counting.specs.Contract.{PrintedOn}

-- the parts of an input of n bytes end and start at the same place
curve-same : (input : List ℕ) (size : ℕ) → size ≡ min (length input) curve_size → take size input ≡ curve_part input
curve-same input size e = go (dec_le curve_size (length input))
  where
    go : Dec (curve_size ≤ length input) → take size input ≡ take curve_size input
    go (yes h) = let whole : size ≡ curve_size = omega arith in ap (λ (n : ℕ). take n input) whole
    go (no h) = take_all size input (omega (arith, h)) ∙ sym (take_all curve_size input (omega (arith, h)))

list_same : (input : List ℕ) (size : ℕ) → size ≡ min (length input) curve_size → drop size input ≡ list_part input
list_same input size e = go (dec_le curve_size (length input))
  where
    go : Dec (curve_size ≤ length input) → drop size input ≡ drop curve_size input
    go (yes h) = let whole : size ≡ curve_size = omega arith in ap (λ (n : ℕ). drop n input) whole
    go (no h) = drop_of_length-le input {i = size} (omega (arith, h)) ∙ sym (drop_of_length-le input {i = curve_size} (omega (arith, h)))

-- The text is begun with no byte; then what was put for the parts is the report.
pub parts_reported : (input : List ℕ) {end : ℕ} {curve list bytes : List ℕ} {s s' : Written} → PrintedOn curve list s s' → s.bytes ≡ []
    → end ≡ min (length input) curve_size → curve ≡ take end input → list ≡ drop end input → bytes ≡ s'.bytes → Report input bytes
parts_reported input {end} {curve} {list} {bytes} {s} {s'} h none e front rest all =
    let text : h.text ≡ bytes = sym (all ∙ h.put.is ∙ ap (λ (b : List ℕ). b ++ h.text) none) in
    subst (Report input) text
    (subst₂ (λ (c l : List ℕ). ReportOn c l h.text) (front ∙ curve-same input end e) (rest ∙ list_same input end e) h.report)
