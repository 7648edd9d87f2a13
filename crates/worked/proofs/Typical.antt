-- Document 02, 2026-07: what the counting program prints for the record of (1, 2) − P on E.
--   lines-of-total       the lines that it prints for this record alone
--   typical_example      the example holds
use mathlib.Core.Path.{◌≡◌, refl, sym}
use mathlib.Core.List.{[], ◌∷◌, ◌++◌}
use native.Mathlib.Omega.{arith}
use Rattle.text.specs.Decimal.{decimal, decimal_upto, two_digits}
use Rattle.layout.specs.Layout.{number2, number4, numbers, bytes2, bytes4, all_bytes4, record_bytes}
use Rattle.record.specs.Curve.{modulus, equation}
use Rattle.record.specs.Listed.{Listed}
use Rattle.calls.proofs.Multiples.{list-single}
use Rattle.calls.proofs.Exists.{list-passes}
use Rattle.report.specs.Report.{counted, Report, count_line, count_lines, share_line, per_cent, spaced, sum_line, lines}
use Rattle.report.proofs.Determined.{report_determined}
use Rattle.worked.specs.Table.{E}
use Rattle.worked.specs.Parts.{total}
use Rattle.worked.specs.Typical.{printed, Example}
use Rattle.worked.proofs.Worked.{minus-P, negative_of-P, difference-of-P}

lines-of-total : printed ≡ lines (total ∷ []) total
unfolding number2 number4 numbers record_bytes bytes2 bytes4 all_bytes4 lines count_lines count_line share_line per_cent spaced sum_line decimal decimal_upto two_digits
lines-of-total = refl

reported : Report (E ++ total) printed
unfolding number2 number4 bytes2 bytes4 all_bytes4 record_bytes
reported =
    let (A, _, _, s) = difference-of-P in
    let l : Listed (modulus E) (equation E) total (total ∷ []) = record { is = refl; accepted = (s.accepted.1, tt) } in
    counted (total ∷ []) total (list-passes E A total (total ∷ []) (omega arith) l) l (list-single E A total s.accepted) lines-of-total

pub typical_example : Example
typical_example = (
  (minus-P, negative_of-P.2, difference-of-P.3),
  reported,
  λ text h. sym (report_determined (E ++ total) printed text reported h),
)
