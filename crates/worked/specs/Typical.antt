-- Document 02, 2026-07, "What users call typical": "On E, the record of (1, 2) − P counts under 31 and no longer in the share, since its f2
-- is 0", for the definitions. In the form of the request's vectors, with E and total in bytes:
--   prog E+total = zero 0 / 11 0 / 21 0 / 22 0 / 31 1 / share 0.00 / sum 31 0 4 0 0 3 0 1 2 4
--   printed            these lines
--   Example            total is the sum of (1, 2) and the negative of P, and the counting program prints these lines for it, and no others
use Rattle.std.specs.Prelude.{◌≡◌, List, ◌++◌, ℕ}
use Rattle.text.specs.Ascii.{ascii}
use Rattle.calls.specs.Class.{IsSum, IsNegative}
use Rattle.report.specs.Report.{Report}
use Rattle.worked.specs.Table.{E, one_two, P}
use Rattle.worked.specs.Parts.{total}

abbrev pub printed : List ℕ
printed = ascii "zero 0\n11 0\n21 0\n22 0\n31 1\nshare 0.00\nsum 31 0 4 0 0 3 0 1 2 4\n"

abbrev pub Example : Type 0
Example =
    ((m : List ℕ) × IsNegative E P m × IsSum E one_two m total)
    × Report (E ++ total) printed
    × ((text : List ℕ) → Report (E ++ total) text → text ≡ printed)
