-- Lines that documents 01 and 02 give, and which records are typical, computed.
--   one-of_32, three-of_32    lines of the share at a half
--   two-of_3, none-of_3, all-typical, empty_list    other lines of the share
--   kinds_of_the_example, sum_of_the_example, zero-sum, refused_11    the other lines
--   typical_31, not_typical_31, not_typical_22    a record of kind 31 is typical if f2 is not zero, one of kind 22 is not
use mathlib.Core.Path.{◌≡◌, refl}
use mathlib.Core.Bool.{true, false}
use mathlib.Core.List.{[], ◌∷◌}
use Rattle.text.specs.Ascii.{ascii}
use Rattle.text.specs.Decimal.{decimal, decimal_upto, two_digits}
use Rattle.layout.specs.Layout.{number2, number4, numbers, bytes2, bytes4, all_bytes4, record_bytes}
use Rattle.calls.specs.Class.{zero_record}
use Rattle.report.specs.Report.{typical, per_cent, share_line, count_line, count_lines, spaced, sum_line, refused_line}

-- Document 02, 2026-05: "One typical record in 32 then prints 3.12, and three in 32 still print 9.38."
pub one-of_32 : share_line 1 32 ≡ ascii "share 3.12\n"
unfolding share_line per_cent decimal decimal_upto two_digits
one-of_32 = refl

pub three-of_32 : share_line 3 32 ≡ ascii "share 9.38\n"
unfolding share_line per_cent decimal decimal_upto two_digits
three-of_32 = refl

pub two-of_3 : share_line 2 3 ≡ ascii "share 66.67\n"
unfolding share_line per_cent decimal decimal_upto two_digits
two-of_3 = refl

pub none-of_3 : share_line 0 3 ≡ ascii "share 0.00\n"
unfolding share_line per_cent decimal decimal_upto two_digits
none-of_3 = refl

pub all-typical : share_line 7 7 ≡ ascii "share 100.00\n"
unfolding share_line per_cent decimal decimal_upto two_digits
all-typical = refl

pub empty_list : share_line 0 0 ≡ ascii "share none\n"
unfolding share_line
empty_list = refl

pub kinds_of_the_example : count_lines 0 3 0 0 0 ≡ ascii "zero 0\n11 3\n21 0\n22 0\n31 0\n"
unfolding count_lines count_line decimal decimal_upto
kinds_of_the_example = refl

pub sum_of_the_example : sum_line (record_bytes 31 (4 ∷ 2 ∷ 4 ∷ 0 ∷ 3 ∷ 0 ∷ 3 ∷ 0 ∷ 4 ∷ [])) ≡ ascii "sum 31 4 2 4 0 3 0 3 0 4\n"
unfolding sum_line spaced numbers number2 number4 record_bytes bytes2 bytes4 all_bytes4 decimal decimal_upto
sum_of_the_example = refl

pub zero-sum : sum_line zero_record ≡ ascii "sum 0\n"
unfolding sum_line spaced numbers number2 number4 record_bytes bytes2 all_bytes4 decimal decimal_upto
zero-sum = refl

pub refused_11 : refused_line 11 ≡ ascii "refused 11\n"
unfolding refused_line count_line decimal decimal_upto
refused_11 = refl

-- Document 02, 2026-07: "On E, the record of (1, 2) − P counts under 31 and no longer in the share, since its f2 is 0." Its f1 and its last
-- number are 4.
pub not_typical_31 : typical (record_bytes 31 (0 ∷ 4 ∷ 0 ∷ 0 ∷ 3 ∷ 0 ∷ 1 ∷ 2 ∷ 4 ∷ [])) ≡ false
unfolding number2 number4 record_bytes bytes2 bytes4 all_bytes4
not_typical_31 = refl

-- f2 of the record is 4
pub typical_31 : typical (record_bytes 31 (4 ∷ 2 ∷ 4 ∷ 0 ∷ 3 ∷ 0 ∷ 3 ∷ 0 ∷ 4 ∷ [])) ≡ true
unfolding number2 number4 record_bytes bytes2 bytes4 all_bytes4
typical_31 = refl

-- the third number of the record is 2
pub not_typical_22 : typical (record_bytes 22 (1 ∷ 4 ∷ 2 ∷ [])) ≡ false
unfolding number2 number4 record_bytes bytes2 bytes4 all_bytes4
not_typical_22 = refl
