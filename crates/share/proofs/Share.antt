-- The line of the share as it is put piece by piece.
--   share_none, share_some    the line of the share for no record, and for some
--   share_small      a share is 10,000 hundredths at most
use mathlib.Core.Path.{◌≡◌, refl}
use mathlib.Core.List.{◌++◌}
use Prim.Native.Nat.{ℕ, zero, suc, ◌*◌, ◌≤◌, ◌<◌}
use native.Mathlib.Nat.{lt_of_mul-lt-mul_right}
use native.Mathlib.Omega.{arith}
use Rattle.text.specs.Ascii.{ascii}
use Rattle.report.specs.Report.{rounded, per_cent, share_line}
use Rattle.report.proofs.Rounded.{rounded_nearest}

pub share_none : (t n : ℕ) → n ≡ 0 → share_line t n ≡ ascii "share none\n"
unfolding share_line
share_none t zero e = refl
share_none t (suc n) e = absurd (omega arith)

pub share_some : (t n : ℕ) → 0 < n → share_line t n ≡ ascii "share " ++ per_cent (rounded (10000 * t) n) ++ ascii "\n"
unfolding share_line
share_some t zero h = absurd (omega arith)
share_some t (suc n) h = refl

pub share_small : (t n : ℕ) → t ≤ n → 0 < n → rounded (10000 * t) n ≤ 10000
share_small t n h p =
    let less : rounded (10000 * t) n < 10001 = lt_of_mul-lt-mul_right n (omega (arith, (rounded_nearest (10000 * t) n p).0)) in
    omega arith
