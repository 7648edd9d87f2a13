-- Document 01, "Strength of the contracts" (d): "The starred sums are shown for the definitions by one table and one theorem over it".
--   worked             every row of the table holds by the definitions, and its call answers accordingly
--   shut_out           … and so does every row of the table of traps
--   minus-P, negative_of-P, difference-of-P    the rows of −P and of (1, 2) − P
--   not_negated        the negative of P is no record of kind 11
use mathlib.Core.Path.{◌≡◌, ap, sym, ◌∙◌}
use mathlib.Core.List.{List, [], ◌∷◌}
use Prim.Native.Nat.{ℕ}
use native.Mathlib.Omega.{arith}
use Rattle.ideal.proofs.Every.{Every}
use Rattle.divisor.specs.Kind.{k22, k31}
use Rattle.layout.specs.Layout.{number2, number4, bytes2, bytes4, all_bytes4, record_bytes}
use Rattle.record.specs.Curve.{AcceptedCurve}
use Rattle.calls.specs.Class.{Record, IsSum, IsNegative}
use Rattle.calls.proofs.Class.{negative-one}
use Rattle.worked.specs.Table.{Means, Answer, E, P, one_two, divisor, table, traps}
use Rattle.worked.proofs.Rows.{shown}
use Rattle.worked.proofs.Certificates.{certificates, trap_certificates}

pub worked : Every (λ r. Means r × Answer r) table
unfolding number2 number4 bytes2 bytes4 all_bytes4 record_bytes
worked = shown table certificates tt

pub shut_out : Every (λ r. Means r × Answer r) traps
unfolding number2 number4 bytes2 bytes4 all_bytes4 record_bytes
shut_out = shown traps trap_certificates tt

-- the rows of −P and of (1, 2) − P
abbrev pub minus-P : List ℕ
minus-P = divisor k22 (0 ∷ 1 ∷ 4 ∷ [])

pub negative_of-P : AcceptedCurve E × Record E P × IsNegative E P minus-P
negative_of-P = worked.1.1.1.1.1.1.1.1.1.1.1.1.0.0

pub difference-of-P : AcceptedCurve E × Record E one_two × Record E minus-P × IsSum E one_two minus-P (divisor k31 (0 ∷ 4 ∷ 0 ∷ 0 ∷ 3 ∷ 0 ∷ 1 ∷ 2 ∷ 4 ∷ []))
difference-of-P = worked.1.1.1.1.1.1.1.1.1.1.1.1.1.0.0

-- Document 01, "Traps of this arithmetic": "Negating y for the negative, as on hyperelliptic curves. −P above is no kind 11."
pub not_negated : (w : List ℕ) → IsNegative E P w → ¬ (number2 w 2 ≡ 11)
unfolding number2 bytes2 bytes4 all_bytes4 record_bytes
not_negated w h e =
    let (A, r, s) = negative_of-P in
    let same : w ≡ minus-P = negative-one E A P w minus-P r.1 h s in
    omega (arith, sym e ∙ ap (λ (v : List ℕ). number2 v 2) same)
