-- Document 02, 2026-07: f2 is "the coefficient of y", an element of the field. In the polynomials of a record of kind 31 (divisor/Kind) the
-- coefficient of y of the first is the residue of the third number, so that a record's bytes tell it.
--   typical-f2    an accepted record is typical exactly if its kind is 31 and this coefficient is not the zero of the field
use mathlib.Core.Path.{◌≡◌, ap, ◌∙◌}
use mathlib.Core.Logic.{◌↔◌}
use mathlib.Core.Bool.{true, not, and-eq-true_iff}
use mathlib.Core.List.{List}
use Prim.Native.Nat.{ℕ, ◌+◌, ◌*◌, ◌<◌}
use native.Mathlib.Omega.{arith}
use lib.Dec.{eqb}
use borrow.Author.Tests.{eqb-true, eqb-false, not-true, eq-eqb, ne_eqb}
use Rattle.field.specs.Residue.{Z, el}
use Rattle.field.proofs.Element.{el-zero, el_pos}
use Rattle.curve.specs.Curve.{Curve}
use Rattle.divisor.specs.Kind.{k31}
use Rattle.layout.specs.Layout.{number2, number4}
use Rattle.record.specs.Divisor.{OfKind, number_at, AcceptedDivisor}
use Rattle.report.specs.Report.{typical}

pub typical-f2 : (p : ℕ) (C : Curve (Z p)) (r : List ℕ) → AcceptedDivisor p C r
    → (typical r ≡ true) ↔ (OfKind r k31 × ¬ (number_at p r 2 ≡ (Z p).zero))
typical-f2 p C r a =
    let f2 = number4 r (4 + 4 * 2) in
    let both = and-eq-true_iff (eqb (number2 r 2) 31) (not (eqb f2 0)) in (
      λ e.
          let (is_31, some) = both.0 e in
          let kind : OfKind r k31 = eqb-true (number2 r 2) 31 is_31 in
          let below : f2 < p = a.1.1.1.0 k31 kind 2 (omega arith) in
          (kind, el_pos p f2 (omega (arith, eqb-false f2 0 (not-true (eqb f2 0) some))) below),
      λ h. both.1 (eq-eqb (number2 r 2) 31 h.0, ap not (ne_eqb f2 0 (λ e. h.1 (ap (el p) e ∙ el-zero p)))),
    )
