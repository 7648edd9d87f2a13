-- What the functions below points_of answer, from what was read and listed.
--   listed-asked           the points may be listed
--   on_refused, on_short, on_written       points_on: the divisor is refused; the slice is too short; the points are written
--   found-curve, found-large, found-points     points_found: the curve is refused; p is too large; what points_on answers
--   points_small           there are three points at most
--   of-refused, of-written     points_of: minus the number of the cause, or how many pairs there are
use mathlib.Core.Path.{◌≡◌, refl, ◌∙◌, ap}
use mathlib.Core.Logic.{inl, inr}
use mathlib.Core.List.{List, ◌∷◌, ◌++◌}
use Prim.Native.Nat.{ℕ, ◌*◌, ◌<◌, ◌≤◌}
use native.Mathlib.Omega.{arith}
use lib.ListN.{length, drop}
use lib.IntN.{ℤ, pos}
use Rattle.std.specs.Prelude.{Result, Ok, Err}
use Rattle.refusal.specs.Refusal.{number_of}
use Rattle.refusal.specs.declared.Refusal.{Refusal}
use Rattle.refusal.specs.declared.Refusal.TheVariants as refusal
use Rattle.ground.specs.declared.Ground.{Ground}
use Rattle.ground.specs.Ground.{AtGround}
use Rattle.basis.specs.declared.Divisor.{Divisor}
use Rattle.record.specs.Cause.{FirstCause, must}
use Rattle.record.specs.Curve.{modulus, curve_stages, AcceptedCurve}
use Rattle.record.proofs.Cause.{first_append, passes_append}
use Rattle.reader.specs.Reading.{On, GivenOn, DivisorRead}
use Rattle.calls.specs.Answer.{minus, buffer}
use Rattle.calls.specs.Call.{divisor_of}
use Rattle.classes.specs.Found.{Curved, OnCurves}
use Rattle.classes.proofs.Read.{read_given, read_refused}
use Rattle.point.specs.PointCall.{coordinates, scan_limit, points_room, PointsOf, refused, written}
use Rattle.point.proofs.Degree.{points_suffice}
use Rattle.listing.specs.Contract.{ListAsked, Listed}
use Rattle.points.specs.Contract.{on_stages, PointsOn, PointsFound}

module _ {g : Ground} (d : List ℕ) where
  module _ (x : Divisor) (h : AtGround g (λ p C. DivisorRead p C d (Ok x))) where
    given : (c : List ℕ) → On c g → GivenOn c d x
    given c o = read_given o d x h

    pub listed-asked : {out : List ℕ} → Curved g → points_room ≤ length out → ListAsked g x out
    listed-asked (c, o) l = record { divided = (c, d, o, given c o); room = l }

    pub on_short : {out : List ℕ} → length out < points_room → OnCurves g (λ c. PointsOn c d out (Err refusal.Room) out)
    on_short {out} l c o = ((first_append (divisor_of c d) (buffer points_room out) 10).1 (inr ((given c o).accepted, inl (λ m. omega arith, refl))), refl)

    pub on_written : {out out' : List ℕ} {n : ℕ} → points_room ≤ length out → Listed g x out n out' → OnCurves g (λ c. PointsOn c d out (Ok n) out')
    on_written {out} l s c o =
        record {
          passed = (passes_append (divisor_of c d) (buffer points_room out)).1 ((given c o).accepted, (l, tt));
          pairs = s.pairs;
          points = s.points c d o (given c o);
          many = s.held.many;
          is = s.held.is ∙ ap (λ (m : ℕ). coordinates s.pairs ++ drop (2 * m) out) s.held.many;
        }

  pub on_refused : {out : List ℕ} (e : Refusal) → AtGround g (λ p C. DivisorRead p C d (Err e)) → OnCurves g (λ c. PointsOn c d out (Err e) out)
  on_refused {out} e h c o = ((first_append (divisor_of c d) (buffer points_room out) (number_of e)).1 (inl (read_refused o d e h)), refl)

module _ (c d out : List ℕ) where
  pub found-curve : (e : Refusal) → FirstCause (curve_stages c) (number_of e) → PointsFound c d out (Err e) out
  found-curve e f = ((first_append (curve_stages c) (must 14 (modulus c ≤ scan_limit) ∷ on_stages c d out) (number_of e)).1 (inl f), refl)

  module _ (p : AcceptedCurve c) where
    pub found-large : scan_limit < modulus c → PointsFound c d out (Err refusal.Points) out
    found-large l = ((first_append (curve_stages c) (must 14 (modulus c ≤ scan_limit) ∷ on_stages c d out) 14).1 (inr (p, inl (λ m. omega arith, refl))), refl)

    pub found-points : modulus c ≤ scan_limit → (r : Result ℕ Refusal) (out' : List ℕ) → PointsOn c d out r out' → PointsFound c d out r out'
    found-points l (Ok n) out' w =
        record {
          passed = (passes_append (curve_stages c) (must 14 (modulus c ≤ scan_limit) ∷ on_stages c d out)).1 (p, (l, w.passed));
          pairs = w.pairs;
          points = w.points;
          many = w.many;
          is = w.is;
        }
    found-points l (Err e) out' (f, k) =
        ((first_append (curve_stages c) (must 14 (modulus c ≤ scan_limit) ∷ on_stages c d out) (number_of e)).1 (inr (p, inr (l, f))), k)

  pub points_small : {n : ℕ} {out' : List ℕ} → PointsFound c d out (Ok n) out' → n ≤ 3
  points_small w =
      let a = (passes_append (curve_stages c) (must 14 (modulus c ≤ scan_limit) ∷ on_stages c d out)).0 w.passed in
      let b = (passes_append (divisor_of c d) (buffer points_room out)).0 a.1.1 in
      omega (arith, w.many, points_suffice c a.0 d b.0 w.pairs w.points)

  pub of-written : {n : ℕ} {out' : List ℕ} {r : ℤ} → PointsFound c d out (Ok n) out' → r ≡ pos n → PointsOf c d out r out'
  of-written w e = written w.pairs w.passed w.points (e ∙ ap pos w.many) w.is

  pub of-refused : (e : Refusal) {out' : List ℕ} {r : ℤ} → PointsFound c d out (Err e) out' → r ≡ minus (number_of e) → PointsOf c d out r out'
  of-refused e (f, k) q = refused (number_of e) f q k
