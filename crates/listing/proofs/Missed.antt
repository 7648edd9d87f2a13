-- Where an eliminant has no root the divisor has no point.
--   x_missed, y_missed, f_missed       at a point of the divisor the polynomials of crate point, proofs/Vanish, are 0
--   missed_x               no point of the divisor has its x where a scan of x found no root
--   missed_y               … nor its y at x = a where a scan of y found none
use mathlib.Core.Path.{◌≡◌, ◌∙◌, subst}
use mathlib.Core.Logic.{◌⊎◌, inl, inr}
use mathlib.Core.List.{List}
use Prim.Native.Nat.{ℕ, ◌<◌, ◌≤◌}
use Rattle.algebra.specs.Ring.{CommRing}
use Rattle.field.specs.Residue.{Z, el}
use Rattle.field.proofs.Element.{el-num}
use Rattle.divisor.specs.Kind.{Kind, k11, k31, IdealOf}
use Rattle.powers.specs.Power.{Inside}
use Rattle.ground.specs.declared.Ground.{Ground}
use Rattle.basis.specs.Divisor.{residues}
use Rattle.basis.specs.declared.Divisor.{Divisor}
use Rattle.record.specs.Curve.{modulus, equation, AcceptedCurve}
use Rattle.reader.specs.Reading.{On, GivenOn}
use Rattle.calls.specs.Class.{Ring, Ideal}
use Rattle.calls.proofs.Values.{value_ideal}
use Rattle.roots.specs.declared.Cubic.{Cubic}
use Rattle.roots.specs.Contract.{cubic_at, RootFound}
use Rattle.eliminants.specs.Contract.{InX, InY}
use Rattle.point.specs.Point.{Point, point_record, IsMultiplicity}
use Rattle.point.proofs.Vanish.{x-value, y-value, f-value, x_vanishes, y_vanishes, f_vanishes}
use Rattle.point.proofs.Records.{point-value, point-basis, point-ideal}
use Rattle.point.proofs.Degree.{point-invertible}
use Rattle.listing.proofs.Multiples.{multiplicity_none}

module _ (c w : List ℕ) (A : AcceptedCurve c) {r : Divisor} (v : GivenOn c w r) where
  abbrev p : ℕ
  p = modulus c

  abbrev κ : Kind
  κ = v.kind

  module _ (a b : ℕ) (on : Point c (a, b)) where
    -- the ideal of the divisor lies inside that of the point
    by_value : Inside (Ring c) (Ideal c w) (Ideal c (point_record c (a, b))) → Inside (Ring c) (IdealOf (equation c) κ (residues p r)) (IdealOf (equation c) k11 (residues p (point-value c (a, b))))
    by_value i h m =
        (point-ideal c A (a, b) h).1
        (i h (subst (λ (s : List ℕ). Ideal c s h) v.bytes ((value_ideal c A κ r v.based.shaped h).0 m)))

    nowhere : (X : Type 0) → ¬ X → (Inside (Ring c) (IdealOf (equation c) κ (residues p r)) (IdealOf (equation c) k11 (residues p (point-value c (a, b)))) → X) → IsMultiplicity c w (a, b) 0
    nowhere X n h = multiplicity_none c A w (a, b) (point-invertible c A (a, b) on).ideal (λ i. n (h (by_value i)))

    pub x_missed : ¬ (x-value (Z p) κ (residues p r) (el p a) ≡ (Z p).zero) → IsMultiplicity c w (a, b) 0
    x_missed n =
        nowhere (x-value (Z p) κ (residues p r) (el p a) ≡ (Z p).zero) n
        (x_vanishes (equation c) (el p a) (el p b) (residues p (point-value c (a, b))) (el-num p ((Z p).neg (el p a))) (el-num p ((Z p).neg (el p b)))
        (point-basis c A (a, b) on.1) κ (residues p r))

    pub y_missed : ¬ (y-value (Z p) κ (residues p r) (el p a) (el p b) ≡ (Z p).zero) → IsMultiplicity c w (a, b) 0
    y_missed n =
        nowhere (y-value (Z p) κ (residues p r) (el p a) (el p b) ≡ (Z p).zero) n
        (y_vanishes (equation c) (el p a) (el p b) (residues p (point-value c (a, b))) (el-num p ((Z p).neg (el p a))) (el-num p ((Z p).neg (el p b)))
        (point-basis c A (a, b) on.1) κ (residues p r))

    pub f_missed : κ ≡ k31 → ¬ (f-value (Z p) (residues p r) (el p a) (el p b) ≡ (Z p).zero) → IsMultiplicity c w (a, b) 0
    f_missed e n =
        nowhere (f-value (Z p) (residues p r) (el p a) (el p b) ≡ (Z p).zero) n
        (λ i.
        f_vanishes (equation c) (el p a) (el p b) (residues p (point-value c (a, b))) (el-num p ((Z p).neg (el p a))) (el-num p ((Z p).neg (el p b)))
        (point-basis c A (a, b) on.1) (residues p r)
        (subst
        (λ (ν : Kind). Inside (Ring c) (IdealOf (equation c) ν (residues p r)) (IdealOf (equation c) k11 (residues p (point-value c (a, b))))) e i))

module _ {c w : List ℕ} {g : Ground} (o : On c g) {r : Divisor} (v : GivenOn c w r) {e : Cubic} {from to : ℕ} (root : RootFound g.p e from to) where
  abbrev q : ℕ
  q = modulus c

  -- the scan at the modulus of the bytes
  scanned : RootFound q e from to
  scanned = subst (λ (m : ℕ). RootFound m e from to) o.ground.modulus root

  pub missed_x : InX g.p r e → (n m : ℕ) → from ≤ n → n < to → Point c (n, m) → IsMultiplicity c w (n, m) 0
  missed_x h n m l k on =
      let x = subst (λ (t : ℕ). InX t r e) o.ground.modulus h in
      x_missed c w o.accepted v n m on (λ z. scanned.none n l k (x.is v.kind v.based.shaped (el q n) ∙ z))

  pub missed_y : (a : ℕ) → InY g.p r a e → (n : ℕ) → from ≤ n → n < to → Point c (a, n) → IsMultiplicity c w (a, n) 0
  missed_y a h n l k on = go ((subst (λ (t : ℕ). InY t r a e) o.ground.modulus h).is v.kind v.based.shaped (el q n))
    where
      go : (cubic_at q e (el q n) ≡ y-value (Z q) v.kind (residues q r) (el q a) (el q n)) ⊎ ((v.kind ≡ k31) × (cubic_at q e (el q n) ≡ f-value (Z q) (residues q r) (el q a) (el q n)))
          → IsMultiplicity c w (a, n) 0
      go (inl f) = y_missed c w o.accepted v a n on (λ z. scanned.none n l k (f ∙ z))
      go (inr (d, f)) = f_missed c w o.accepted v a n on d (λ z. scanned.none n l k (f ∙ z))
