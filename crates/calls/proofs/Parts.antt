-- Request 2026-04: the common part and the common multiple of two accepted records a and b on an accepted curve, I and J their ideals.
--   part-one, common_multiple-one      there is one common part, and one common multiple
--   parts_invertible       I + J is invertible
--   parts_product          (I ∩ J)·(I + J) = I·J
--   parts_class            the product of the ideals of the common multiple and the common part is equivalent to I·J
--   parts_sum, sum_parts   w is the sum of a and b exactly if it is the sum of the common multiple and the common part
--   inside-part, inside-multiple       if I lies inside J, the common part is b, and the common multiple a
use mathlib.Core.Path.{◌≡◌, sym, subst}
use mathlib.Core.List.{List}
use Prim.Native.Nat.{ℕ}
use Rattle.ideal.specs.Ideal.{IsIdeal, Product, SameIdeal, Equivalent}
use Rattle.ideal.specs.Poles.{Poles}
use Rattle.ideal.specs.Parts.{IdealSum, Intersection}
use Rattle.ideal.specs.Invertible.{InvertibleIdeal}
use Rattle.ideal.proofs.Same.{same_refl, same_sym, same_trans}
use Rattle.ideal.proofs.Class.{equivalent_same, equivalent_sym, equivalent_trans}
use Rattle.ideal.proofs.Parts.{sum-right, intersection_ideal}
use Rattle.ideal.proofs.Swap.{meet_based, parts_equivalent}
use Rattle.ideal.proofs.Invertible.{invertible-same, invertible_parts}
use Rattle.record.specs.Curve.{AcceptedCurve}
use Rattle.record.proofs.Invertible.{accepted-invertible}
use Rattle.calls.specs.Class.{Ring, Record, Ideal, poles_on, IsSum, IsCommonPart, IsCommonMultiple}
use Rattle.calls.proofs.Class.{Accepted, accepted-based, accepted-ideal, class-reduced, reduced-class, record_same, reduced-one, sum-class}
use Rattle.calls.proofs.Exists.{part_record}

module _ (c : List ℕ) (A : AcceptedCurve c) (a b : List ℕ) (ha : Accepted c a) (hb : Accepted c b) where
  abbrev P : Poles (Ring c)
  P = poles_on c A

  ia : IsIdeal (Ring c) (Ideal c a)
  ia = accepted-ideal c A a ha

  ib : IsIdeal (Ring c) (Ideal c b)
  ib = accepted-ideal c A b hb

  pub part-one : (w w' : List ℕ) → IsCommonPart c a b w → IsCommonPart c a b w' → w ≡ w'
  part-one w w' h h' = record_same c A w w' h.accepted h'.accepted (same_trans (Ring c) h.same (same_sym (Ring c) h'.same))

  pub common_multiple-one : (w w' : List ℕ) → IsCommonMultiple c a b w → IsCommonMultiple c a b w' → w ≡ w'
  common_multiple-one w w' h h' = reduced-one c A w w' (intersection_ideal (Ring c) ia ib) h h'

  pub parts_invertible : InvertibleIdeal (Ring c) (IdealSum (Ring c) (Ideal c a) (Ideal c b))
  parts_invertible = go (part_record c A a b ha hb)
    where
      go : (d : List ℕ) × IsCommonPart c a b d → InvertibleIdeal (Ring c) (IdealSum (Ring c) (Ideal c a) (Ideal c b))
      go (d, h) = invertible-same P (same_sym (Ring c) h.same) (accepted-invertible c d A h.accepted.1)

  -- Request 2026-04: on an accepted curve (I ∩ J)·(I + J) = I·J for the ideals I and J of two accepted records.
  pub parts_product : SameIdeal (Ring c)
      (Product (Ring c) (Intersection (Ring c) (Ideal c a) (Ideal c b)) (IdealSum (Ring c) (Ideal c a) (Ideal c b)))
      (Product (Ring c) (Ideal c a) (Ideal c b))
  parts_product = invertible_parts P ia ib parts_invertible

  pub parts_class : (l d : List ℕ) → IsCommonMultiple c a b l → IsCommonPart c a b d
      → Equivalent (Ring c) (Product (Ring c) (Ideal c l) (Ideal c d)) (Product (Ring c) (Ideal c a) (Ideal c b))
  parts_class l d hl hd =
      parts_equivalent P (equivalent_same P (same_refl (Ring c) (Ideal c a))) ia ib (accepted-invertible c d A hd.accepted.1) hd.same
      (reduced-class c A l (meet_based P (accepted-based c A a ha) (accepted-based c A b hb)) hl)

  module _ (l d w : List ℕ) (hl : IsCommonMultiple c a b l) (hd : IsCommonPart c a b d) where
    -- Request 2026-04: the sum of the common multiple and the common part is the sum.
    pub parts_sum : IsSum c a b w → IsSum c l d w
    parts_sum h = class-reduced c A w h.accepted (equivalent_trans P (parts_class l d hl hd) (sum-class c A a b w ha hb h))

    pub sum_parts : IsSum c l d w → IsSum c a b w
    sum_parts h =
        class-reduced c A w h.accepted
        (equivalent_trans P (equivalent_sym P (parts_class l d hl hd)) (sum-class c A l d w hl.accepted.1 hd.accepted.1 h))

module _ (c : List ℕ) (A : AcceptedCurve c) (a b : List ℕ) (ra : Record c a) (rb : Record c b) (inside : (h : (Ring c).Car) → Ideal c a h → Ideal c b h) where
  pub inside-part : IsCommonPart c a b b
  inside-part =
      record {
        curve = A;
        accepted = rb;
        same = λ h. (
          sum-right (Ring c) (accepted-ideal c A a ra.1),
          λ (i, j, mi, mj, e). subst (Ideal c b) (sym e) ((accepted-ideal c A b rb.1).sum (inside i mi) mj),
        );
      }

  pub inside-multiple : IsCommonMultiple c a b a
  inside-multiple = class-reduced c A a ra (equivalent_same (poles_on c A) (λ h. (λ m. m.0, λ m. (m, inside h m))))
