-- Sums and intersections of ideals, and their colon ideals.
--   sum_left, sum-right        I + J holds I and J
--   sum-ideal, intersection_ideal      both are ideals
--   sum_same, intersection_same        sums and intersections of sets with the same elements
--   sum_comm, sum-none         I + J = J + I, and I + J = I where zero is the only element of J
--   sum_generated              lists one after the other generate the sum
--   sum-based                  the sum of two based ideals is based
--   colon_based_ideal          (f : K) is a based ideal with a nonzero element if K is, f in K
--   colon_sum                  (f : I + J) = (f : I) ∩ (f : J)
--   colon_intersection         (f : I) + (f : J) = (f : I ∩ J) for based ideals I and J and f in both
--   intersection_based         … and I ∩ J is based
use mathlib.Core.Path.{◌≡◌, refl, sym, ◌∙◌, ap, ap₂, subst}
use mathlib.Core.List.{List, ◌++◌}
use Prim.Native.Nat.{ℕ}
use Rattle.algebra.specs.Ring.{CommRing}
use Rattle.algebra.proofs.Laws as laws
use Rattle.ideal.specs.Ideal.{IsIdeal, Generated, Multiple, Colon, SameIdeal}
use Rattle.ideal.specs.Poles.{Poles, HasPole}
use Rattle.ideal.specs.Parts.{IdealSum, Intersection}
use Rattle.ideal.proofs.Same.{same_sym, same_trans}
use Rattle.ideal.proofs.Every.{every_map, every_append, every_left, every_right}
use Rattle.ideal.proofs.Leads.{based-same}
use Rattle.ideal.proofs.Colon.{colon_ideal, colon_self, colon_same, colon_based, colon_colon}
use Rattle.ideal.proofs.Generated.{generated_ideal, generated_each, generated_in}
use Rattle.ideal.proofs.Finite.{BasedIdeal, generated_based, generators}

module _ (R : CommRing) where
  open R use {Car, zero, add as ◌⊕◌, mul as ◌⊗◌}

  infixl 60 ◌⊕◌
  infixl 70 ◌⊗◌
  pub intersection_ideal : {I J : Car → Type 0} → IsIdeal R I → IsIdeal R J → IsIdeal R (Intersection R I J)
  intersection_ideal i j = record {
    nil = (i.nil, j.nil);
    sum = λ (x, y) (x', y'). (i.sum x x', j.sum y y');
    times = λ r (x, y). (i.times r x, j.times r y);
  }

  pub intersection_same : {I I' J J' : Car → Type 0} → SameIdeal R I I' → SameIdeal R J J' → SameIdeal R (Intersection R I J) (Intersection R I' J')
  intersection_same e e' h = (λ (x, y). ((e h).0 x, (e' h).0 y), λ (x, y). ((e h).1 x, (e' h).1 y))

  pub sum_left : {I J : Car → Type 0} {h : Car} → IsIdeal R J → I h → IdealSum R I J h
  sum_left {h = h} j m = (h, zero, m, j.nil, sym (R.add_zero h))

  pub sum-right : {I J : Car → Type 0} {h : Car} → IsIdeal R I → J h → IdealSum R I J h
  sum-right {h = h} i m = (zero, h, i.nil, m, sym (laws.zero-add R h))

  pub sum-ideal : {I J : Car → Type 0} → IsIdeal R I → IsIdeal R J → IsIdeal R (IdealSum R I J)
  sum-ideal {I} {J} i j = record {
    nil = sum_left j i.nil;
    sum = λ {a} {b} x y. add a b x y;
    times = λ r {a} x. times r a x;
  }
    where
      add : (a b : Car) → IdealSum R I J a → IdealSum R I J b → IdealSum R I J (a ⊕ b)
      add a b (x, y, mx, my, e) (x', y', mx', my', e') = (x ⊕ x', y ⊕ y', i.sum mx mx', j.sum my my', ap₂ ◌⊕◌ e e' ∙ laws.swap_add R x y x' y')

      times : (r a : Car) → IdealSum R I J a → IdealSum R I J (r ⊗ a)
      times r a (x, y, mx, my, e) = (r ⊗ x, r ⊗ y, i.times r mx, j.times r my, ap (λ t. r ⊗ t) e ∙ R.mul_add r x y)

  -- an ideal that holds I and J holds I + J
  sum_in : {I J K : Car → Type 0} → IsIdeal R K → ((h : Car) → I h → K h) → ((h : Car) → J h → K h) → (h : Car) → IdealSum R I J h → K h
  sum_in {K = K} k f g h (x, y, mx, my, e) = subst K (sym e) (k.sum (f x mx) (g y my))

  pub sum_same : {I I' J J' : Car → Type 0} → SameIdeal R I I' → SameIdeal R J J' → SameIdeal R (IdealSum R I J) (IdealSum R I' J')
  sum_same e e' h = (λ (x, y, mx, my, p). (x, y, (e x).0 mx, (e' y).0 my, p), λ (x, y, mx, my, p). (x, y, (e x).1 mx, (e' y).1 my, p))

  pub sum_comm : {I J : Car → Type 0} → SameIdeal R (IdealSum R I J) (IdealSum R J I)
  sum_comm h = (λ (i, j, mi, mj, e). (j, i, mj, mi, e ∙ R.add_comm i j), λ (j, i, mj, mi, e). (i, j, mi, mj, e ∙ R.add_comm j i))

  pub sum-none : {I J : Car → Type 0} → SameIdeal R J (λ h. h ≡ zero) → SameIdeal R (IdealSum R I J) I
  sum-none {I} z h = (
    λ (i, j, mi, mj, e). subst I (sym (e ∙ ap (λ t. i ⊕ t) ((z j).0 mj) ∙ R.add_zero i)) mi,
    λ m. (h, zero, m, (z zero).1 refl, sym (R.add_zero h)),
  )

  pub sum_generated : (gs hs : List Car) → SameIdeal R (IdealSum R (Generated R gs) (Generated R hs)) (Generated R (gs ++ hs))
  sum_generated gs hs h = (
    sum_in (generated_ideal R (gs ++ hs))
        (generated_in R (generated_ideal R (gs ++ hs)) gs (every_left (Generated R (gs ++ hs)) gs hs (generated_each R (gs ++ hs))))
        (generated_in R (generated_ideal R (gs ++ hs)) hs (every_right (Generated R (gs ++ hs)) gs hs (generated_each R (gs ++ hs)))) h,
    generated_in R (sum-ideal (generated_ideal R gs) (generated_ideal R hs)) (gs ++ hs)
        (every_append (IdealSum R (Generated R gs) (Generated R hs)) gs hs
        (every_map (λ g. sum_left (generated_ideal R hs)) gs (generated_each R gs)) (every_map (λ g. sum-right (generated_ideal R gs)) hs (generated_each R hs))) h,
  )

  pub colon_sum : {I J : Car → Type 0} (f : Car) → IsIdeal R I → IsIdeal R J → SameIdeal R (Colon R f (IdealSum R I J)) (Intersection R (Colon R f I) (Colon R f J))
  colon_sum {I} {J} f i j g = (λ k. (λ h m. k h (sum_left j m), λ h m. k h (sum-right i m)), λ (k, k') h (x, y, mx, my, e). at h x y e (k x mx) (k' y my))
    where
      at : (h x y : Car) → h ≡ x ⊕ y → Multiple R f (g ⊗ x) → Multiple R f (g ⊗ y) → Multiple R f (g ⊗ h)
      at h x y e (q, p) (q', p') = (q ⊕ q', ap (λ t. g ⊗ t) e ∙ R.mul_add g x y ∙ ap₂ ◌⊕◌ p p' ∙ sym (R.mul_add f q q'))

module _ {R : CommRing} (P : Poles R) where
  open R use {Car}

  pub sum-based : {I J : Car → Type 0} → BasedIdeal P I → BasedIdeal P J → BasedIdeal P (IdealSum R I J)
  sum-based {I} {J} b c = go (generators P b) (generators P c)
    where
      go : (gs : List Car) × SameIdeal R I (Generated R gs) → (hs : List Car) × SameIdeal R J (Generated R hs) → BasedIdeal P (IdealSum R I J)
      go (gs, e) (hs, e') = record {
        ideal = sum-ideal R b.ideal c.ideal;
        based = based-same P (same_sym R (same_trans R (sum_same R e e') (sum_generated R gs hs))) (generated_based P (gs ++ hs));
        pole = b.pole;
        lead = (b.lead.0, sum_left R c.ideal b.lead.1, b.lead.2);
      }

  pub colon_based_ideal : {K : Car → Type 0} {f : Car} {d : ℕ} → HasPole P f d → BasedIdeal P K → K f → BasedIdeal P (Colon R f K)
  colon_based_ideal {K} {f} {d} pf k m = record {
    ideal = colon_ideal R f K;
    based = colon_based P pf k.ideal k.based m;
    pole = d;
    lead = (f, colon_self R f K, pf);
  }

  module _ {I J : Car → Type 0} {f : Car} {d : ℕ} (pf : HasPole P f d) (b : BasedIdeal P I) (c : BasedIdeal P J) (mi : I f) (mj : J f) where
    total : BasedIdeal P (IdealSum R (Colon R f I) (Colon R f J))
    total = sum-based (colon_based_ideal pf b mi) (colon_based_ideal pf c mj)

    total-member : IdealSum R (Colon R f I) (Colon R f J) f
    total-member = sum_left R (colon_ideal R f J) (colon_self R f I)

    -- (f : S) = (f : (f : I)) ∩ (f : (f : J)) = I ∩ J, for S = (f : I) + (f : J)
    colon_total : SameIdeal R (Colon R f (IdealSum R (Colon R f I) (Colon R f J))) (Intersection R I J)
    colon_total =
        same_trans R (colon_sum R f (colon_ideal R f I) (colon_ideal R f J))
        (intersection_same R (colon_colon P pf b.ideal b.based mi) (colon_colon P pf c.ideal c.based mj))

    -- S = (f : (f : S)) = (f : I ∩ J)
    pub colon_intersection : SameIdeal R (IdealSum R (Colon R f I) (Colon R f J)) (Colon R f (Intersection R I J))
    colon_intersection = same_trans R (same_sym R (colon_colon P pf total.ideal total.based total-member)) (colon_same R f colon_total)

    pub intersection_based : BasedIdeal P (Intersection R I J)
    intersection_based = record {
      ideal = intersection_ideal R b.ideal c.ideal;
      based = based-same P colon_total (colon_based P pf total.ideal total.based total-member);
      pole = d;
      lead = (f, (mi, mj), pf);
    }
