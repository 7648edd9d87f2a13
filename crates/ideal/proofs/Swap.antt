-- The colon ideals of one ideal by different elements, and combinations u·I + v·J.
--   colon_swap             f·(u : I) = u·(f : I) for u and f in I
--   colon_scale            (a·b : I) = a·(b : I) for b in I
--   colon_meet             b·(a : I) + a·(b : J) = (a·b : I ∩ J) for a in I and b in J
--   meet_based             the intersection of two based ideals is based
--   colon_star             the star of (w : L), w in L, is the reduced ideal of L
--   meet_reduced           … so the star of u·(v : J) + v·N, u in N and v in J, is the reduced ideal of (u : N) ∩ J
--   scaled_same, scaled_one, scaled_sum    e·I for sets with the same elements, 1·I = I, e·(I + J) = e·I + e·J
--   scaled_equivalent      e·I is equivalent to I
--   colon_equivalent       (u : (f : I)) is equivalent to I
--   colon_combined         u·I + f·J = f·((u : (f : I)) + J)
--   sum_footprint          I + J has a small footprint if J has one
--   colon_inside           if (u : N) lies in J, then u is in N·J
--   parts_equivalent       L·G is equivalent to I·J, if A is equivalent to I, L to A ∩ J, and G is A + J
use mathlib.Core.Path.{◌≡◌, refl, sym, ◌∙◌, ap, subst}
use Prim.Native.Nat.{ℕ, ◌+◌}
use Rattle.algebra.specs.Ring.{CommRing}
use Rattle.algebra.proofs.Laws as laws
use Rattle.ideal.specs.Ideal.{IsIdeal, Product, Multiple, Colon, SameIdeal, Equivalent}
use Rattle.ideal.specs.Poles.{Poles, HasPole}
use Rattle.ideal.specs.Reduced.{Least, IsStar, IsReduced}
use Rattle.ideal.specs.Parts.{IdealSum, Intersection}
use Rattle.ideal.specs.Invertible.{InvertibleIdeal}
use Rattle.ideal.proofs.Same.{same_refl, same_sym, same_trans}
use Rattle.ideal.proofs.Degree.{cancel, monic-pole, one-nonzero, pole-mul, pole-nonzero}
use Rattle.ideal.proofs.Leads.{ideal_space, Lead, least}
use Rattle.ideal.proofs.Colon.{colon_ideal, colon_self, colon_colon}
use Rattle.ideal.proofs.Class.{equivalent_same, equivalent_sym, equivalent_trans, star-class}
use Rattle.ideal.proofs.Product.{product-map, product_equivalent}
use Rattle.ideal.proofs.Reduced.{SmallFootprint, footprint_exists, star_footprint, star-star}
use Rattle.ideal.proofs.Star.{star-same, reduced-same}
use Rattle.ideal.proofs.Finite.{BasedIdeal, footprint_based}
use Rattle.ideal.proofs.Parts.{sum-right, sum-ideal, sum_same, sum-based, colon_based_ideal, colon_intersection, intersection_based}
use Rattle.ideal.proofs.Invertible.{Scaled, invertible_colon, invertible_parts, invertible-same}
use Rattle.ideal.proofs.Rules.{ring}

module _ (R : CommRing) where
  open R use {Car, zero, one, add as ◌⊕◌, mul as ◌⊗◌}

  infixl 60 ◌⊕◌
  infixl 70 ◌⊗◌
  pub scaled_same : (e : Car) {I J : Car → Type 0} → SameIdeal R I J → SameIdeal R (Scaled R e I) (Scaled R e J)
  scaled_same e s h = (λ (y, m, q). (y, (s y).0 m, q), λ (y, m, q). (y, (s y).1 m, q))

  pub scaled_one : (I : Car → Type 0) → SameIdeal R (Scaled R one I) I
  scaled_one I h = (λ (y, m, q). subst I (sym (q ∙ laws.one-mul R y)) m, λ m. (h, m, sym (laws.one-mul R h)))

  pub scaled_sum : (e : Car) {I J : Car → Type 0} → SameIdeal R (IdealSum R (Scaled R e I) (Scaled R e J)) (Scaled R e (IdealSum R I J))
  scaled_sum e {I} {J} h = (there, back)
    where
      there : IdealSum R (Scaled R e I) (Scaled R e J) h → Scaled R e (IdealSum R I J) h
      there (a, b, (i, mi, p), (j, mj, q), r) = (i ⊕ j, (i, j, mi, mj, refl), r ∙ rw (p, q) (sym (R.mul_add e i j)))

      back : Scaled R e (IdealSum R I J) h → IdealSum R (Scaled R e I) (Scaled R e J) h
      back (y, (i, j, mi, mj, p), q) = (e ⊗ i, e ⊗ j, (i, mi, refl), (j, mj, refl), q ∙ ap (λ t. e ⊗ t) p ∙ R.mul_add e i j)

module _ {R : CommRing} (P : Poles R) where
  open R use {Car, zero, one, add as ◌⊕◌, mul as ◌⊗◌}

  infixl 60 ◌⊕◌
  infixl 70 ◌⊗◌
  -- a·f = u·q for a in (u : I), and q is in (f : I).
  swap_half : {I : Car → Type 0} {u f : Car} → ¬ (u ≡ zero) → I f → (h : Car) → Scaled R f (Colon R u I) h → Scaled R u (Colon R f I) h
  swap_half {I} {u} {f} nu mf h (a, ma, e) = go (ma f mf)
    where
      go : Multiple R u (a ⊗ f) → Scaled R u (Colon R f I) h
      go (q, p) = (q, λ i mi. at i (ma i mi), e ∙ laws.times_comm R f a ∙ p)
        where
          at : (i : Car) → Multiple R u (a ⊗ i) → Multiple R f (q ⊗ i)
          at i (q', p') =
              (q', cancel P nu (sym (R.mul_assoc u q i) ∙ ap (λ t. t ⊗ i) (sym p) ∙ (simp ring) ∙ ap (λ t. f ⊗ t) p' ∙ laws.mul_left_comm R f u q'))

  pub colon_swap : {I : Car → Type 0} {u f : Car} → ¬ (u ≡ zero) → ¬ (f ≡ zero) → I u → I f → SameIdeal R (Scaled R f (Colon R u I)) (Scaled R u (Colon R f I))
  colon_swap nu nf mu mf h = (swap_half nu mf h, swap_half nf mu h)

  pub colon_scale : {I : Car → Type 0} {a b : Car} → ¬ (a ≡ zero) → ¬ (b ≡ zero) → I b → SameIdeal R (Colon R (a ⊗ b) I) (Scaled R a (Colon R b I))
  colon_scale {I} {a} {b} na nb mb g = (there, λ (q, mq, e) i mi. back q e i (mq i mi))
    where
      there : Colon R (a ⊗ b) I g → Scaled R a (Colon R b I) g
      there k = go (k b mb)
        where
          at : (q : Car) → g ≡ a ⊗ q → (i : Car) → Multiple R (a ⊗ b) (g ⊗ i) → Multiple R b (q ⊗ i)
          at q e i (q', p') = (q', cancel P na (sym (R.mul_assoc a q i) ∙ ap (λ t. t ⊗ i) (sym e) ∙ p' ∙ R.mul_assoc a b q'))

          go : Multiple R (a ⊗ b) (g ⊗ b) → Scaled R a (Colon R b I) g
          go (q, p) = (q, λ i mi. at q e i (k i mi), e)
            where
              e : g ≡ a ⊗ q
              e = cancel P nb (laws.times_comm R b g ∙ p ∙ simp ring)

      back : (q : Car) → g ≡ a ⊗ q → (i : Car) → Multiple R b (q ⊗ i) → Multiple R (a ⊗ b) (g ⊗ i)
      back q e i (q', p') = (q', ap (λ t. t ⊗ i) e ∙ R.mul_assoc a q i ∙ ap (λ t. a ⊗ t) p' ∙ sym (R.mul_assoc a b q'))

  pub colon_meet : {I J : Car → Type 0} {a b : Car} {k m : ℕ} → HasPole P a k → HasPole P b m → BasedIdeal P I → BasedIdeal P J → I a → J b
      → SameIdeal R (IdealSum R (Scaled R b (Colon R a I)) (Scaled R a (Colon R b J))) (Colon R (a ⊗ b) (Intersection R I J))
  colon_meet {I} {J} {a} {b} pa pb i j ma mb =
      same_trans R
      (sum_same R (same_sym R (subst (λ t. SameIdeal R (Colon R t I) (Scaled R b (Colon R a I))) (laws.times_comm R b a) (colon_scale (pole-nonzero P pb) (pole-nonzero P pa) ma)))
      (same_sym R (colon_scale (pole-nonzero P pa) (pole-nonzero P pb) mb)))
      (colon_intersection P (pole-mul P pa pb) i j (subst I (laws.times_comm R b a) (i.ideal.times b ma)) (j.ideal.times a mb))

  pub meet_based : {I J : Car → Type 0} → BasedIdeal P I → BasedIdeal P J → BasedIdeal P (Intersection R I J)
  meet_based {I} {J} i j = go i.lead j.lead
    where
      go : Lead P I i.pole → Lead P J j.pole → BasedIdeal P (Intersection R I J)
      go (a, ma, pa) (b, mb, pb) = intersection_based P (pole-mul P pa pb) i j (subst I (laws.times_comm R b a) (i.ideal.times b ma)) (j.ideal.times a mb)

  pub scaled_equivalent : {e : Car} (I : Car → Type 0) → ¬ (e ≡ zero) → Equivalent R (Scaled R e I) I
  scaled_equivalent {e} I n = record {
    a = one;
    b = e;
    a_nonzero = one-nonzero P;
    b_nonzero = n;
    there = λ g (y, m, q). (y, m, laws.one-mul R g ∙ q);
    back = λ h m. (e ⊗ h, (h, m, refl), laws.one-mul R (e ⊗ h));
  }

  -- l·(w : L) = w·(l : L) for the least element l of L.
  pub colon_star : {L A : Car → Type 0} {w : Car} {d : ℕ} → BasedIdeal P L → HasPole P w d → L w → IsStar P (Colon R w L) A → IsReduced P L A
  colon_star {L} {A} {w} b pw mw s = go (least P (ideal_space P b.ideal) b.based b.lead)
    where
      go : (l : Car) × Least P L l → IsReduced P L A
      go (l, ll) = at (footprint_exists P (star_footprint P b.ideal b.based ll))
        where
          nl : ¬ (l ≡ zero)
          nl = pole-nonzero P (monic-pole P ll.monic)

          nw : ¬ (w ≡ zero)
          nw = pole-nonzero P pw

          same : Equivalent R (Colon R w L) (Colon R l L)
          same =
              equivalent_trans P (equivalent_sym P (scaled_equivalent (Colon R w L) nl))
              (equivalent_trans P (equivalent_same P (colon_swap nw nl mw ll.member)) (scaled_equivalent (Colon R l L) nw))

          at : (f' : Car) × Least P (Colon R l L) f' → IsReduced P L A
          at (f', l') =
              star-star P {K = Colon R l L} (record { f = l; least = ll; same = same_refl R (Colon R l L) })
              (record { f = f'; least = l'; same = same_trans R s.same (star-class P (colon_ideal R w L) (colon_ideal R l L) same s.least l') })

  -- u·(v : J) + v·N = (v·u : J ∩ (u : N))
  pub meet_reduced : {N J A : Car → Type 0} {u v : Car} {k m : ℕ} → HasPole P u k → HasPole P v m → BasedIdeal P N → BasedIdeal P J → N u → J v
      → IsStar P (IdealSum R (Scaled R u (Colon R v J)) (Scaled R v N)) A → IsReduced P (Intersection R (Colon R u N) J) A
  meet_reduced {N} {J} {A} {u} {v} {k} {m} pu pv n j mu mv s =
      reduced-same P (λ h. (λ (x, y). (y, x), λ (x, y). (y, x))) (same_refl R A)
      (colon_star (meet_based j c) pole (inside, inside') (star-same P meet (same_refl R A) s))
    where
      c : BasedIdeal P (Colon R u N)
      c = colon_based_ideal P pu n mu

      pole : HasPole P (v ⊗ u) (m + k)
      pole = pole-mul P pv pu

      inside : J (v ⊗ u)
      inside = subst J (laws.times_comm R u v) (j.ideal.times u mv)

      inside' : Colon R u N (v ⊗ u)
      inside' = c.ideal.times v (colon_self R u N)

      meet : SameIdeal R (IdealSum R (Scaled R u (Colon R v J)) (Scaled R v N)) (Colon R (v ⊗ u) (Intersection R J (Colon R u N)))
      meet =
          same_trans R (sum_same R (same_refl R (Scaled R u (Colon R v J))) (scaled_same R v (same_sym R (colon_colon P pu n.ideal n.based mu))))
          (colon_meet pv pu j c mv (colon_self R u N))

  module _ {I : Car → Type 0} {u f : Car} {d : ℕ} (b : BasedIdeal P I) (pf : HasPole P f d) (nu : ¬ (u ≡ zero)) (mf : I f) (mu : Colon R f I u) where
    -- f·(u : N) = u·(f : N) = u·I for N = (f : I)
    colon_turned : SameIdeal R (Scaled R f (Colon R u (Colon R f I))) (Scaled R u I)
    colon_turned =
        same_trans R (colon_swap nu (pole-nonzero P pf) mu (colon_self R f I)) (scaled_same R u (colon_colon P pf b.ideal b.based mf))

    pub colon_equivalent : Equivalent R (Colon R u (Colon R f I)) I
    colon_equivalent =
        equivalent_trans P (equivalent_sym P (scaled_equivalent (Colon R u (Colon R f I)) (pole-nonzero P pf)))
        (equivalent_trans P (equivalent_same P colon_turned) (scaled_equivalent I nu))

    pub colon_combined : {J : Car → Type 0} → SameIdeal R (IdealSum R (Scaled R u I) (Scaled R f J)) (Scaled R f (IdealSum R (Colon R u (Colon R f I)) J))
    colon_combined {J} = same_trans R (sum_same R (same_sym R colon_turned) (same_refl R (Scaled R f J))) (scaled_sum R f)

  pub sum_footprint : {I J : Car → Type 0} → BasedIdeal P I → SmallFootprint P J → SmallFootprint P (IdealSum R I J)
  sum_footprint b s = record {
    ideal = sum-ideal R b.ideal s.ideal;
    based = (sum-based P b (footprint_based P s)).based;
    leads = λ n l. ((s.leads n l).0, sum-right R b.ideal (s.leads n l).1, (s.leads n l).2);
  }

  pub colon_inside : {N J : Car → Type 0} {u : Car} → InvertibleIdeal R N → N u → ((h : Car) → Colon R u N h → J h) → Product R N J u
  colon_inside {u = u} v mu inside = product-map R (λ a m. m) inside ((invertible_colon P v mu u).1 (one, sym (R.mul_one u)))

  pub parts_equivalent : {A I J L G : Car → Type 0} → Equivalent R A I → IsIdeal R A → IsIdeal R J → InvertibleIdeal R G → SameIdeal R G (IdealSum R A J)
      → Equivalent R (Intersection R A J) L → Equivalent R (Product R L G) (Product R I J)
  parts_equivalent {A} {I} {J} e i j v s q =
      equivalent_trans P (product_equivalent P (equivalent_sym P q) (equivalent_same P s))
      (equivalent_trans P (equivalent_same P (invertible_parts P i j (invertible-same P (same_sym R s) v))) (product_equivalent P e (equivalent_same P (same_refl R J))))
