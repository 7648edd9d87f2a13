-- Reduced ideals. An ideal with all leads from 6 on is its own reduced ideal, and the reduced ideal of all that is equivalent to it.
--   SmallFootprint A       A is a based ideal with all leads from 6 on: only 0, 3 and 4 can be missing
--   footprint_same         … and so is a set with the same elements
--   footprint_exists       it has a least element
--   star_footprint         J* has a small footprint, for a based ideal J
--   footprint_least        the least element of such an ideal is the least element of its star
--   star-star              (J*)* is the reduced ideal
--   equivalent_reduced     if J is equivalent to A with a small footprint, then A is the reduced ideal of J
--   reduced_self           such an A is its own reduced ideal
--   reduced_unique         J has one reduced ideal
--   footprint_class        two equivalent ideals with small footprints are the same
--   reduced_exists         a based ideal with a lead has a reduced ideal
--   reduced_footprint      the reduced ideal of a based ideal has a small footprint
--   reduced_equivalent     f'·J = f·(f' : (f : J)), so J is equivalent to its reduced ideal
use mathlib.Core.Path.{◌≡◌, sym, ◌∙◌, ap, subst}
use Prim.Native.Nat.{ℕ, ◌+◌, ◌-◌, ◌≤◌}
use native.Mathlib.Decide.{dec_le}
use native.Mathlib.Omega.{arith}
use Rattle.algebra.specs.Ring.{CommRing}
use Rattle.algebra.proofs.Laws as laws
use Rattle.ideal.specs.Ideal.{IsIdeal, Multiple, Colon, SameIdeal, Equivalent}
use Rattle.ideal.specs.Poles.{largest_gap, Poles, HasPole}
use Rattle.ideal.specs.Reduced.{Least, IsStar, IsReduced}
use Rattle.ideal.proofs.Same.{same_refl, same_sym, same_trans, ideal-same}
use Rattle.ideal.proofs.Gaps.{pole-large}
use Rattle.ideal.proofs.Degree.{cancel, monic-pole, pole-nonzero}
use Rattle.ideal.proofs.Leads.{ideal_space, Lead, Based, based-same, least, least-same, least_unique}
use Rattle.ideal.proofs.Colon.{colon_ideal, colon_self, colon_same, colon_not, colon_lead, colon_based, colon_colon}
use Rattle.ideal.proofs.Class.{equivalent_refl, equivalent_ideal, equivalent_least, star-class}
use Rattle.ideal.proofs.Rules.{ring}

module _ {R : CommRing} (P : Poles R) where
  open R use {Car, mul as ◌⊗◌}

  infixl 70 ◌⊗◌
  pub record SmallFootprint (A : Car → Type 0) : Type 0 where
    pub ideal : IsIdeal R A
    pub based : Based P A
    pub leads : (n : ℕ) → 6 ≤ n → Lead P A n

  pub footprint_same : {A B : Car → Type 0} → SameIdeal R A B → SmallFootprint A → SmallFootprint B
  footprint_same {A} {B} e s = record {
    ideal = ideal-same R e s.ideal;
    based = based-same P e s.based;
    leads = λ n l. ((s.leads n l).0, (e (s.leads n l).0).0 (s.leads n l).1, (s.leads n l).2);
  }

  pub footprint_exists : {A : Car → Type 0} → SmallFootprint A → (f : Car) × Least P A f
  footprint_exists s = least P (ideal_space P s.ideal) s.based (s.leads 6 (omega arith))

  -- For n ≥ 6 the number d + 5 − n is below d, the lowest lead of J.
  pub star_footprint : {J : Car → Type 0} {f : Car} → IsIdeal R J → Based P J → Least P J f → SmallFootprint (Colon R f J)
  star_footprint {J} {f} i base l = record {
    ideal = colon_ideal R f J;
    based = colon_based P (monic-pole P l.monic) i base l.member;
    leads = λ n b. colon_lead P (monic-pole P l.monic) i base l.member (pole-large b) (λ m e (u, mu, pu). omega (arith, l.lowest u m mu pu));
  }

  -- For n below d the number d + 5 − n is at least 6, a lead of A.
  pub footprint_least : {A : Car → Type 0} {f : Car} → SmallFootprint A → Least P A f → Least P (Colon R f A) f
  footprint_least {A} {f} s l = record { pole = l.pole; member = colon_self R f A; monic = l.monic; lowest = λ h n k p. at h n k p (dec_le l.pole n) }
    where
      at : (h : Car) (n : ℕ) → Colon R f A h → HasPole P h n → Dec (l.pole ≤ n) → l.pole ≤ n
      at h n k p (yes b) = b
      at h n k p (no b) = absurd (go (s.leads (l.pole + largest_gap - n) (omega arith)))
        where
          go : Lead P A (l.pole + largest_gap - n) → ⊥
          go (u, mu, pu) = colon_not P (monic-pole P l.monic) k p mu pu (omega arith)

  pub star-star : {J K A : Car → Type 0} → IsStar P J K → IsStar P K A → IsReduced P J A
  star-star s t = record {
    f = s.f;
    least = s.least;
    f' = t.f;
    least' = least-same P s.same t.least;
    same = same_trans R t.same (colon_same R t.f s.same);
  }

  pub equivalent_reduced : {J A : Car → Type 0} → SmallFootprint A → Equivalent R J A → IsReduced P J A
  equivalent_reduced {J} {A} s e = go (footprint_exists s)
    where
      go : (f' : Car) × Least P A f' → IsReduced P J A
      go (f', l') = at (equivalent_least P s.ideal e l')
        where
          at : (f : Car) × Least P J f → IsReduced P J A
          at (f, l) = record {
            f = f;
            least = l;
            f' = f';
            least' = least-same P star (footprint_least s l');
            same = same_trans R (same_sym R (colon_colon P (monic-pole P l'.monic) s.ideal s.based l'.member)) (colon_same R f' star);
          }
            where
              star : SameIdeal R (Colon R f' A) (Colon R f J)
              star = same_sym R (star-class P (equivalent_ideal P e s.ideal) s.ideal e l l')

  pub reduced_self : {A : Car → Type 0} → SmallFootprint A → IsReduced P A A
  reduced_self {A} s = equivalent_reduced s (equivalent_refl P A)

  pub reduced_unique : {J A A' : Car → Type 0} → IsIdeal R J → IsReduced P J A → IsReduced P J A' → SameIdeal R A A'
  reduced_unique {J} {A} {A'} i r r' =
      same_trans R r.same
      (same_trans R (subst (λ t. SameIdeal R (Colon R r.f' (Colon R r.f J)) (Colon R t (Colon R r'.f J))) e' (colon_same R r.f' star)) (same_sym R r'.same))
    where
      star : SameIdeal R (Colon R r.f J) (Colon R r'.f J)
      star = subst (λ t. SameIdeal R (Colon R r.f J) (Colon R t J)) (least_unique P (ideal_space P i) r.least r'.least) (same_refl R (Colon R r.f J))

      e' : r.f' ≡ r'.f'
      e' = least_unique P (ideal_space P (colon_ideal R r'.f J)) (least-same P star r.least') r'.least'

  pub footprint_class : {A A' : Car → Type 0} → SmallFootprint A → SmallFootprint A' → Equivalent R A A' → SameIdeal R A A'
  footprint_class s s' e = reduced_unique s.ideal (reduced_self s) (equivalent_reduced s' e)

  cross : {f f' h j k q : Car} → f' ⊗ j ≡ f ⊗ h → k ⊗ j ≡ f ⊗ q → f ⊗ (h ⊗ k) ≡ f ⊗ (f' ⊗ q)
  cross {f} {f'} {h} {j} {k} {q} e e' = sym (R.mul_assoc f h k) ∙ ap (λ t. t ⊗ k) (sym e) ∙ (simp ring) ∙ ap (λ t. f' ⊗ t) e' ∙ laws.mul_left_comm R f' f q

  module _ {J : Car → Type 0} (i : IsIdeal R J) (base : Based P J) where
    pub reduced_exists : {n : ℕ} → Lead P J n → (f f' : Car) × IsReduced P J (Colon R f' (Colon R f J))
    reduced_exists lead = go (least P (ideal_space P i) base lead)
      where
        at : (f : Car) (l : Least P J f) → (f' : Car) × Least P (Colon R f J) f' → (f f' : Car) × IsReduced P J (Colon R f' (Colon R f J))
        at f l (f', l') = (f, f', record { f = f; least = l; f' = f'; least' = l'; same = same_refl R (Colon R f' (Colon R f J)) })

        go : (f : Car) × Least P J f → (f f' : Car) × IsReduced P J (Colon R f' (Colon R f J))
        go (f, l) = at f l (footprint_exists (star_footprint i base l))

    module _ {A : Car → Type 0} (r : IsReduced P J A) where
      star : SmallFootprint (Colon R r.f J)
      star = star_footprint i base r.least

      pub reduced_footprint : SmallFootprint A
      reduced_footprint = footprint_same (same_sym R r.same) (star_footprint star.ideal star.based r.least')

      -- f'·j is in (f : J)·J, so it is f·a. Conversely f is in (f : J), so f·a is a multiple f'·j, and j is in (f : (f : J)) = J.
      pub reduced_equivalent : Equivalent R J A
      reduced_equivalent = record {
        a = r.f';
        b = r.f;
        a_nonzero = pole-nonzero P pf';
        b_nonzero = pole-nonzero P pf;
        there = λ j m. there j m (r.least'.member j m);
        back = λ h m. back h ((r.same h).0 m) ((r.same h).0 m r.f (colon_self R r.f J));
      }
        where
          pf : HasPole P r.f r.least.pole
          pf = monic-pole P r.least.monic

          pf' : HasPole P r.f' r.least'.pole
          pf' = monic-pole P r.least'.monic

          there : (j : Car) → J j → Multiple R r.f (r.f' ⊗ j) → (h : Car) × A h × (r.f' ⊗ j ≡ r.f ⊗ h)
          there j m (h, e) = (h, (r.same h).1 (λ k mk. go k (mk j m)), e)
            where
              go : (k : Car) → Multiple R r.f (k ⊗ j) → Multiple R r.f' (h ⊗ k)
              go k (q, e') = (q, cancel P (pole-nonzero P pf) (cross e e'))

          back : (h : Car) → Colon R r.f' (Colon R r.f J) h → Multiple R r.f' (h ⊗ r.f) → (j : Car) × J j × (r.f' ⊗ j ≡ r.f ⊗ h)
          back h k (j, e) = (j, (colon_colon P pf i base r.least.member j).0 (λ u mu. go u (k u mu)), sym e ∙ laws.times_comm R h r.f)
            where
              go : (u : Car) → Multiple R r.f' (h ⊗ u) → Multiple R r.f (j ⊗ u)
              go u (q, e') = (q, cancel P (pole-nonzero P pf') (cross (laws.times_comm R r.f h ∙ e) (laws.times_comm R u h ∙ e')))
