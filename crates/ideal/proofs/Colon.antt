-- The colon ideal (f : I), f in I of pole number d: n is a lead of (f : I) exactly if n is a pole number and d + 5 − n is no lead of I.
--   colon_ideal        (f : I) is an ideal
--   colon_self         f is in (f : I)
--   colon_not          if n is a lead of (f : I), then d + 5 − n is no lead of I
--   Taken f d I g n    an element of I with pole number n that g takes into the kernel of f
--   ker_colon          g is in (f : I) if g·u is in the kernel of f for each u in I
--   ker_leads          … for which one u of each lead is enough
--   above_taken        f·mono s is in I, and every g takes it into the kernel
--   colon_lead         a pole number n is a lead of (f : I) if d + 5 − n is no lead of I
--   colon_based        (f : I) is based if I is
--   colon_colon        (f : (f : I)) = I
--   colon_same         the colon ideals of sets with the same elements are the same
use mathlib.Core.Path.{◌≡◌, refl, sym, ◌∙◌, subst}
use Prim.Native.Nat.{ℕ, suc, ◌+◌, ◌-◌, ◌≤◌, ◌<◌}
use native.Mathlib.Decide.{ℕ_discrete, dec_le}
use native.Mathlib.Omega.{arith}
use Rattle.algebra.specs.Ring.{CommRing}
use Rattle.algebra.proofs.Laws as laws
use Rattle.ideal.specs.Ideal.{IsIdeal, Multiple, Colon, SameIdeal}
use Rattle.ideal.specs.Poles.{largest_gap, IsGap, IsPole, Poles, HasPole}
use Rattle.ideal.proofs.Gaps.{Split, above, across, split, gap_dec, pole-large}
use Rattle.ideal.proofs.Degree.{below-scale, mono-has, pole-add, pole-at, pole_cong, pole-mul, pole-number}
use Rattle.ideal.proofs.Leads.{IsSpace, ideal_space, Lead, Based, lowering}
use Rattle.ideal.proofs.Kernel.{Ker, multiple_not, ker_below, ker_multiple, ker_sum, ker_scale, ker_lower, nondegenerate}
use Rattle.ideal.proofs.Rules.{ring}

module _ (R : CommRing) where
  open R use {Car, zero, add as ◌⊕◌, mul as ◌⊗◌}

  infixl 60 ◌⊕◌
  infixl 70 ◌⊗◌
  pub colon_ideal : (f : Car) (I : Car → Type 0) → IsIdeal R (Colon R f I)
  colon_ideal f I = record {
    nil = λ h m. (zero, simp ring);
    sum = λ {a} {b} ka kb h m. ((ka h m).0 ⊕ (kb h m).0, laws.add-mul R a b h ∙ rw ((ka h m).1, (kb h m).1) (simp ring));
    times = λ r {a} ka h m. (r ⊗ (ka h m).0, laws.times_assoc R r a h ∙ rw (ka h m).1 (simp ring));
  }

  pub colon_self : (f : Car) (I : Car → Type 0) → Colon R f I f
  colon_self f I h m = (h, refl)

  pub colon_same : (f : Car) {I J : Car → Type 0} → SameIdeal R I J → SameIdeal R (Colon R f I) (Colon R f J)
  colon_same f e g = (λ k h m. k h ((e h).1 m), λ k h m. k h ((e h).0 m))

abbrev pub Taken : {R : CommRing} (P : Poles R) → R.Car → ℕ → (R.Car → Type 0) → R.Car → ℕ → Type 0
Taken {R} P f d I g n = (v : R.Car) × I v × HasPole P v n × Ker P f d (R.mul g v)

module _ {R : CommRing} (P : Poles R) {f : R.Car} {d : ℕ} (pf : HasPole P f d) where
  open R use {Car, zero, one, add as ◌⊕◌, mul as ◌⊗◌}
  open P use {Below, mono, below_mono}

  infixl 60 ◌⊕◌
  infixl 70 ◌⊗◌
  pub colon_not : {I : Car → Type 0} {g u : Car} {n m : ℕ} → Colon R f I g → HasPole P g n → I u → HasPole P u m → ¬ (n + m ≡ d + largest_gap)
  colon_not {I} {g} {u} k pg iu pu e = go (k u iu)
    where
      go : Multiple R f (g ⊗ u) → ⊥
      go (q, e') = multiple_not P pf {q = q} (pole_cong P e' (pole-at P e (pole-mul P pg pu)))

  module _ {I : Car → Type 0} (ideal : IsIdeal R I) where
    pub ker_colon : {g : Car} → ((u : Car) → I u → Ker P f d (g ⊗ u)) → Colon R f I g
    ker_colon {g} k h m = nondegenerate P pf (λ r. subst (Ker P f d) (simp ring) (k (r ⊗ h) (ideal.times r m)))

    -- The part of I that g takes into the kernel is a space, which is I if it has the leads of I.
    pub ker_leads : {g : Car} → ((n : ℕ) → Lead P I n → Taken P f d I g n) → Colon R f I g
    ker_leads {g} lead = ker_colon (λ u m. (lowering P part (ideal_space P ideal) (λ t k. k.0) (λ n l. regroup n (lead n l)) u m).1)
      where
        part : IsSpace P (λ u. I u × Ker P f d (g ⊗ u))
        part = record {
          nil = (ideal.nil, subst (Ker P f d) (simp ring) (ker_multiple P pf {q = zero}));
          sum = λ {a} {b} ka kb. (ideal.sum ka.0 kb.0, subst (Ker P f d) (simp ring) (ker_sum P pf ka.1 kb.1));
          scale = λ {c} {a} k ka. (ideal.times c ka.0, subst (Ker P f d) (simp ring) (ker_scale P pf k ka.1));
        }

        regroup : (n : ℕ) → Taken P f d I g n → Lead P (λ u. I u × Ker P f d (g ⊗ u)) n
        regroup n (v, iv, pv, k) = (v, (iv, k), pv)

    -- f·mono s is in I, and every g takes it into the kernel.
    pub above_taken : {s n : ℕ} → I f → (g : Car) → IsPole s → n ≡ d + s → Taken P f d I g n
    above_taken {s} {n} member g ps e = (
      mono s ⊗ f,
      ideal.times (mono s) member,
      pole-at P (omega arith) (pole-mul P (mono-has P ps) pf),
      subst (Ker P f d) (simp ring) (ker_multiple P pf {q = g ⊗ mono s}),
    )

    module _ (base : Based P I) (member : I f) where
      -- The triangular system of (f : I), solved for the leads of I below l: g of pole number n, and for each lead an element of I that g takes into the kernel.
      Solved : ℕ → ℕ → Type 0
      Solved n l = (g : Car) × HasPole P g n × ((m : ℕ) → m < l → Lead P I m → Taken P f d I g m)

      module _ {n : ℕ} (pn : IsPole n) (free : (m : ℕ) → n + m ≡ d + largest_gap → ¬ Lead P I m) where
        one_more : {l : ℕ} (g : Car) → ((m : ℕ) → m < l → Lead P I m → Taken P f d I g m) → (Lead P I l → Taken P f d I g l) → (m : ℕ) → m < suc l
            → Lead P I m → Taken P f d I g m
        one_more {l} g old new m b lead = go (ℕ_discrete m l)
          where
            go : Dec (m ≡ l) → Taken P f d I g m
            go (yes e) = subst (Taken P f d I g) (sym e) (new (subst (Lead P I) e lead))
            go (no e) = old m (omega arith) lead

        -- A constant multiple of mono s, s + l = d + 5, is added to g. It keeps what g does to elements below l.
        solve_step : (l : ℕ) → Solved n l → Solved n (suc l)
        unfolding Solved
        solve_step l (g, pg, old) = go (base l)
          where
            kept : {s : ℕ} (a : Car) → Below 1 a → IsPole s → s + l ≡ d + largest_gap → (m : ℕ) → m < l → Taken P f d I g m → Taken P f d I (g ⊕ a ⊗ mono s) m
            kept {s} a c ps e m b (v, iv, pv, k) =
                (v, iv, pv, subst (Ker P f d) (simp ring) (ker_sum P pf k (ker_scale P pf c (ker_below P pf (below_mono (omega arith) (pole-mul P (mono-has P ps) pv).upper)))))

            change : {s : ℕ} (v : Car) → I v → HasPole P v l → IsPole s → s + l ≡ d + largest_gap → s < n
                → (a : Car) × Below 1 a × Ker P f d (g ⊗ v ⊕ a ⊗ (mono s ⊗ v)) → Solved n (suc l)
            change {s} v iv pv ps e less (a, c, k) = (
              g ⊕ a ⊗ mono s,
              pole-add P pg (below-scale P c (below_mono less (mono-has P ps).upper)),
              one_more (g ⊕ a ⊗ mono s) (λ m b lead. kept a c ps e m b (old m b lead)) (λ _. (v, iv, pv, subst (Ker P f d) (simp ring) k)),
            )

            at-across : {s : ℕ} → IsPole s → s + l ≡ d + largest_gap → (v : Car) → I v → HasPole P v l → Dec (s < n) → Dec (s ≡ n) → Solved n (suc l)
            at-across {s} ps e v iv pv (yes less) b = change v iv pv ps e less (ker_lower P pf (pole-at P e (pole-mul P (mono-has P ps) pv)) (g ⊗ v))
            at-across {s} ps e v iv pv (no a) (yes eq) = absurd (free l (omega arith) (v, iv, pv))
            at-across {s} ps e v iv pv (no a) (no b) =
                (g, pg, one_more g old (λ _. (v, iv, pv, ker_below P pf (below_mono (omega arith) (pole-mul P pg pv).upper))))

            at : Split d l → (v : Car) → I v → HasPole P v l → Solved n (suc l)
            at (above ps e) v iv pv = (g, pg, one_more g old (λ _. above_taken member g ps e))
            at (across {s} ps e) v iv pv = at-across ps e v iv pv (dec_le (suc s) n) (ℕ_discrete s n)

            go : Dec (Lead P I l) → Solved n (suc l)
            go (no none) = (g, pg, one_more g old (λ lead. absurd (none lead)))
            go (yes (v, iv, pv)) = at (split d l) v iv pv

        solve : (l : ℕ) → Solved n l
        unfolding Solved
        solve ℕ.zero = (mono n, mono-has P pn, λ m b. absurd (omega arith))
        solve (suc l) = solve_step l (solve l)

        pub colon_lead : Lead P (Colon R f I) n
        unfolding Solved
        colon_lead = go (solve (suc (d + largest_gap)))
          where
            at : {g : Car} → ((m : ℕ) → m < suc (d + largest_gap) → Lead P I m → Taken P f d I g m) → (m : ℕ) → Lead P I m
                → Dec (m < suc (d + largest_gap)) → Taken P f d I g m
            at {g} old m lead (yes b) = old m b lead
            at {g} old m lead (no b) = above_taken member g (pole-large {n = m - d} (omega arith)) (omega arith)

            go : Solved n (suc (d + largest_gap)) → Lead P (Colon R f I) n
            go (g, pg, old) = (g, ker_leads (λ m lead. at old m lead (dec_le (suc m) (suc (d + largest_gap)))), pg)

      pub colon_based : Based P (Colon R f I)
      colon_based n = go (gap_dec n) (dec_le n (d + largest_gap))
        where
          at : IsPole n → n ≤ d + largest_gap → Dec (Lead P I (d + largest_gap - n)) → Dec (Lead P (Colon R f I) n)
          at pn l (yes (u, iu, pu)) = no (λ (g, k, pg). colon_not k pg iu pu (omega arith))
          at pn l (no none) = yes (colon_lead pn (λ m e lead. none (subst (Lead P I) (omega arith) lead)))

          go : Dec (IsGap n) → Dec (n ≤ d + largest_gap) → Dec (Lead P (Colon R f I) n)
          go (yes gap) b = no (λ (g, k, pg). pole-number P pg gap)
          go (no pn) (yes l) = at pn l (base (d + largest_gap - n))
          go (no pn) (no l) = yes (colon_lead pn (λ m e lead. absurd (omega arith)))

      pub colon_colon : SameIdeal R (Colon R f (Colon R f I)) I
      colon_colon g = (lowering P (ideal_space P ideal) (ideal_space P (colon_ideal R f (Colon R f I))) inside leads g, inside g)
        where
          inside : (g : Car) → I g → Colon R f (Colon R f I) g
          inside g m h k = ((k g m).0, laws.times_comm R g h ∙ (k g m).1)

          at : (n : ℕ) → Lead P (Colon R f (Colon R f I)) n → Dec (Lead P I n) → Split d n → Lead P I n
          at n l (yes have) b = have
          at n l (no none) (above ps e) = absurd (none (regroup (above_taken member zero ps e)))
            where
              regroup : Taken P f d I zero n → Lead P I n
              regroup (v, iv, pv, k) = (v, iv, pv)
          at n (g, k, pg) (no none) (across {s} ps e) = absurd (go (colon_lead ps (λ m e' lead. none (subst (Lead P I) (omega arith) lead))))
            where
              go : Lead P (Colon R f I) s → ⊥
              go (v, kv, pv) = colon_not k pg kv pv (omega arith)

          leads : (n : ℕ) → Lead P (Colon R f (Colon R f I)) n → Lead P I n
          leads n l = at n l (base n) (split d n)
