-- The kernel of f, d its pole number: what a multiple of f takes below d + 5. It stands for the kernel of a functional
-- that vanishes on the multiples of f and below d + 5 and not at d + 5.
--   Ker f d h                      some h + f·q is below d + 5
--   multiple-pole                  the pole number of a multiple of f is d + s, s a pole number
--   multiple_not                   … so it is not d + 5
--   ker_below, ker_multiple        what is below d + 5, and each multiple of f, is in the kernel
--   ker_sum, ker_scale             the kernel is a space
--   ker_more, ker_less             multiples of f may be added and taken away
--   ker_not                        no element of pole number d + 5 is in the kernel
--   ker_lower                      a constant multiple of an element of pole number d + 5 takes h into the kernel
--   nondegenerate                  if h·r is in the kernel for each r, then h is a multiple of f
use mathlib.Core.Path.{◌≡◌, sym, ◌∙◌, subst}
use mathlib.Core.Logic.{⊎_elim}
use Prim.Native.Nat.{ℕ, suc, ◌+◌, ◌-◌, ◌≤◌}
use native.Mathlib.Decide.{dec_le}
use native.Mathlib.Omega.{arith}
use Rattle.algebra.specs.Ring.{CommRing}
use Rattle.algebra.proofs.Laws as laws
use Rattle.ideal.specs.Ideal.{Multiple}
use Rattle.ideal.specs.Poles.{largest_gap, IsPole, Poles, HasPole}
use Rattle.ideal.proofs.Gaps.{Split, above, across, split, pole-apart, pole-large}
use Rattle.ideal.proofs.Degree.{below-scale, below_step, degree, lowered, mono-has, pole-add, pole-at, pole_cong, pole-mul, pole-neg, pole-nonzero, pole-number, pole_unique}
use Rattle.ideal.proofs.Rules as rules
use Rattle.ideal.proofs.Rules.{ring}

module _ {R : CommRing} (P : Poles R) where
  open R use {Car, zero, add as ◌⊕◌, mul as ◌⊗◌, neg as ⊖◌}
  open P use {Below, mono, below_zero, below_add, below_mono, below_none, below_some}

  infixl 60 ◌⊕◌
  infixl 70 ◌⊗◌
  infix 80 ⊖◌
  abbrev pub Ker : Car → ℕ → Car → Type 0
  Ker f d h = (q : Car) × Below (d + largest_gap) (h ⊕ f ⊗ q)

  module _ {f : Car} {d : ℕ} (pf : HasPole P f d) where
    pub multiple-pole : {q : Car} {n : ℕ} → HasPole P (f ⊗ q) n → (s : ℕ) × IsPole s × (n ≡ d + s)
    multiple-pole {q} {n} p =
        ⊎_elim (λ e. absurd (pole-nonzero P p (rw e (laws.mul-zero R f)))) (λ (s, ps). (s, pole-number P ps, pole_unique P p (pole-mul P pf ps))) (degree P q)

    pub multiple_not : {q : Car} → ¬ HasPole P (f ⊗ q) (d + largest_gap)
    multiple_not p = go (multiple-pole p)
      where
        go : (s : ℕ) × IsPole s × (d + largest_gap ≡ d + s) → ⊥
        go (s, ps, e) = omega (arith, pole-apart ps)

    pub ker_below : {h : Car} → Below (d + largest_gap) h → Ker f d h
    ker_below {h} b = (zero, simp ring b)

    pub ker_more : {h q : Car} → Ker f d h → Ker f d (h ⊕ f ⊗ q)
    ker_more {h} {q} (t, b) = (t ⊕ ⊖ q, subst (Below (d + largest_gap)) (simp ring) b)

    pub ker_less : {h q : Car} → Ker f d (h ⊕ f ⊗ q) → Ker f d h
    ker_less {h} {q} (t, b) = (q ⊕ t, subst (Below (d + largest_gap)) (simp ring) b)

    pub ker_multiple : {q : Car} → Ker f d (f ⊗ q)
    ker_multiple {q} = subst (Ker f d) (simp ring) (ker_more {q = q} (ker_below (below_zero (d + largest_gap))))

    pub ker_sum : {g h : Car} → Ker f d g → Ker f d h → Ker f d (g ⊕ h)
    ker_sum {g} {h} (q, b) (t, c) = (q ⊕ t, subst (Below (d + largest_gap)) (simp ring) (below_add b c))

    pub ker_scale : {a h : Car} → Below 1 a → Ker f d h → Ker f d (a ⊗ h)
    ker_scale {a} {h} c (q, b) = (a ⊗ q, subst (Below (d + largest_gap)) (simp ring) (below-scale P c b))

    pub ker_not : {h : Car} → HasPole P h (d + largest_gap) → ¬ Ker f d h
    ker_not {h} p (q, b) = multiple_not {q = q} (pole_cong P (simp ring) (pole-add P (pole-neg P p) b))

    ker_lower-at : (n : ℕ) {w : Car} → HasPole P w (d + largest_gap) → (h : Car) → Below n h → (a : Car) × Below 1 a × Ker f d (h ⊕ a ⊗ w)
    ker_lower-at ℕ.zero {w} pw h b = (zero, below_zero 1, subst (Ker f d) (simp ring) (ker_below (below_mono (omega arith) b)))
    ker_lower-at (suc n) {w} pw h b = ⊎_elim (ker_lower-at n pw h) (λ p. at (ker_lower-at n pw) p (dec_le n (d + largest_gap))) (below_step P b)
      where
        near : (a : Car) × Below 1 a × Below (d + largest_gap) (h ⊕ a ⊗ w) → (a : Car) × Below 1 a × Ker f d (h ⊕ a ⊗ w)
        near (a, c, b') = (a, c, ker_below b')

        far : ((h : Car) → Below n h → (a : Car) × Below 1 a × Ker f d (h ⊕ a ⊗ w)) → (s : ℕ) → (a : Car) × Below 1 a × Below n (h ⊕ a ⊗ (f ⊗ mono s))
            → (a : Car) × Below 1 a × Ker f d (h ⊕ a ⊗ w)
        far next s (t, c, b') = last (next (h ⊕ t ⊗ (f ⊗ mono s)) b')
          where
            last : (a : Car) × Below 1 a × Ker f d (h ⊕ t ⊗ (f ⊗ mono s) ⊕ a ⊗ w) → (a : Car) × Below 1 a × Ker f d (h ⊕ a ⊗ w)
            last (a, c, k) = (a, c, ker_less {q = t ⊗ mono s} (subst (Ker f d) (simp ring) k))

        at : ((h : Car) → Below n h → (a : Car) × Below 1 a × Ker f d (h ⊕ a ⊗ w)) → HasPole P h n → Dec (n ≤ d + largest_gap)
            → (a : Car) × Below 1 a × Ker f d (h ⊕ a ⊗ w)
        at next p (yes l) = near (lowered P (below_mono (omega arith) p.upper) pw)
        at next p (no l) = far next (n - d) (lowered P p.upper (pole-at P (omega arith) (pole-mul P pf (mono-has P {n = n - d} (pole-large (omega arith))))))

    pub ker_lower : {w : Car} → HasPole P w (d + largest_gap) → (h : Car) → (a : Car) × Below 1 a × Ker f d (h ⊕ a ⊗ w)
    ker_lower pw h = ker_lower-at (below_some h).0 pw h (below_some h).1

    nondegenerate_at : (n : ℕ) (h : Car) → Below n h → ((r : Car) → Ker f d (h ⊗ r)) → Multiple R f h
    nondegenerate_at ℕ.zero h b k = (zero, below_none b ∙ sym (laws.mul-zero R f))
    nondegenerate_at (suc n) h b k = ⊎_elim (λ c. nondegenerate_at n h c k) (λ p. at (nondegenerate_at n) p (split d n)) (below_step P b)
      where
        go : ((h : Car) → Below n h → ((r : Car) → Ker f d (h ⊗ r)) → Multiple R f h) → (s : ℕ)
            → (a : Car) × Below 1 a × Below n (h ⊕ a ⊗ (f ⊗ mono s)) → Multiple R f h
        go next s (a, c, b') = last (next (h ⊕ a ⊗ (f ⊗ mono s)) b' (λ r. subst (Ker f d) (simp ring) (ker_more {q = a ⊗ mono s ⊗ r} (k r))))
          where
            last : Multiple R f (h ⊕ a ⊗ (f ⊗ mono s)) → Multiple R f h
            last (q, e) = (q ⊕ ⊖ (a ⊗ mono s), rules.move R e ∙ simp ring)

        at : ((h : Car) → Below n h → ((r : Car) → Ker f d (h ⊗ r)) → Multiple R f h) → HasPole P h n → Split d n → Multiple R f h
        at next p (above {s} ps e) = go next s (lowered P p.upper (pole-at P (sym e) (pole-mul P pf (mono-has P ps))))
        at next p (across {s} ps e) = absurd (ker_not (pole-at P (omega arith) (pole-mul P p (mono-has P ps))) (k (mono s)))

    pub nondegenerate : {h : Car} → ((r : Car) → Ker f d (h ⊗ r)) → Multiple R f h
    nondegenerate {h} k = nondegenerate_at (below_some h).0 h (below_some h).1 k
