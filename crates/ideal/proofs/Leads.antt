-- Spaces over the constants, their leads, and the lowering of an element by elements of a space.
--   IsSpace I          I holds zero and is closed under sums and constant multiples
--   ideal_space        an ideal is a space
--   space_neg          a space is closed under negatives
--   Lead I n           an element of I with pole number n
--   Based I            for each n it is decidable whether I has a lead n
--   lead-monic         the element of a lead can be taken monic
--   lowering           if I ⊆ I' and every lead of I' is one of I, then I' ⊆ I
--   least-lead         a based space with a lead has a lowest one
--   least              a based space with a lead has a least element
--   least_unique       … and only one; least-pole: with one pole number
--   least-below        an element of J below that pole number is zero
--   least-same         sets with the same elements have the same least element
--   least-multiple     an element of J with the pole number of the least is a constant multiple of it
--   based-same         sets with the same elements are based together
use mathlib.Core.Path.{◌≡◌, sym, ◌∙◌, subst}
use mathlib.Core.Logic.{◌⊎◌, inl, inr, ⊎_elim}
use Prim.Native.Nat.{ℕ, suc, ◌≤◌, ◌<◌}
use native.Mathlib.Decide.{ℕ_discrete, dec_le}
use native.Mathlib.Omega.{arith}
use Rattle.algebra.specs.Ring.{CommRing}
use Rattle.algebra.proofs.Laws as laws
use Rattle.ideal.specs.Ideal.{IsIdeal, SameIdeal}
use Rattle.ideal.specs.Poles.{Poles, HasPole, Monic}
use Rattle.ideal.specs.Reduced.{Least}
use Rattle.ideal.proofs.Degree.{below-neg, below_step, degree, lowered, monic-pole, monic-multiple, pole-below, neg-one-constant}
use Rattle.ideal.proofs.Rules.{ring}

module _ {R : CommRing} (P : Poles R) where
  open R use {Car, zero, add as ◌⊕◌, mul as ◌⊗◌, neg as ⊖◌}
  open P use {Below, mono, below_add, below_none, below_some}

  infixl 60 ◌⊕◌
  infixl 70 ◌⊗◌
  infix 80 ⊖◌
  pub record IsSpace (I : Car → Type 0) : Type 0 where
    pub nil : I zero
    pub sum : {a b : Car} → I a → I b → I (a ⊕ b)
    pub scale : {c a : Car} → Below 1 c → I a → I (c ⊗ a)

  pub ideal_space : {I : Car → Type 0} → IsIdeal R I → IsSpace I
  ideal_space i = record { nil = i.nil; sum = i.sum; scale = λ {c} k m. i.times c m }

  abbrev pub Lead : (Car → Type 0) → ℕ → Type 0
  Lead I n = (u : Car) × I u × HasPole P u n

  abbrev pub Based : (Car → Type 0) → Type 0
  Based I = (n : ℕ) → Dec (Lead I n)

  pub space_neg : {I : Car → Type 0} {g : Car} → IsSpace I → I g → I (⊖ g)
  space_neg {I} s m = subst I (simp ring) (s.scale (neg-one-constant P) m)

  pub lead-monic : {I : Car → Type 0} {n : ℕ} → IsSpace I → Lead I n → (u : Car) × I u × Monic P u n
  lead-monic {I} {n} s (u, m, p) = go (monic-multiple P p)
    where
      go : (a : Car) × Below 1 a × (¬ (a ≡ zero)) × Monic P (a ⊗ u) n → (u : Car) × I u × Monic P u n
      go (a, c, nz, mon) = (a ⊗ u, s.scale c m, mon)

  lowering_at : (n : ℕ) {I I' : Car → Type 0} → IsSpace I → IsSpace I' → ((g : Car) → I g → I' g) → ((n : ℕ) → Lead I' n → Lead I n) → (g : Car)
      → I' g → Below n g → I g
  lowering_at ℕ.zero {I} s s' in' lead g m b = subst I (sym (below_none b)) s.nil
  lowering_at (suc n) {I} {I'} s s' in' lead g m b =
      ⊎_elim (lowering_at n s s' in' lead g m) (λ p. at (lowering_at n s s' in' lead) p (lead n (g, m, p))) (below_step P b)
    where
      go : ((g : Car) → I' g → Below n g → I g) → (v : Car) → I v → (a : Car) × Below 1 a × Below n (g ⊕ a ⊗ v) → I g
      go next v iv (a, c, b') = subst I (simp ring) (s.sum (next (g ⊕ a ⊗ v) (s'.sum m (s'.scale c (in' v iv))) b') (space_neg s (s.scale c iv)))

      at : ((g : Car) → I' g → Below n g → I g) → HasPole P g n → Lead I n → I g
      at next p (v, iv, q) = go next v iv (lowered P p.upper q)

  pub lowering : {I I' : Car → Type 0} → IsSpace I → IsSpace I' → ((g : Car) → I g → I' g) → ((n : ℕ) → Lead I' n → Lead I n) → (g : Car) → I' g → I g
  lowering s s' in' lead g m = lowering_at (below_some g).0 s s' in' lead g m (below_some g).1

  -- From n leads down: either no lead is below n, or there is a lowest one.
  lowest-below : {I : Car → Type 0} → Based I → (n : ℕ) → ((k : ℕ) → k < n → ¬ Lead I k) ⊎ ((m : ℕ) × Lead I m × ((k : ℕ) → k < m → ¬ Lead I k))
  lowest-below base ℕ.zero = inl (λ k l. absurd (omega arith))
  lowest-below {I} base (suc n) = ⊎_elim (λ none. go none (base n)) inr (lowest-below base n)
    where
      go : ((k : ℕ) → k < n → ¬ Lead I k) → Dec (Lead I n) → ((k : ℕ) → k < suc n → ¬ Lead I k) ⊎ ((m : ℕ) × Lead I m × ((k : ℕ) → k < m → ¬ Lead I k))
      go none (yes l) = inr (n, l, none)
      go none (no l) = inl (λ k h q. at k h q (ℕ_discrete k n))
        where
          at : (k : ℕ) → k < suc n → Lead I k → Dec (k ≡ n) → ⊥
          at k h q (yes e) = l (subst (Lead I) e q)
          at k h q (no e) = none k (omega arith) q

  pub least-lead : {I : Car → Type 0} {n : ℕ} → Based I → Lead I n → (m : ℕ) × Lead I m × ((k : ℕ) → k < m → ¬ Lead I k)
  least-lead {I} {n} base l = ⊎_elim (λ none. absurd (none n (omega arith) l)) (λ h. h) (lowest-below base (suc n))

  pub least : {I : Car → Type 0} {n : ℕ} → IsSpace I → Based I → Lead I n → (f : Car) × Least P I f
  least {I} s base l = go (least-lead base l)
    where
      go : (m : ℕ) × Lead I m × ((k : ℕ) → k < m → ¬ Lead I k) → (f : Car) × Least P I f
      go (m, l, none) = at (lead-monic s l)
        where
          below : (h : Car) (n : ℕ) → I h → HasPole P h n → Dec (m ≤ n) → m ≤ n
          below h n ih p (yes e) = e
          below h n ih p (no e) = absurd (none n (omega arith) (h, ih, p))

          at : (u : Car) × I u × Monic P u m → (f : Car) × Least P I f
          at (u, iu, mon) = (u, record { pole = m; member = iu; monic = mon; lowest = λ h n ih p. below h n ih p (dec_le m n) })

  -- An element of J below the pole number of the least element is zero.
  pub least-below : {J : Car → Type 0} {f g : Car} (l : Least P J f) → J g → Below l.pole g → g ≡ zero
  least-below {J} {f} {g} l m b = ⊎_elim (λ e. e) (λ (n, p). absurd (omega (arith, pole-below P p b, l.lowest g n m p))) (degree P g)

  pub least-multiple : {J : Car → Type 0} {f g : Car} (l : Least P J f) → IsSpace J → J g → HasPole P g l.pole → (a : Car) × Below 1 a × (g ≡ a ⊗ f)
  least-multiple {J} {f} {g} l s m p = go (lowered P p.upper (monic-pole P l.monic))
    where
      go : (a : Car) × Below 1 a × Below l.pole (g ⊕ a ⊗ f) → (a : Car) × Below 1 a × (g ≡ a ⊗ f)
      go (a, c, b) =
          (⊖ a, below-neg P c, laws.neg_unique R (a ⊗ f) g (laws.plus_comm R (a ⊗ f) g ∙ least-below l (s.sum m (s.scale c l.member)) b) ∙ simp ring)

  pub least-pole : {J : Car → Type 0} {f f' : Car} (l : Least P J f) (l' : Least P J f') → l.pole ≡ l'.pole
  least-pole {J} {f} {f'} l l' =
      omega (arith, l.lowest f' l'.pole l'.member (monic-pole P l'.monic), l'.lowest f l.pole l.member (monic-pole P l.monic))

  pub least_unique : {J : Car → Type 0} {f f' : Car} → IsSpace J → Least P J f → Least P J f' → f ≡ f'
  least_unique {J} {f} {f'} s l l' =
      laws.sub-zero→eq R f f'
      (least-below l (s.sum l.member (space_neg s l'.member)) (subst (Below l.pole) (simp ring) (below_add l.monic.rest (below-neg P rest'))))
    where
      rest' : Below l.pole (f' ⊕ ⊖ mono l.pole)
      rest' = subst (λ n. Below n (f' ⊕ ⊖ mono n)) (sym (least-pole l l')) l'.monic.rest

  pub based-same : {I J : Car → Type 0} → SameIdeal R I J → Based I → Based J
  based-same {I} {J} e base n = go (base n)
    where
      go : Dec (Lead I n) → Dec (Lead J n)
      go (yes (u, m, p)) = yes (u, (e u).0 m, p)
      go (no h) = no (λ (u, m, p). h (u, (e u).1 m, p))

  pub least-same : {I J : Car → Type 0} {f : Car} → SameIdeal R I J → Least P I f → Least P J f
  least-same {I} {J} {f} e l = record { pole = l.pole; member = (e f).0 l.member; monic = l.monic; lowest = λ h n m p. l.lowest h n ((e h).1 m) p }
