-- Pole numbers of elements of R: sums, products, constants. R is a domain.
--   one-pole, one-nonzero          1 has pole number 0
--   neg-one-constant               −1 is a constant
--   below-scale, below-neg         Below n is closed under constant multiples and negatives
--   below_step                     an element below n + 1 is below n or has pole number n
--   degree                         an element is zero or has a pole number
--   zero_dec                       it is decidable whether an element is zero
--   pole-below, pole_unique        an element has one pole number
--   pole-number                    a pole number is no gap
--   pole-nonzero, pole-some        an element has a pole number exactly if it is not zero
--   pole_cong, pole-at             pole numbers along equations of elements and of numbers
--   mono-has                       mono n has the pole number n
--   constant-pole                  a nonzero constant has the pole number 0
--   lowered                        a constant multiple of h of pole number n takes g below n
--   pole-add, pole-mul, pole-neg   pole numbers of sums, products, negatives
--   pole-scale                     … and of nonzero constant multiples
--   domain, cancel, mul-nonzero    R is a domain
--   monic-pole, monic-multiple     monic elements, and the monic constant multiple of an element
use mathlib.Core.Path.{◌≡◌, sym, ◌∙◌, ap, subst}
use mathlib.Core.Logic.{◌⊎◌, inl, inr, ⊎_elim}
use Prim.Native.Nat.{ℕ, suc, ◌+◌, ◌≤◌, ◌<◌}
use native.Mathlib.Decide.{dec_le}
use native.Mathlib.Omega.{arith}
use Rattle.algebra.specs.Ring.{CommRing}
use Rattle.algebra.proofs.Laws as laws
use Rattle.ideal.specs.Poles.{IsPole, Poles, HasPole, Monic}
use Rattle.ideal.proofs.Gaps.{pole-zero}
use Rattle.ideal.proofs.Rules.{ring}

module _ {R : CommRing} (P : Poles R) where
  open R use {Car, zero, one, add as ◌⊕◌, mul as ◌⊗◌, neg as ⊖◌}
  open P use {Below, mono, below_zero, below_add, below_mono, below_none, below_some, below_dec, below_gap, below_mul, below_factor, mono_zero, mono_pole, lower}

  infixl 60 ◌⊕◌
  infixl 70 ◌⊗◌
  infix 80 ⊖◌
  pub one-pole : HasPole P one 0
  one-pole = record { upper = rw mono_zero at (mono_pole 0 pole-zero).0; exact = rw mono_zero at (mono_pole 0 pole-zero).1 }

  pub one-nonzero : ¬ (one ≡ zero)
  one-nonzero e = one-pole.exact (rw e (below_zero 0))

  pub neg-one-constant : Below 1 (⊖ one)
  neg-one-constant = go (lower one-pole.upper one-pole.upper one-pole.exact)
    where
      go : (a : Car) × Below 1 a × Below 0 (one ⊕ a ⊗ one) → Below 1 (⊖ one)
      go (a, c, b) = subst (Below 1) (laws.neg_unique R one a (simp ring (simp ring at (below_none b)))) c

  below-scale-at : (n : ℕ) {a g : Car} → Below 1 a → Below n g → Below n (a ⊗ g)
  below-scale-at ℕ.zero {a} {g} c b = rw (below_none b) (rw laws.mul-zero (below_zero 0))
  below-scale-at (suc n) {a} {g} c b = below_mono (omega arith) (below_mul c b)

  pub below-scale : {n : ℕ} {a g : Car} → Below 1 a → Below n g → Below n (a ⊗ g)
  below-scale {n} c b = below-scale-at n c b

  pub below-neg : {n : ℕ} {g : Car} → Below n g → Below n (⊖ g)
  below-neg {n} {g} b = subst (Below n) (simp ring) (below-scale neg-one-constant b)

  pub below_step : {n : ℕ} {g : Car} → Below (suc n) g → Below n g ⊎ HasPole P g n
  below_step {n} {g} b = go (below_dec n g)
    where
      go : Dec (Below n g) → Below n g ⊎ HasPole P g n
      go (yes c) = inl c
      go (no c) = inr (record { upper = b; exact = c })

  degree_at : (n : ℕ) {g : Car} → Below n g → (g ≡ zero) ⊎ ((m : ℕ) × HasPole P g m)
  degree_at ℕ.zero b = inl (below_none b)
  degree_at (suc n) b = ⊎_elim (degree_at n) (λ h. inr (n, h)) (below_step b)

  pub degree : (g : Car) → (g ≡ zero) ⊎ ((m : ℕ) × HasPole P g m)
  degree g = degree_at (below_some g).0 (below_some g).1

  pub zero_dec : (g : Car) → Dec (g ≡ zero)
  zero_dec g = go (below_dec 0 g)
    where
      go : Dec (Below 0 g) → Dec (g ≡ zero)
      go (yes b) = yes (below_none b)
      go (no b) = no (λ e. b (rw e (below_zero 0)))

  pub pole-nonzero : {n : ℕ} {g : Car} → HasPole P g n → ¬ (g ≡ zero)
  pole-nonzero {n} h e = h.exact (rw e (below_zero n))

  pub pole-some : {g : Car} → ¬ (g ≡ zero) → (m : ℕ) × HasPole P g m
  pole-some {g} h = ⊎_elim (λ e. absurd (h e)) (λ p. p) (degree g)

  pub pole-below : {m n : ℕ} {g : Car} → HasPole P g n → Below m g → n < m
  pole-below {m} {n} h b = go (dec_le m n)
    where
      go : Dec (m ≤ n) → n < m
      go (yes l) = absurd (h.exact (below_mono l b))
      go (no l) = omega arith

  pub pole_unique : {m n : ℕ} {g : Car} → HasPole P g m → HasPole P g n → m ≡ n
  pole_unique h k = omega (arith, pole-below h k.upper, pole-below k h.upper)

  pub pole-number : {n : ℕ} {g : Car} → HasPole P g n → IsPole n
  pole-number h gap = h.exact (below_gap gap h.upper)

  pub mono-has : {n : ℕ} → IsPole n → HasPole P (mono n) n
  mono-has {n} h = record { upper = (mono_pole n h).0; exact = (mono_pole n h).1 }

  pub pole_cong : {n : ℕ} {g h : Car} → g ≡ h → HasPole P g n → HasPole P h n
  pole_cong {n} e p = subst (λ t. HasPole P t n) e p

  pub pole-at : {m n : ℕ} {g : Car} → m ≡ n → HasPole P g m → HasPole P g n
  pole-at {g = g} e p = subst (HasPole P g) e p

  pub pole-add : {n : ℕ} {g h : Car} → HasPole P g n → Below n h → HasPole P (g ⊕ h) n
  pole-add {n} {g} {h} p b = record {
    upper = below_add p.upper (below_mono (omega arith) b);
    exact = λ c. p.exact (subst (Below n) (simp ring) (below_add c (below-neg b)));
  }

  pub pole-mul : {m n : ℕ} {g h : Car} → HasPole P g m → HasPole P h n → HasPole P (g ⊗ h) (m + n)
  pole-mul p q = record {
    upper = below_mul p.upper q.upper;
    exact = λ c. ⊎_elim p.exact q.exact (below_factor p.upper q.upper c);
  }

  pub constant-pole : {a : Car} → Below 1 a → ¬ (a ≡ zero) → HasPole P a 0
  constant-pole c nz = record { upper = c; exact = λ b. nz (below_none b) }

  pub pole-scale : {n : ℕ} {a g : Car} → Below 1 a → ¬ (a ≡ zero) → HasPole P g n → HasPole P (a ⊗ g) n
  pole-scale c nz p = pole-at (omega arith) (pole-mul (constant-pole c nz) p)

  pub pole-neg : {n : ℕ} {g : Car} → HasPole P g n → HasPole P (⊖ g) n
  pole-neg {n} {g} p = record {
    upper = below-neg p.upper;
    exact = λ c. p.exact (subst (Below n) (simp ring) (below-neg c));
  }

  pub mul-nonzero : {a b : Car} → ¬ (a ≡ zero) → ¬ (b ≡ zero) → ¬ (a ⊗ b ≡ zero)
  mul-nonzero na nb = pole-nonzero (pole-mul (pole-some na).1 (pole-some nb).1)

  pub domain : {a g : Car} → ¬ (a ≡ zero) → a ⊗ g ≡ zero → g ≡ zero
  domain {a} {g} na e = go (zero_dec g)
    where
      go : Dec (g ≡ zero) → g ≡ zero
      go (yes z) = z
      go (no z) = absurd (mul-nonzero na z e)

  pub cancel : {a g h : Car} → ¬ (a ≡ zero) → a ⊗ g ≡ a ⊗ h → g ≡ h
  cancel {a} {g} {h} na e = laws.cancel_left R (⊖ h) g h (laws.plus_comm R (⊖ h) g ∙ domain na (simp ring (rw e (simp ring))) ∙ sym (laws.neg-add R h))

  pub lowered : {n : ℕ} {g h : Car} → Below (suc n) g → HasPole P h n → (a : Car) × Below 1 a × Below n (g ⊕ a ⊗ h)
  lowered b p = lower b p.upper p.exact

  pub monic-pole : {n : ℕ} {g : Car} → Monic P g n → HasPole P g n
  monic-pole {n} {g} m = pole_cong (simp ring) (pole-add (mono-has m.pole) m.rest)

  pub monic-multiple : {n : ℕ} {g : Car} → HasPole P g n → (a : Car) × Below 1 a × (¬ (a ≡ zero)) × Monic P (a ⊗ g) n
  monic-multiple {n} {g} p = go (lowered (mono-has (pole-number p)).upper p)
    where
      nonzero : (a : Car) → Below n (mono n ⊕ a ⊗ g) → ¬ (a ≡ zero)
      nonzero a b e = (mono-has (pole-number p)).exact (subst (Below n) (rw e (simp ring)) b)

      go : (a : Car) × Below 1 a × Below n (mono n ⊕ a ⊗ g) → (a : Car) × Below 1 a × (¬ (a ≡ zero)) × Monic P (a ⊗ g) n
      go (a, c, b) = (
        ⊖ a,
        below-neg c,
        λ e. nonzero a b (sym (laws.neg-neg R a) ∙ ap (λ t. ⊖ t) e ∙ laws.neg-zero R),
        record { pole = pole-number p; rest = subst (Below n) (simp ring) (below-neg b) },
      )
