-- The leads of a span over k[x] of three elements whose pole numbers lie in the three classes modulo 3.
--   Reach d n          d ≤ n, and n and d lie in the same class modulo 3
--   reach_dec          … is decidable
--   span_reach         b in the span, of pole number d: the span has each lead that d reaches
--   span_step          one more element b adds the leads that its pole number reaches
--   triple-lead        each lead of the span is reached by one of the three pole numbers
--   triple_reach       … and each number so reached is a lead
--   triple-based       so the span is based
use mathlib.Core.Path.{◌≡◌, refl, sym, ◌∙◌, ap, subst}
use mathlib.Core.Logic.{◌⊎◌, inl, inr, ⊎_elim}
use mathlib.Core.List.{List, [], ◌∷◌}
use Prim.Native.Nat.{ℕ, ◌*◌, ◌-◌, ◌/◌, ◌%◌, ◌≤◌}
use native.Mathlib.Decide.{ℕ_discrete, dec_le}
use native.Mathlib.Omega.{arith}
use Rattle.algebra.specs.Ring.{CommRing}
use Rattle.algebra.proofs.Laws as laws
use Rattle.ideal.specs.Poles.{Poles, HasPole}
use Rattle.ideal.proofs.Degree.{degree, pole_cong, pole-mul, pole-nonzero, pole_unique}
use Rattle.ideal.proofs.Leads.{Lead, Based}
use Rattle.ideal.proofs.Adjoin.{sum-lead}
use Rattle.ideal.proofs.Span.{InX, inx_pole, Span, span_x, span_each, x-lead}

abbrev pub Reach : ℕ → ℕ → Type 0
Reach d n = (d ≤ n) × (n % 3 ≡ d % 3)

pub reach_dec : (d n : ℕ) → Dec (Reach d n)
reach_dec d n = go (dec_le d n) (ℕ_discrete (n % 3) (d % 3))
  where
    go : Dec (d ≤ n) → Dec (n % 3 ≡ d % 3) → Dec (Reach d n)
    go (yes l) (yes e) = yes (l, e)
    go (yes l) (no e) = no (λ r. e r.1)
    go (no l) e = no (λ r. l r.0)

module _ {R : CommRing} (P : Poles R) where
  open R use {Car, zero, mul as ◌⊗◌}

  infixl 70 ◌⊗◌
  pub span_reach : (bs : List Car) {b : Car} {d n : ℕ} → Span P bs b → HasPole P b d → Reach d n → Lead P (Span P bs) n
  span_reach bs {b} {d} {n} m p (l, e) = subst (Lead P (Span P bs)) (omega arith) (x-lead P (span_x P bs) ((n - d) / 3) (b, m, p))

  -- the multiples of b from k[x]
  Ray : Car → Car → Type 0
  Ray b h = (p : Car) × InX P p × (h ≡ p ⊗ b)

  ray_lead : {b : Car} {d n : ℕ} → HasPole P b d → Lead P (Ray b) n → Reach d n
  unfolding Ray
  ray_lead {b} {d} {n} pb (h, (p, i, e), ph) = go (degree P p)
    where
      at : {m : ℕ} → HasPole P p m → (j : ℕ) × (m ≡ 3 * j) → Reach d n
      at {m} pp (j, e') =
          (omega (arith, pole_unique P ph (pole_cong P (sym e) (pole-mul P pp pb))), omega (arith, pole_unique P ph (pole_cong P (sym e) (pole-mul P pp pb))))

      go : (p ≡ zero) ⊎ ((m : ℕ) × HasPole P p m) → Reach d n
      go (inl z) = absurd (pole-nonzero P ph (e ∙ ap (λ t. t ⊗ b) z ∙ laws.zero-mul R b))
      go (inr (m, pp)) = at pp (inx_pole P i pp)

  pub span_step : (bs : List Car) {b : Car} {d n : ℕ} → HasPole P b d → ((m : ℕ) → Lead P (Span P bs) m → ¬ Reach d m) → Lead P (Span P (b ∷ bs)) n
      → Reach d n ⊎ Lead P (Span P bs) n
  unfolding Ray
  span_step bs {b} {d} {n} pb apart (h, (p, s, i, m, e), ph) =
      ⊎_elim (λ l. inl (ray_lead pb l)) inr (sum-lead P {U = Ray b} {W = Span P bs} (λ k lr ls. apart k ls (ray_lead pb lr)) (p, i, refl) m (pole_cong P e ph))

  module _ {b₀ b₁ b₂ : Car} {d₀ d₁ d₂ : ℕ} (p₀ : HasPole P b₀ d₀) (p₁ : HasPole P b₁ d₁) (p₂ : HasPole P b₂ d₂)
      (a₀₁ : ¬ (d₀ % 3 ≡ d₁ % 3)) (a₀₂ : ¬ (d₀ % 3 ≡ d₂ % 3)) (a₁₂ : ¬ (d₁ % 3 ≡ d₂ % 3)) where
    last_lead : (n : ℕ) → Lead P (Span P (b₂ ∷ [])) n → Reach d₂ n
    last_lead n l = ⊎_elim (λ r. r) (λ (u, e, p). absurd (pole-nonzero P p e)) (span_step [] p₂ (λ m (u, e, p) _. pole-nonzero P p e) l)

    two-lead : (n : ℕ) → Lead P (Span P (b₁ ∷ b₂ ∷ [])) n → Reach d₁ n ⊎ Reach d₂ n
    two-lead n l = ⊎_elim inl (λ l. inr (last_lead n l)) (span_step (b₂ ∷ []) p₁ (λ m l r. a₁₂ (sym r.1 ∙ (last_lead m l).1)) l)

    pub triple-lead : (n : ℕ) → Lead P (Span P (b₀ ∷ b₁ ∷ b₂ ∷ [])) n → Reach d₀ n ⊎ (Reach d₁ n ⊎ Reach d₂ n)
    triple-lead n l =
        ⊎_elim inl (λ l. inr (two-lead n l))
        (span_step (b₁ ∷ b₂ ∷ []) p₀ (λ m l r. ⊎_elim (λ q. a₀₁ (sym r.1 ∙ q.1)) (λ q. a₀₂ (sym r.1 ∙ q.1)) (two-lead m l)) l)

    pub triple_reach : (n : ℕ) → Reach d₀ n ⊎ (Reach d₁ n ⊎ Reach d₂ n) → Lead P (Span P (b₀ ∷ b₁ ∷ b₂ ∷ [])) n
    triple_reach n (inl r) = span_reach (b₀ ∷ b₁ ∷ b₂ ∷ []) (span_each P (b₀ ∷ b₁ ∷ b₂ ∷ [])).0 p₀ r
    triple_reach n (inr (inl r)) = span_reach (b₀ ∷ b₁ ∷ b₂ ∷ []) (span_each P (b₀ ∷ b₁ ∷ b₂ ∷ [])).1.0 p₁ r
    triple_reach n (inr (inr r)) = span_reach (b₀ ∷ b₁ ∷ b₂ ∷ []) (span_each P (b₀ ∷ b₁ ∷ b₂ ∷ [])).1.1.0 p₂ r

    pub triple-based : Based P (Span P (b₀ ∷ b₁ ∷ b₂ ∷ []))
    triple-based n = go (reach_dec d₀ n) (reach_dec d₁ n) (reach_dec d₂ n)
      where
        go : Dec (Reach d₀ n) → Dec (Reach d₁ n) → Dec (Reach d₂ n) → Dec (Lead P (Span P (b₀ ∷ b₁ ∷ b₂ ∷ [])) n)
        go (yes r) b c = yes (triple_reach n (inl r))
        go (no a) (yes r) c = yes (triple_reach n (inr (inl r)))
        go (no a) (no b) (yes r) = yes (triple_reach n (inr (inr r)))
        go (no a) (no b) (no c) = no (λ l. ⊎_elim a (⊎_elim b c) (triple-lead n l))
