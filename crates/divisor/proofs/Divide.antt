-- Division by a based space U: every element is an element of U and a rest without coefficients at the leads of U.
--   Clean U r              r has no coefficient at a lead of U
--   clean-zero             a clean element of U is zero
--   Division, divide       g ≡ rest ⊕ part, the rest clean and as low as g, the part in U
use mathlib.Core.Path.{◌≡◌, sym, ◌∙◌, ap, ap₂, subst}
use mathlib.Core.Logic.{⊎_elim}
use Prim.Native.Nat.{ℕ, zero, suc, ◌≤◌, ◌<◌}
use native.Mathlib.Omega.{arith}
use native.Mathlib.Decide.{ℕ_discrete}
use Rattle.algebra.specs.Ring.{Field}
use Rattle.algebra.proofs.Laws as L
use Rattle.algebra.proofs.Solve.{solve, ◌⊞◌, ⊟◌}
use Rattle.ideal.specs.Poles.{IsPole, Poles, Monic}
use Rattle.ideal.proofs.Degree.{degree}
use Rattle.ideal.proofs.Leads.{IsSpace, space_neg, Lead, Based, lead-monic}
use Rattle.curve.specs.Curve.{Curve, Coordinate, constant}
use Rattle.curve.specs.Sequence.{coefficient}
use Rattle.curve.specs.Monomial.{Below}
use Rattle.curve.proofs.Term.{coefficient-add, coefficient-constant-mul}
use Rattle.curve.proofs.Filtration.{below-coefficient, coefficient-below, below_zero, below_add, below-constant-mul, below_more}
use Rattle.poles.specs.Poles.{poles}
use Rattle.curve.proofs.Poles.{below-constant}
use Rattle.poles.proofs.Monic.{has_pole-coefficient, monic-coefficient}

module _ (K : Field) (C : Curve K.ring) (nonzero : ¬ (C.a0 ≡ K.ring.zero)) (U : (Coordinate C).Car → Type 0) where
  open K.ring use {Car, zero as 𝟘, one as 𝟙, add as ◌+ₖ◌, mul as ◌·ₖ◌, neg as -ₖ◌}
  open Coordinate C use {Car as El, zero as 𝟎, add as ◌⊕◌, mul as ◌⊗◌, neg as ⊖◌}

  infixl 60 ◌⊕◌ ◌+ₖ◌
  infixl 70 ◌⊗◌ ◌·ₖ◌
  infix 80 ⊖◌ -ₖ◌
  abbrev P : Poles (Coordinate C)
  P = poles K C nonzero

  abbrev pub Clean : El → Type 0
  Clean r = (m : ℕ) → Lead P U m → coefficient C m r ≡ 𝟘

  pub clean-zero : (r : El) → U r → Clean r → r ≡ 𝟎
  clean-zero r u c = ⊎_elim (λ e. e) (λ (m, p). absurd ((has_pole-coefficient K C nonzero p).0 (c m (r, u, p)))) (degree P r)

  pub record Division (n : ℕ) (g : El) : Type 0 where
    pub rest : El
    pub part : El
    pub sum : g ≡ rest ⊕ part
    pub clean : Clean rest
    pub low : Below C n rest
    pub within : U part

  scaled : IsSpace P U → (c : Car) (v : El) → U v → U (constant C c ⊗ v)
  unfolding poles
  scaled s c v m = s.scale (below-constant C c) m

  -- u takes the coefficient of g at n away, if n is a lead
  Cleared : ℕ → ℕ → El → Type 0
  Cleared a n g = (u : El) × U u × Below C a u × ((m : ℕ) → n ≤ m → Lead P U m → coefficient C m (g ⊕ u) ≡ 𝟘)

  module _ (s : IsSpace P U) (base : Based P U) where
    kept : (g : El) (m : ℕ) → coefficient C m g ≡ 𝟘 → coefficient C m (g ⊕ 𝟎) ≡ 𝟘
    kept g m e = ap (coefficient C m) ((Coordinate C).add_zero g) ∙ e

    step : (n : ℕ) (g : El) → ((m : ℕ) → suc n ≤ m → Lead P U m → coefficient C m g ≡ 𝟘) → Cleared (suc n) n g
    unfolding Cleared
    step n g h = go (base n)
      where
        at : (v : El) → U v → IsPole n × (coefficient C n v ≡ 𝟙) × ((m : ℕ) → n < m → coefficient C m v ≡ 𝟘) → Cleared (suc n) n g
        at v iv (p, e, z) = (constant C c ⊗ v, scaled s c v iv, below-constant-mul C c (coefficient-below C (suc n) v z), λ m l lead. value m ∙ case m l lead (ℕ_discrete m n))
          where
            c : Car
            c = -ₖ coefficient C n g

            value : (m : ℕ) → coefficient C m (g ⊕ constant C c ⊗ v) ≡ coefficient C m g +ₖ c ·ₖ coefficient C m v
            value m = coefficient-add C m g _ ∙ ap (λ t. coefficient C m g +ₖ t) (coefficient-constant-mul C m c v)

            case : (m : ℕ) → n ≤ m → Lead P U m → Dec (m ≡ n) → coefficient C m g +ₖ c ·ₖ coefficient C m v ≡ 𝟘
            case m l lead (yes f) =
                ap (λ i. coefficient C i g +ₖ c ·ₖ coefficient C i v) f
                ∙ ap (λ t. coefficient C n g +ₖ c ·ₖ t) e
                ∙ ap (λ t. coefficient C n g +ₖ t) (K.ring.mul_one c)
                ∙ K.ring.add_neg _
            case m l lead (no f) =
                ap₂ (λ t w. t +ₖ c ·ₖ w) (h m (omega arith) lead) (z m (omega arith))
                ∙ ap (λ t. 𝟘 +ₖ t) (L.mul-zero K.ring c)
                ∙ K.ring.add_zero 𝟘

        bare : ¬ Lead P U n → (m : ℕ) → n ≤ m → Lead P U m → Dec (m ≡ n) → coefficient C m g ≡ 𝟘
        bare none m l lead (yes e) = absurd (none (subst (Lead P U) e lead))
        bare none m l lead (no f) = h m (omega arith) lead

        monic : (v : El) × U v × Monic P v n → Cleared (suc n) n g
        monic (v, iv, mon) = at v iv (monic-coefficient K C nonzero mon)

        go : Dec (Lead P U n) → Cleared (suc n) n g
        go (yes lead) = monic (lead-monic P s lead)
        go (no none) = (𝟎, s.nil, below_zero C (suc n), λ m l lead. kept g m (bare none m l lead (ℕ_discrete m n)))

    clear : (n : ℕ) (g : El) → ((m : ℕ) → n ≤ m → Lead P U m → coefficient C m g ≡ 𝟘) → Cleared n 0 g
    unfolding Cleared
    clear zero g h = (𝟎, s.nil, below_zero C 0, λ m l lead. kept g m (h m l lead))
    clear (suc n) g h = go (step n g h) (clear n)
      where
        go : Cleared (suc n) n g → ((g : El) → ((m : ℕ) → n ≤ m → Lead P U m → coefficient C m g ≡ 𝟘) → Cleared n 0 g) → Cleared (suc n) 0 g
        go (u, iu, b, c) next = at (next (g ⊕ u) c)
          where
            at : Cleared n 0 (g ⊕ u) → Cleared (suc n) 0 g
            at (v, iv, b', c') = (u ⊕ v, s.sum iu iv, below_add C b (below_more C (omega arith) b'), λ m l lead. ap (coefficient C m) (sym ((Coordinate C).add_assoc g u v)) ∙ c' m l lead)

    pub divide : (n : ℕ) (g : El) → Below C n g → Division n g
    unfolding Cleared
    divide n g b = go (clear n g (λ m l lead. below-coefficient C b m l))
      where
        go : Cleared n 0 g → Division n g
        go (u, iu, b', c) = record {
          rest = g ⊕ u;
          part = ⊖ u;
          sum = undo g u;
          clean = λ m lead. c m (omega arith) lead;
          low = below_add C b b';
          within = space_neg P s iu;
        }
          where
            undo : (g u : El) → g ≡ g ⊕ u ⊕ ⊖ u
            undo = solve (Coordinate C) 2 (λ g u. g) (λ g u. g ⊞ u ⊞ ⊟ u) tt
