-- Elements given by their coefficients at pole numbers, as arrays hold them: 0 at the gaps 1, 2 and 5 and from some place on.
-- Each operation is recognised by what it does to the coefficients.
--   vector-is          g is the vector of f if f has its coefficients at the pole numbers
--   vector-zero vector-same vector-scale         zero, equal sequences, multiples by constants
use mathlib.Core.Path.{◌≡◌, sym, ◌∙◌, ap}
use Prim.Native.Nat.{ℕ, ◌≤◌}
use Rattle.algebra.specs.Ring.{CommRing}
use Rattle.ideal.specs.Poles.{IsGap, IsPole}
use Rattle.curve.specs.Curve.{Curve, Coordinate, constant}
use Rattle.curve.proofs.Pole.{gap_dec}
use Rattle.curve.specs.Sequence.{coefficient, vector}
use Rattle.curve.proofs.Term.{coefficient-gap, coefficient_ext, coefficient-zero, coefficient-constant-mul, coefficient-vector}

module _ {k : CommRing} (C : Curve k) where
  open k use {Car, zero as 𝟘, add as ◌+ₖ◌, mul as ◌·ₖ◌, neg as -ₖ◌}
  open Coordinate C use {Car as El, zero as 𝟎, add as ◌⊕◌, mul as ◌⊗◌}

  infixl 60 ◌⊕◌ ◌+ₖ◌
  infixl 70 ◌⊗◌ ◌·ₖ◌
  infix 80 -ₖ◌
  abbrev Ends : (ℕ → Car) → ℕ → Type 0
  Ends f N = (n : ℕ) → N ≤ n → f n ≡ 𝟘

  pub vector-is : (f : ℕ → Car) (N : ℕ) (h : Ends f N) (g : El) → ((n : ℕ) → IsPole n → coefficient C n g ≡ f n) → g ≡ vector C f N h
  vector-is f N h g e = coefficient_ext C (λ n. go n (gap_dec n))
    where
      go : (n : ℕ) → Dec (IsGap n) → coefficient C n g ≡ coefficient C n (vector C f N h)
      go n (yes d) = coefficient-gap C n d g ∙ sym (coefficient-gap C n d (vector C f N h))
      go n (no p) = e n p ∙ sym (coefficient-vector C f N h n p)

  pub vector-zero : (f : ℕ → Car) (N : ℕ) (h : Ends f N) → ((n : ℕ) → IsPole n → f n ≡ 𝟘) → 𝟎 ≡ vector C f N h
  vector-zero f N h e = vector-is f N h 𝟎 (λ n p. coefficient-zero C n ∙ sym (e n p))

  module _ (f : ℕ → Car) (N : ℕ) (h : Ends f N) (g : ℕ → Car) (M : ℕ) (l : Ends g M) where
    pub vector-same : ((n : ℕ) → IsPole n → f n ≡ g n) → vector C f N h ≡ vector C g M l
    vector-same e = vector-is g M l (vector C f N h) (λ n p. coefficient-vector C f N h n p ∙ e n p)

    pub vector-scale : (c : Car) → ((n : ℕ) → IsPole n → g n ≡ c ·ₖ f n) → constant C c ⊗ vector C f N h ≡ vector C g M l
    vector-scale c e =
        vector-is g M l (constant C c ⊗ vector C f N h) (λ n p. coefficient-constant-mul C n c _ ∙ ap (λ u. c ·ₖ u) (coefficient-vector C f N h n p) ∙ sym (e n p))
