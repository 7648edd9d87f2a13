-- A point (a, b) of the curve and the ideal of its record x − a, y − b: what lies in this ideal is zero at the point. So the polynomials of a record whose
-- ideal lies inside the point's are zero there.
--   x-value κ m t          a polynomial in x alone that lies in the ideal of the record with the numbers m, at x = t
--   y-value κ m s t        a polynomial of the record in which y leads, at x = s and y = t
--   f-value m s t          the first polynomial of a record of kind 31
--   forms_vanish           each polynomial of a record whose ideal lies inside the point's is zero at (a, b)
--   x_vanishes, y_vanishes, f_vanishes     so these three are
use mathlib.Core.Path.{◌≡◌, sym, subst}
use mathlib.Core.List.{[], ◌∷◌}
use Prim.Native.Nat.{ℕ}
use Rattle.algebra.specs.Ring.{CommRing}
use Rattle.algebra.proofs.Norm.{nil}
use Rattle.algebra.proofs.Sound.{value}
use Rattle.algebra.proofs.Solve.{◌⊞◌, ◌⊠◌, ⊟◌, given, solve_from}
use Rattle.ideal.proofs.Every.{Every, every_map, every_source}
use Rattle.ideal.proofs.Generated.{generated_each}
use Rattle.powers.specs.Power.{Inside}
use Rattle.curve.specs.Curve.{Curve, Coordinate}
use Rattle.divisor.specs.Kind.{Kind, k0, k11, k21, k22, k31, polynomials, IdealOf, IsBasis}
use Rattle.invertible.proofs.Formula.{forms}
use Rattle.invertible.proofs.Value as values
use Rattle.point.proofs.OnCurve.{value-zero}

module _ (k : CommRing) where
  open k use {Car, one, add as ◌+◌, mul as ◌·◌, neg as -◌}

  infixl 60 ◌+◌
  infixl 70 ◌·◌
  infix 80 -◌
  -- for kind 31 it is (x + g2)·f − f2·g, in which y cancels
  abbrev pub x-value : Kind → (ℕ → Car) → Car → Car
  x-value k0 m t = one
  x-value k11 m t = t + m 0
  x-value k21 m t = t · t + m 3 · t + m 2
  x-value k22 m t = t + m 0
  x-value k31 m t = (t · t + m 1 · t + m 0) · (t + m 5) + - (m 2 · (m 4 · t + m 3))

  abbrev pub y-value : Kind → (ℕ → Car) → (s t : Car) → Car
  y-value k0 m s t = one
  y-value k11 m s t = t + m 1
  y-value k21 m s t = t + m 1 · s + m 0
  y-value k22 m s t = t · t + m 2 · t + m 1
  y-value k31 m s t = t · t + m 8 · t + m 7 · s + m 6

  abbrev pub f-value : (ℕ → Car) → (s t : Car) → Car
  f-value m s t = s · s + m 2 · t + m 1 · s + m 0

  -- the second polynomial of a record of kind 31
  abbrev g_value : (ℕ → Car) → (s t : Car) → Car
  g_value m s t = s · t + m 5 · t + m 4 · s + m 3

  without-y : (m : ℕ → Car) (s t : Car) → f-value m s t ≡ k.zero → g_value m s t ≡ k.zero → x-value k31 m s ≡ k.zero
  without-y m s t f g = step s t (m 0) (m 1) (m 2) (m 3) (m 4) (m 5) (f, (g, tt))
    where
      step : (s t f0 f1 f2 g0 g1 g2 : Car) → (s · s + f2 · t + f1 · s + f0 ≡ k.zero) × ((s · t + g2 · t + g1 · s + g0 ≡ k.zero) × Unit {0})
          → (s · s + f1 · s + f0) · (s + g2) + - (f2 · (g1 · s + g0)) ≡ k.zero
      step =
          solve_from k 8 (λ s t f0 f1 f2 g0 g1 g2. given (s ⊞ g2) (s ⊠ s ⊞ f2 ⊠ t ⊞ f1 ⊠ s ⊞ f0) nil ∷ given (⊟ f2) (s ⊠ t ⊞ g2 ⊠ t ⊞ g1 ⊠ s ⊞ g0) nil ∷ [])
          (λ s t f0 f1 f2 g0 g1 g2. (s ⊠ s ⊞ f1 ⊠ s ⊞ f0) ⊠ (s ⊞ g2) ⊞ ⊟ (f2 ⊠ (g1 ⊠ s ⊞ g0))) (λ s t f0 f1 f2 g0 g1 g2. nil) tt

module _ {k : CommRing} (C : Curve k) (a b : k.Car) (n : ℕ → k.Car) (n0 : n 0 ≡ k.neg a) (n1 : n 1 ≡ k.neg b) (basis : IsBasis C k11 n) where
  open k use {Car}

  module _ (κ : Kind) (m : ℕ → Car) (inside : Inside (Coordinate C) (IdealOf C κ m) (IdealOf C k11 n)) where
    forms_in : Every (λ e. IdealOf C κ m (values.at C m e)) (forms κ)
    forms_in =
        every_source (IdealOf C κ m) (values.at C m) (forms κ)
        (subst (Every (IdealOf C κ m)) (sym (values.forms_at C m κ)) (generated_each (Coordinate C) (polynomials C κ m)))

    pub forms_vanish : Every (λ e. value k e (a ∷ b ∷ values.numbers C m) ≡ k.zero) (forms κ)
    forms_vanish =
        every_map (λ e i. value-zero C a b n n0 n1 basis (values.numbers C m) e (inside (values.at C m e) i)) (forms κ) forms_in

  pub f_vanishes : (m : ℕ → Car) → Inside (Coordinate C) (IdealOf C k31 m) (IdealOf C k11 n) → f-value k m a b ≡ k.zero
  f_vanishes m i = (forms_vanish k31 m i).0

  pub x_vanishes : (κ : Kind) (m : ℕ → Car) → Inside (Coordinate C) (IdealOf C κ m) (IdealOf C k11 n) → x-value k κ m a ≡ k.zero
  x_vanishes k0 m i = (forms_vanish k0 m i).0
  x_vanishes k11 m i = (forms_vanish k11 m i).0
  x_vanishes k21 m i = (forms_vanish k21 m i).1.0
  x_vanishes k22 m i = (forms_vanish k22 m i).0
  x_vanishes k31 m i = without-y k m a b (f_vanishes m i) (forms_vanish k31 m i).1.0

  pub y_vanishes : (κ : Kind) (m : ℕ → Car) → Inside (Coordinate C) (IdealOf C κ m) (IdealOf C k11 n) → y-value k κ m a b ≡ k.zero
  y_vanishes k0 m i = (forms_vanish k0 m i).0
  y_vanishes k11 m i = (forms_vanish k11 m i).1.0
  y_vanishes k21 m i = (forms_vanish k21 m i).0
  y_vanishes k22 m i = (forms_vanish k22 m i).1.0
  y_vanishes k31 m i = (forms_vanish k31 m i).1.1.0
