-- What the expressions of Formula stand for in the coordinate ring.
--   nine n                 the numbers n 0 … n 8 as a list
--   numbers, at e          the values of the letters a0, c0 … c8, n0 … n8 in k; the value of the expression e
--   forms_at               the values of the forms are the polynomials of the record
--   F-zero                 F is zero in the ring
--   slope_x, slope_y       the derivatives of F are the normal forms of Fx and Fy
use mathlib.Core.Path.{◌≡◌, refl, sym, ◌∙◌, ap₂}
use mathlib.Core.List.{List, [], ◌∷◌, map}
use Prim.Native.Nat.{ℕ}
use Rattle.algebra.specs.Ring.{CommRing}
use Rattle.algebra.proofs.Norm.{E, nil, unit}
use Rattle.algebra.proofs.Solve.{◌⊞◌, ◌⊠◌}
use Rattle.curve.specs.Curve.{Curve, ascending, Coordinate, in_x, x, y}
use Rattle.curve.proofs.Equation.{in_x-ascending, in_x-none}
use Rattle.nonsingular.specs.Derivative.{derivative_x, derivative_y}
use Rattle.nonsingular.proofs.Quotient.{at-of_parts}
use Rattle.divisor.specs.Kind.{Kind, polynomials}
use Rattle.divisor.proofs.Table.{kind_by}
use Rattle.expressions.proofs.Letters as letters
use Rattle.expressions.proofs.Letters.{a0, c, F, derivative, origin}
use Rattle.expressions.proofs.Value as formula
use Rattle.expressions.proofs.Value.{number_at, at_same, origin_at}
use Rattle.invertible.proofs.Formula.{forms}

abbrev pub nine : {A : Type 0} → (ℕ → A) → List A
nine n = n 0 ∷ n 1 ∷ n 2 ∷ n 3 ∷ n 4 ∷ n 5 ∷ n 6 ∷ n 7 ∷ n 8 ∷ []

module _ {k : CommRing} (C : Curve k) (n : ℕ → k.Car) where
  open Coordinate C use {Car as El, zero as 𝟎, add as ◌⊕◌, mul as ◌⊗◌}

  infixl 60 ◌⊕◌
  infixl 70 ◌⊗◌
  abbrev pub numbers : List k.Car
  numbers = formula.numbers C (nine n)

  abbrev pub at : E → El
  at = formula.at C (nine n)

  pub forms_at : (κ : Kind) → map at (forms κ) ≡ polynomials C κ n
  forms_at = kind_by (λ κ. map at (forms κ) ≡ polynomials C κ n) refl refl refl refl refl

  pub F-zero : at F ≡ 𝟎
  F-zero = formula.F-zero C (nine n)

  -- the polynomial in x with the coefficients es, the constant one first
  abbrev rising : List E → E
  rising [] = nil
  rising (e ∷ es) = origin e ⊞ letters.x ⊠ rising es

  rising-at : (es : List E) → at (rising es) ≡ in_x C (ascending k (map (number_at C (nine n)) es))
  rising-at [] = sym (in_x-none C)
  rising-at (e ∷ es) = ap₂ (λ u v. u ⊕ x C ⊗ v) (origin_at C (nine n) e) (rising-at es) ∙ sym (in_x-ascending C _ _)

  -- a + b·y + c·y² for such polynomials
  abbrev quadratic : List E → List E → List E → E
  quadratic us vs ws = rising us ⊞ rising vs ⊠ letters.y ⊞ rising ws ⊠ (letters.y ⊠ letters.y)

  quadratic_at : (us vs ws : List E) → at (quadratic us vs ws)
      ≡ in_x C (ascending k (map (number_at C (nine n)) us)) ⊕ in_x C (ascending k (map (number_at C (nine n)) vs)) ⊗ y C ⊕ in_x C (ascending k (map (number_at C (nine n)) ws)) ⊗ (y C ⊗ y C)
  quadratic_at us vs ws = λ i. rising-at us i ⊕ rising-at vs i ⊗ y C ⊕ rising-at ws i ⊗ (y C ⊗ y C)

  abbrev 2· : E → E
  2· e = e ⊞ e

  pub slope_x : at (derivative 0 F) ≡ derivative_x C
  unfolding derivative_x
  slope_x =
      let us = c 1 ∷ 2· (c 3) ∷ (2· (c 6) ⊞ c 6) ∷ 2· (2· a0) ∷ [] in
      let vs = c 4 ∷ 2· (c 7) ∷ [] in
      let ws = c 8 ∷ [] in
      at_same C (nine n) (derivative 0 F) (quadratic us vs ws) tt ∙ quadratic_at us vs ws ∙ at-of_parts C _ _ _

  pub slope_y : at (derivative 1 F) ≡ derivative_y C
  unfolding derivative_y
  slope_y =
      let us = c 2 ∷ c 4 ∷ c 7 ∷ [] in
      let vs = 2· (c 5) ∷ 2· (c 8) ∷ [] in
      let ws = (2· unit ⊞ unit) ∷ [] in
      at_same C (nine n) (derivative 1 F) (quadratic us vs ws) tt ∙ quadratic_at us vs ws ∙ at-of_parts C _ _ _
