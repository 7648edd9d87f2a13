-- What the expressions of Letters stand for in the coordinate ring, for a list us of numbers.
--   numbers, letters       the values of the letters: a0, c0 … c8 and us in k; x, y and those as constants in the ring
--   at e, at_same          the value of the expression e; expressions that the solver finds the same have the same value
--   number_at e, origin_at the value of e at x = y = 0 is a constant
--   F-zero                 F is zero in the ring
use mathlib.Core.Path.{◌≡◌, refl, sym, ◌∙◌, ap, ap₂}
use mathlib.Core.List.{List, [], ◌∷◌, map}
use Prim.Native.Nat.{ℕ, zero, suc}
use Rattle.algebra.specs.Ring.{CommRing}
use Rattle.algebra.proofs.Norm.{E, var, num, nil, unit, sum, prod, opp, pow, Same}
use Rattle.algebra.proofs.Sound.{number, nth, raise, value, same-value}
use Rattle.curve.specs.Curve.{Curve, Coordinate, x, y, constant}
use Rattle.curve.proofs.Coefficient.{constant-zero, constant-one, constant-add, constant-neg, constant-mul}
use Rattle.curve.proofs.Equation.{curve-equation}
use Rattle.expressions.proofs.Letters.{F, origin}

module _ {k : CommRing} (C : Curve k) (us : List k.Car) where
  open Coordinate C use {Car as El, zero as 𝟎, add as ◌⊕◌, mul as ◌⊗◌, neg as ⊖◌}

  infixl 60 ◌⊕◌
  infixl 70 ◌⊗◌
  infix 80 ⊖◌
  abbrev pub numbers : List k.Car
  numbers = C.a0 ∷ C.c0 ∷ C.c1 ∷ C.c2 ∷ C.c3 ∷ C.c4 ∷ C.c5 ∷ C.c6 ∷ C.c7 ∷ C.c8 ∷ us

  abbrev pub letters : List El
  letters = x C ∷ y C ∷ map (constant C) numbers

  abbrev pub at : E → El
  at e = value (Coordinate C) e letters

  abbrev pub number_at : E → k.Car
  number_at e = value k (origin e) (k.zero ∷ k.zero ∷ numbers)

  pub at_same : (a b : E) → Same a b → at a ≡ at b
  at_same a b t = same-value (Coordinate C) a b t letters

  nth_constant : (i : ℕ) (vs : List k.Car) → nth (Coordinate C) i (map (constant C) vs) ≡ constant C (nth k i vs)
  nth_constant zero [] = sym (constant-zero C)
  nth_constant zero (v ∷ vs) = refl
  nth_constant (suc i) [] = nth_constant i []
  nth_constant (suc i) (v ∷ vs) = nth_constant i vs

  number-constant : (m : ℕ) → number (Coordinate C) m ≡ constant C (number k m)
  number-constant zero = sym (constant-zero C)
  number-constant (suc m) = ap₂ ◌⊕◌ (sym (constant-one C)) (number-constant m) ∙ sym (constant-add C _ _)

  raise_constant : (a : El) (u : k.Car) → a ≡ constant C u → (m : ℕ) → raise (Coordinate C) a m ≡ constant C (raise k u m)
  raise_constant a u e zero = sym (constant-one C)
  raise_constant a u e (suc m) = ap₂ ◌⊗◌ e (raise_constant a u e m) ∙ sym (constant-mul C _ _)

  pub origin_at : (e : E) → at (origin e) ≡ constant C (number_at e)
  origin_at (var zero) = sym (constant-zero C)
  origin_at (var (suc zero)) = sym (constant-zero C)
  origin_at (var (suc (suc i))) = nth_constant i numbers
  origin_at (num m) = number-constant m
  origin_at nil = sym (constant-zero C)
  origin_at unit = sym (constant-one C)
  origin_at (sum a b) = ap₂ ◌⊕◌ (origin_at a) (origin_at b) ∙ sym (constant-add C _ _)
  origin_at (prod a b) = ap₂ ◌⊗◌ (origin_at a) (origin_at b) ∙ sym (constant-mul C _ _)
  origin_at (opp a) = ap ⊖◌ (origin_at a) ∙ sym (constant-neg C _)
  origin_at (pow a m) = raise_constant _ _ (origin_at a) m

  pub F-zero : at F ≡ 𝟎
  F-zero = curve-equation C
