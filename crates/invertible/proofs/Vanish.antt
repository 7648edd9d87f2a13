-- An expression in the ideal of a basis that has remaining monomials only is zero, coefficient by coefficient, so its derivatives are zero too.
--   taylor ps e            the part of e at the monomials 1, x and y whose pole numbers, 0, 3 and 4, are in ps
--   within κ e, steady e   tests: e has remaining monomials of the kind κ only; e has neither x nor y
--   flat κ e               test: e has remaining monomials of the kind κ only, and steady derivatives
--   vanish                 a flat expression whose value is in the ideal of a basis is zero, and so are its derivatives
use mathlib.Core.Path.{◌≡◌, refl, sym, ◌∙◌, ap, ap₂, subst₂}
use mathlib.Core.Bool.{Bool}
use mathlib.Core.List.{List, [], ◌∷◌, map}
use Prim.Native.Nat.{ℕ}
use lib.Dec.{T, eqb}
use Rattle.algebra.specs.Ring.{CommRing}
use Rattle.algebra.proofs.Norm.{E, nil, unit, same}
use Rattle.algebra.proofs.Test.{both, both_left, both_right}
use Rattle.algebra.proofs.Solve.{◌⊞◌, ◌⊠◌}
use Rattle.ideal.proofs.Every.{Every}
use Rattle.curve.specs.Curve.{Curve, Coordinate, constant}
use Rattle.curve.specs.Sequence.{coefficient, pick}
use Rattle.curve.specs.Monomial.{mono}
use Rattle.curve.proofs.Coefficient.{constant-zero}
use Rattle.curve.proofs.Term.{coefficient-zero}
use Rattle.divisor.specs.Kind.{Kind, k31, remaining, IdealOf, MadeOf, IsBasis}
use Rattle.divisor.proofs.Monomials.{mono-one, mono-x, mono-y}
use Rattle.divisor.proofs.Terms.{Terms, terms, places, find, coefficient_terms, terms_made}
use Rattle.divisor.proofs.Table.{kind_by, remaining-poles, remaining_monos}
use Rattle.expressions.proofs.Letters.{x, y, derivative, origin}
use Rattle.expressions.proofs.Value.{number_at, at_same, origin_at}
use Rattle.invertible.proofs.Value.{nine, at}

-- what has the coefficient of e at the pole number p for its value at x = y = 0
abbrev slope : ℕ → E → E
slope p e = pick (eqb p 3) (derivative 0 e) (pick (eqb p 4) (derivative 1 e) e)

abbrev place : ℕ → E
place p = pick (eqb p 3) x (pick (eqb p 4) y unit)

abbrev taylor : List ℕ → E → E
taylor [] e = nil
taylor (p ∷ ps) e = origin (slope p e) ⊠ place p ⊞ taylor ps e

abbrev within : Kind → E → Bool
within κ e = same e (taylor (remaining-poles κ) e)

abbrev steady : E → Bool
steady e = same e (origin e)

abbrev pub flat : Kind → E → Bool
flat κ e = both (within κ e) (both (within k31 e) (both (steady (derivative 0 e)) (steady (derivative 1 e))))

module _ {k : CommRing} (C : Curve k) (n : ℕ → k.Car) where
  open Coordinate C use {Car as El, zero as 𝟎, add as ◌⊕◌, mul as ◌⊗◌}

  infixl 60 ◌⊕◌
  infixl 70 ◌⊗◌
  -- the terms of taylor ps e
  abbrev taylor_terms : List ℕ → E → Terms C
  taylor_terms [] e = []
  taylor_terms (p ∷ ps) e = (number_at C (nine n) (slope p e), p) ∷ taylor_terms ps e

  taylor_places : (ps : List ℕ) (e : E) → places C (taylor_terms ps e) ≡ ps
  taylor_places [] e = refl
  taylor_places (p ∷ ps) e = ap (λ qs. p ∷ qs) (taylor_places ps e)

  Placed : ℕ → Type 0
  Placed p = at C n (place p) ≡ mono C p

  placed : (κ : Kind) → Every Placed (remaining-poles κ)
  unfolding Placed
  placed = kind_by (λ κ. Every Placed (remaining-poles κ)) tt (one, tt) (one, (in_x, tt)) (one, (in_y, tt)) (one, (in_x, (in_y, tt)))
    where
      one : Placed 0
      one = sym (mono-one C)

      in_x : Placed 3
      in_x = sym (mono-x C)

      in_y : Placed 4
      in_y = sym (mono-y C)

  taylor_at : (ps : List ℕ) (e : E) → Every Placed ps → at C n (taylor ps e) ≡ terms C (taylor_terms ps e)
  unfolding Placed
  taylor_at [] e _ = refl
  taylor_at (p ∷ ps) e (q, qs) = ap₂ ◌⊕◌ (ap₂ ◌⊗◌ (origin_at C (nine n) (slope p e)) q) (taylor_at ps e qs)

  module _ (e : E) where
    at_terms : (κ : Kind) → T (within κ e) → at C n e ≡ terms C (taylor_terms (remaining-poles κ) e)
    at_terms κ u = at_same C (nine n) e (taylor (remaining-poles κ) e) u ∙ taylor_at (remaining-poles κ) e (placed κ)

    at-made : (κ : Kind) → T (within κ e) → MadeOf C (remaining C κ) (at C n e)
    at-made κ u =
        subst₂ (MadeOf C) (ap (map (mono C)) (taylor_places (remaining-poles κ) e) ∙ sym (remaining_monos C κ)) (sym (at_terms κ u))
        (terms_made C (taylor_terms (remaining-poles κ) e))

    -- the coefficients of zero at 0, 3 and 4
    low-zero : T (within k31 e) → at C n e ≡ 𝟎 → (m : ℕ) → find C m (taylor_terms (remaining-poles k31) e) ≡ k.zero
    low-zero u z m =
        sym (coefficient_terms C (taylor_terms (remaining-poles k31) e) tt m) ∙ ap (coefficient C m) (sym (at_terms k31 u) ∙ z) ∙ coefficient-zero C m

  steady_zero : (d : E) → T (steady d) → number_at C (nine n) d ≡ k.zero → at C n d ≡ 𝟎
  steady_zero d u z = at_same C (nine n) d (origin d) u ∙ origin_at C (nine n) d ∙ ap (constant C) z ∙ constant-zero C

  pub vanish : (κ : Kind) (e : E) → T (flat κ e) → IsBasis C κ n → IdealOf C κ n (at C n e)
      → (at C n e ≡ 𝟎) × (at C n (derivative 0 e) ≡ 𝟎) × (at C n (derivative 1 e) ≡ 𝟎)
  vanish κ e t basis m = (
    zero,
    steady_zero (derivative 0 e) (both_left (steady (derivative 0 e)) _ t'') (low-zero e low zero 3),
    steady_zero (derivative 1 e) (both_right (steady (derivative 0 e)) _ t'') (low-zero e low zero 4),
  )
    where
      t' : T (both (within k31 e) (both (steady (derivative 0 e)) (steady (derivative 1 e))))
      t' = both_right (within κ e) _ t

      t'' : T (both (steady (derivative 0 e)) (steady (derivative 1 e)))
      t'' = both_right (within k31 e) _ t'

      low : T (within k31 e)
      low = both_left (within k31 e) _ t'

      zero : at C n e ≡ 𝟎
      zero = basis (at C n e) m (at-made e κ (both_left (within κ e) _ t))
