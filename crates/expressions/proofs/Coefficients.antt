-- The coefficients of the value of an expression, by pole number, are the values of expressions that are cut from its normal form.
-- That the cuts are right needs no proof: the solver tests that the expression is the sum of its pieces.
--   cut m e                the coefficient of e at the normal monomial of pole number m, an expression in the other letters
--   monomial m, monomial-at        this monomial, as an expression; its value
--   pieces ps e            the sum of the cuts at ps times their monomials
--   whole ps e             test: e is the sum of its pieces at ps, which are pole numbers, no two the same
--   present m ps           test: m is in ps
--   coefficient-at         then the coefficient of the value of e at a number of ps is the value of the cut
--   coefficient-none       … and at any other number it is zero
--   cut_zero               if the value of e is zero, then so are the values of the cuts
--   less-F                 a multiple of F adds nothing
use mathlib.Core.Path.{◌≡◌, refl, sym, ◌∙◌, ap, ap₂, subst}
use mathlib.Core.Bool.{Bool, true, false, not}
use mathlib.Core.List.{List, [], ◌∷◌}
use Prim.Native.Nat.{ℕ, zero, suc}
use lib.Dec.{T, eqb, eqb→eq}
use Rattle.algebra.specs.Ring.{CommRing}
use Rattle.algebra.proofs.Laws as laws
use Rattle.algebra.proofs.Norm.{E, var, num, nil, H, z, con, cons, norm, same}
use Rattle.algebra.proofs.Test.{both, both_left, both_right}
use Rattle.algebra.proofs.Solve.{◌⊞◌, ◌⊠◌, ◌^^◌}
use Rattle.algebra.proofs.Sound.{raise}
use Rattle.curve.specs.Curve.{Curve, Coordinate}
use Rattle.curve.specs.Curve as curve
use Rattle.curve.specs.Pole.{x_power, y_power}
use Rattle.curve.specs.Sequence.{coefficient, pick}
use Rattle.curve.specs.Monomial as monomials
use Rattle.curve.specs.Monomial.{power, mono}
use Rattle.curve.proofs.Term.{coefficient-zero}
use Rattle.divisor.proofs.Terms.{Terms, terms, find, places, absent, distinct, find_absent, coefficient_terms}
use Rattle.expressions.proofs.Letters.{◌⊝◌, x, y, F, origin}
use Rattle.expressions.proofs.Value.{at, number_at, at_same, origin_at, F-zero}

-- the coefficient of the i-th power of the first letter, in the letters after it
abbrev take : ℕ → H → H
take i z = z
take zero (con p n) = con p n
take (suc i) (con p n) = z
take zero (cons h t) = h
take (suc i) (cons h t) = take i t

-- a normal form in the letters from v on as an expression
abbrev back : ℕ → H → E
back v z = nil
back v (con p n) = num p ⊝ num n
back v (cons h t) = back (suc v) h ⊞ var v ⊠ back v t

abbrev pub cut : ℕ → E → E
cut m e = back 2 (take (y_power m) (take (x_power m) (norm e)))

abbrev pub monomial : ℕ → E
monomial m = x ^^ x_power m ⊠ y ^^ y_power m

abbrev pub pieces : List ℕ → E → E
pieces [] e = nil
pieces (p ∷ ps) e = origin (cut p e) ⊠ monomial p ⊞ pieces ps e

abbrev pub whole : List ℕ → E → Bool
whole ps e = both (distinct ps) (same e (pieces ps e))

abbrev pub present : ℕ → List ℕ → Bool
present m ps = not (absent m ps)

module _ {k : CommRing} (C : Curve k) (us : List k.Car) where
  open Coordinate C use {Car as El, zero as 𝟎, add as ◌⊕◌, mul as ◌⊗◌}

  infixl 60 ◌⊕◌
  infixl 70 ◌⊗◌
  pub less-F : (e q : E) → at C us (e ⊞ q ⊠ F) ≡ at C us e
  less-F e q = ap (λ f. at C us e ⊕ at C us q ⊗ f) (F-zero C us) ∙ ap (λ f. at C us e ⊕ f) (laws.mul-zero (Coordinate C) (at C us q)) ∙ (Coordinate C).add_zero _

  raise_power : (a : El) (m : ℕ) → raise (Coordinate C) a m ≡ power (Coordinate C) a m
  unfolding power
  raise_power a zero = refl
  raise_power a (suc m) = ap (λ b. a ⊗ b) (raise_power a m)

  pub monomial-at : (m : ℕ) → at C us (monomial m) ≡ mono C m
  unfolding monomials.monomial mono
  monomial-at m = ap₂ ◌⊗◌ (raise_power (curve.x C) (x_power m)) (raise_power (curve.y C) (y_power m))

  -- the terms of pieces ps e
  abbrev cuts : List ℕ → E → Terms C
  cuts [] e = []
  cuts (p ∷ ps) e = (number_at C us (cut p e), p) ∷ cuts ps e

  cuts_places : (ps : List ℕ) (e : E) → places C (cuts ps e) ≡ ps
  cuts_places [] e = refl
  cuts_places (p ∷ ps) e = ap (λ qs. p ∷ qs) (cuts_places ps e)

  pieces_at : (ps : List ℕ) (e : E) → at C us (pieces ps e) ≡ terms C (cuts ps e)
  pieces_at [] e = refl
  pieces_at (p ∷ ps) e = ap₂ ◌⊕◌ (ap₂ ◌⊗◌ (origin_at C us (cut p e)) (monomial-at p)) (pieces_at ps e)

  find_cuts : (ps : List ℕ) (e : E) (m : ℕ) → T (present m ps) → find C m (cuts ps e) ≡ number_at C us (cut m e)
  find_cuts [] e m t = absurd t
  find_cuts (p ∷ ps) e m t = go (eqb m p) refl t (find_cuts ps e m)
    where
      go : (b : Bool) → eqb m p ≡ b → T (not (both (not b) (absent m ps))) → (T (present m ps) → find C m (cuts ps e) ≡ number_at C us (cut m e))
          → pick b (number_at C us (cut p e)) (find C m (cuts ps e)) ≡ number_at C us (cut m e)
      go true q u f = ap (λ i. number_at C us (cut i e)) (sym (eqb→eq m p (subst T (sym q) tt)))
      go false q u f = f u

  module _ (ps : List ℕ) (e : E) (t : T (whole ps e)) where
    coefficient_cuts : (m : ℕ) → coefficient C m (at C us e) ≡ find C m (cuts ps e)
    coefficient_cuts m =
        ap (coefficient C m) (at_same C us e (pieces ps e) (both_right (distinct ps) (same e (pieces ps e)) t) ∙ pieces_at ps e)
        ∙ coefficient_terms C (cuts ps e) (subst (λ (qs : List ℕ). T (distinct qs)) (sym (cuts_places ps e)) (both_left (distinct ps) (same e (pieces ps e)) t)) m

    pub coefficient-at : (m : ℕ) → T (present m ps) → coefficient C m (at C us e) ≡ number_at C us (cut m e)
    coefficient-at m u = coefficient_cuts m ∙ find_cuts ps e m u

    pub coefficient-none : (m : ℕ) → T (absent m ps) → coefficient C m (at C us e) ≡ k.zero
    coefficient-none m u = coefficient_cuts m ∙ find_absent C m (cuts ps e) (subst (λ (qs : List ℕ). T (absent m qs)) (sym (cuts_places ps e)) u)

    pub cut_zero : at C us e ≡ 𝟎 → (m : ℕ) → T (present m ps) → number_at C us (cut m e) ≡ k.zero
    cut_zero o m u = sym (coefficient-at m u) ∙ ap (coefficient C m) o ∙ coefficient-zero C m
