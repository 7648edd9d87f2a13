-- The first six equations, from f·v = u·(κ·g + ν·f) for the polynomials f and g of the record: the coefficients at the pole numbers 16 and 15
-- give κ = 1 and ν = ℓ, and those at 14 … 9 the equations. Every formula is an expression of the ring solver, in the letters of crate expressions.
--   u i, v i, κ, ν         more letters: the numbers of u and v, and κ and ν
--   equal s t              f·v − u·(s·g + t·f)
--   multiple s t, difference s t   … and the multiple of F that takes its y³ away: the factor, and the sum of both
--   given ts               the values of the letters from the record's numbers on
--   Identity s t           f·v = u·(s·g + t·f) in the coordinate ring
--   coefficient_of s t m   the coefficient of the difference at the pole number m, which is zero
--   factor-one, factor_slope       κ = 1 and ν = ℓ
--   identity-monic         so the identity holds with 1 and a0·u5
--   F2-holds … G0-holds    the six equations
use mathlib.Core.Path.{◌≡◌, ◌∙◌, ap, ap₂}
use mathlib.Core.List.{List, [], ◌∷◌}
use Prim.Native.Nat.{ℕ, ◌+◌}
use lib.Dec.{T}
use Rattle.algebra.specs.Ring.{CommRing, ops}
use Rattle.algebra.proofs.Laws as laws
use Rattle.algebra.proofs.Norm.{E, var, unit, E-ops}
use Rattle.algebra.proofs.Solve.{◌⊞◌, ◌⊠◌, ⊟◌}
use Rattle.algebra.proofs.Sound.{value}
use Rattle.curve.specs.Curve.{Curve, Coordinate, constant}
use Rattle.curve.proofs.Coefficient.{constant-one, constant-mul}
use Rattle.divisor.specs.Kind.{k31}
use Rattle.type61.proofs.Form.{form_over, cubic, quartic, first, second}
use Rattle.expressions.proofs.Letters.{◌⊝◌, x, y, a0, c, n, F, origin}
use Rattle.expressions.proofs.Value.{numbers, at}
use Rattle.expressions.proofs.Coefficients.{cut, present, cut_zero, less-F}
use Rattle.expressions.proofs.Zeros.{from-zeros}
use Rattle.invertible.proofs.Certificate.{form}
use Rattle.type61_numbers.proofs.Equations.{F2-of, r0-of, G1-of, F2G2-of, F0-of, G0-of, c-of}

abbrev pub u : ℕ → E
u i = var (21 + i)

abbrev pub v : ℕ → E
v i = var (27 + i)

abbrev κ : E
κ = var 33

abbrev ν : E
ν = var 34

abbrev f : E
f = form k31 0

abbrev g : E
g = form k31 1

abbrev equal : E → E → E
equal s t = f ⊠ form_over E-ops x y (x ⊠ x ⊠ y) v ⊝ form_over E-ops x y (x ⊠ x ⊠ x) u ⊠ (s ⊠ g ⊞ t ⊠ f)

abbrev multiple : E → E → E
multiple s t = s ⊠ (u 5 ⊠ x ⊞ n 5 ⊠ u 5) ⊞ t ⊠ (n 2 ⊠ u 5) ⊝ n 2 ⊠ v 5

abbrev difference : E → E → E
difference s t = equal s t ⊞ multiple s t ⊠ F

abbrev places : List ℕ
places = 0 ∷ 3 ∷ 4 ∷ 6 ∷ 7 ∷ 8 ∷ 9 ∷ 10 ∷ 11 ∷ 12 ∷ 13 ∷ 14 ∷ 15 ∷ 16 ∷ []

module _ {k : CommRing} (C : Curve k) (r us vs : ℕ → k.Car) where
  open Coordinate C use {Car as El, zero as 𝟎, one as 𝟏, add as ◌⊕◌, mul as ◌⊗◌}

  infixl 60 ◌⊕◌
  infixl 70 ◌⊗◌
  abbrev given : List k.Car → List k.Car
  given ts = r 0 ∷ r 1 ∷ r 2 ∷ r 3 ∷ r 4 ∷ r 5 ∷ r 6 ∷ r 7 ∷ r 8 ∷ us 0 ∷ us 1 ∷ us 2 ∷ us 3 ∷ us 4 ∷ us 5 ∷ vs 0 ∷ vs 1 ∷ vs 2 ∷ vs 3 ∷ vs 4 ∷ vs 5 ∷ ts

  abbrev Identity : El → El → Type 0
  Identity s t = first C r ⊗ quartic C vs ≡ cubic C us ⊗ (s ⊗ second C r ⊕ t ⊗ first C r)

  difference-zero : (ts : List k.Car) (s t : E) → Identity (at C (given ts) s) (at C (given ts) t) → at C (given ts) (difference s t) ≡ 𝟎
  difference-zero ts s t i = less-F C (given ts) (equal s t) (multiple s t) ∙ laws.eq→sub-zero (Coordinate C) _ _ i

  -- the coefficient at the pole number m
  abbrev coefficient_of : E → E → ℕ → E
  coefficient_of s t m = origin (cut m (difference s t))

  abbrev values : List k.Car → List k.Car
  values ts = k.zero ∷ k.zero ∷ numbers C (given ts)

  module _ (a b : k.Car) (i : Identity (constant C a) (constant C b)) where
    letters_zero : (m : ℕ) → T (present m places) → value k (coefficient_of κ ν m) (values (a ∷ b ∷ [])) ≡ k.zero
    letters_zero = cut_zero C (given (a ∷ b ∷ [])) places (difference κ ν) tt (difference-zero (a ∷ b ∷ []) κ ν i)

    factor-one : a ≡ k.one
    factor-one = from-zeros k (values (a ∷ b ∷ [])) κ unit (coefficient_of κ ν 16 ∷ []) (⊟ unit ∷ []) tt (letters_zero 16 tt, tt)

    factor_slope : b ≡ k.mul C.a0 (us 5)
    factor_slope =
        from-zeros k (values (a ∷ b ∷ [])) ν (a0 ⊠ u 5) (coefficient_of κ ν 15 ∷ coefficient_of κ ν 16 ∷ []) (⊟ unit ∷ ⊟ (a0 ⊠ u 5) ∷ []) tt
        (letters_zero 15 tt, (letters_zero 16 tt, tt))

    pub identity-monic : Identity 𝟏 (constant C C.a0 ⊗ constant C (us 5))
    identity-monic =
        i ∙ ap₂ (λ s t. cubic C us ⊗ (s ⊗ second C r ⊕ t ⊗ first C r)) (ap (constant C) factor-one ∙ constant-one C) (ap (constant C) factor_slope ∙ constant-mul C C.a0 (us 5))

  abbrev monic : ℕ → E
  monic = coefficient_of unit (a0 ⊠ u 5)

  module _ (i : Identity 𝟏 (constant C C.a0 ⊗ constant C (us 5))) where
    monic-zero : (m : ℕ) → T (present m places) → value k (monic m) (values []) ≡ k.zero
    monic-zero = cut_zero C (given []) places (difference unit (a0 ⊠ u 5)) tt (difference-zero [] unit (a0 ⊠ u 5) i)

    pub F2-holds : r 2 ≡ F2-of (ops k) C.a0 (c-of C) us vs
    F2-holds = from-zeros k (values []) (n 2) (F2-of E-ops a0 c u v) (monic 14 ∷ []) (unit ∷ []) tt (monic-zero 14 tt, tt)

    pub r0-holds : k.add (r 1) (k.neg (r 5)) ≡ r0-of (ops k) C.a0 (c-of C) us vs r
    r0-holds = from-zeros k (values []) (n 1 ⊝ n 5) (r0-of E-ops a0 c u v n) (monic 13 ∷ []) (unit ∷ []) tt (monic-zero 13 tt, tt)

    pub G1-holds : r 4 ≡ G1-of (ops k) C.a0 (c-of C) us vs r
    G1-holds = from-zeros k (values []) (n 4) (G1-of E-ops a0 c u v n) (monic 12 ∷ []) (⊟ unit ∷ []) tt (monic-zero 12 tt, tt)

    pub F2G2-holds : k.mul (r 2) (r 5) ≡ F2G2-of (ops k) C.a0 (c-of C) us vs r
    F2G2-holds = from-zeros k (values []) (n 2 ⊠ n 5) (F2G2-of E-ops a0 c u v n) (monic 11 ∷ monic 14 ∷ []) (⊟ unit ∷ n 5 ∷ []) tt (monic-zero 11 tt, (monic-zero 14 tt, tt))

    pub F0-holds : r 0 ≡ F0-of (ops k) C.a0 (c-of C) us vs r
    F0-holds = from-zeros k (values []) (n 0) (F0-of E-ops a0 c u v n) (monic 10 ∷ []) (unit ∷ []) tt (monic-zero 10 tt, tt)

    pub G0-holds : r 3 ≡ G0-of (ops k) C.a0 (c-of C) us vs r
    G0-holds = from-zeros k (values []) (n 3) (G0-of E-ops a0 c u v n) (monic 9 ∷ []) (⊟ unit ∷ []) tt (monic-zero 9 tt, tt)
