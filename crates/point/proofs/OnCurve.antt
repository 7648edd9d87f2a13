-- The record of kind 11 with the polynomials x − a and y − b is a basis exactly if the pair (a, b) is on the curve, over every commutative ring k.
-- Formulas are expressions of the ring solver in the letters x, y and some constants. The value of a formula in the coordinate ring differs from its
-- value at (a, b) by an element of the record's ideal; in a basis such a constant is zero.
--   value-map              a ring map takes the value of an expression to its value at the images
--   Near R I g h           g − h is in the ideal I of R
--   near-value             values of an expression at elements that are near are near
--   at-point               the value at x = a and y = b of polynomials in x and y, a ring map
--   value-scalar, value-x, value-y     its values at constants, at x and at y
--   value-F                F's value at (a, b), written out
--   normal-scalar, normal-x, normal-y  the normal forms of constants, of x and of y
--   constant-zero-back     a constant that is zero in the coordinate ring is zero
--   value-zero             a formula whose value lies in the ideal of a basis is zero at (a, b)
--   basis_value            a basis has its point on the curve
--   value-basis            a point on the curve has a basis
use mathlib.Core.Path.{◌≡◌, refl, sym, ◌∙◌, ap, ap₂, subst}
use mathlib.Core.List.{List, [], ◌∷◌, map}
use Prim.Native.Nat.{ℕ, zero, suc}
use Rattle.algebra.specs.Ring.{CommRing, ops}
use Rattle.algebra.specs.RingMap.{RingMap}
use Rattle.algebra.proofs.Laws as laws
use Rattle.algebra.proofs.Norm.{E, var, num, nil, unit, sum, prod, opp, pow}
use Rattle.algebra.proofs.Sound.{number, nth, raise, value, same-value}
use Rattle.algebra.proofs.Solve.{◌⊞◌, ◌⊠◌, ⊟◌, solve, given, solve_from}
use Rattle.ideal.specs.Ideal.{IsIdeal}
use Rattle.ideal.proofs.Generated.{generated_ideal, generated_each}
use Rattle.polynomial.specs.Plane as P
use Rattle.polynomial.specs.Plane.{Plane, scalar}
use Rattle.polynomial.proofs.Eval.{map-neg, eval-zero, eval-one, eval_add, eval_mul, eval-const, eval-X}
use Rattle.curve.specs.Curve.{Curve, Coordinate, x, y, constant, at}
use Rattle.curve.proofs.Coefficient.{at_zero, at-constant-mul, at-one_0, constant-zero, constant-one, constant-add, constant-neg, constant-mul}
use Rattle.curve.proofs.Equation.{F-at}
use Rattle.nonsingular.specs.Equation.{F}
use Rattle.nonsingular.specs.Normal.{over_x, normal}
use Rattle.nonsingular.proofs.Quotient.{normal_onto, normal_kernel}
use Rattle.divisor.specs.Kind.{k11, polynomials, IdealOf, IsBasis}
use Rattle.invertible.proofs.Formula as formula
use Rattle.invertible.proofs.Formula.{a0, c}
use Rattle.invertible.proofs.Value.{numbers, F-zero}
use Rattle.point.specs.Value.{identity, at_x, value_at}

module _ {A B : CommRing} (φ : RingMap A B) where
  nth_map : (i : ℕ) (ρ : List A.Car) → φ.map (nth A i ρ) ≡ nth B i (map φ.map ρ)
  nth_map zero [] = φ.map_zero
  nth_map zero (u ∷ ρ) = refl
  nth_map (suc i) [] = nth_map i []
  nth_map (suc i) (u ∷ ρ) = nth_map i ρ

  number-map : (m : ℕ) → φ.map (number A m) ≡ number B m
  number-map zero = φ.map_zero
  number-map (suc m) = φ.map_add _ _ ∙ ap₂ B.add φ.map_one (number-map m)

  raise_map : (u : A.Car) (v : B.Car) → φ.map u ≡ v → (m : ℕ) → φ.map (raise A u m) ≡ raise B v m
  raise_map u v e zero = φ.map_one
  raise_map u v e (suc m) = φ.map_mul _ _ ∙ ap₂ B.mul e (raise_map u v e m)

  pub value-map : (e : E) (ρ : List A.Car) → φ.map (value A e ρ) ≡ value B e (map φ.map ρ)
  value-map (var i) ρ = nth_map i ρ
  value-map (num m) ρ = number-map m
  value-map nil ρ = φ.map_zero
  value-map unit ρ = φ.map_one
  value-map (sum a b) ρ = φ.map_add _ _ ∙ ap₂ B.add (value-map a ρ) (value-map b ρ)
  value-map (prod a b) ρ = φ.map_mul _ _ ∙ ap₂ B.mul (value-map a ρ) (value-map b ρ)
  value-map (opp a) ρ = map-neg φ _ ∙ ap B.neg (value-map a ρ)
  value-map (pow a m) ρ = raise_map _ _ (value-map a ρ) m

abbrev pub Near : (R : CommRing) (I : R.Car → Type 0) → R.Car → R.Car → Type 0
Near R I g h = I (R.add g (R.neg h))

module _ (R : CommRing) {I : R.Car → Type 0} (i : IsIdeal R I) where
  open R use {Car, one as 𝟏, add as ◌⊕◌, mul as ◌⊗◌, neg as ⊖◌}

  infixl 60 ◌⊕◌
  infixl 70 ◌⊗◌
  infix 80 ⊖◌
  infix 40 ◌≈◌
  abbrev ◌≈◌ : Car → Car → Type 0
  g ≈ h = Near R I g h

  near_same : (g : Car) → g ≈ g
  near_same g = subst I (sym (R.add_neg g)) i.nil

  near-sum : (g h g' h' : Car) → g ≈ h → g' ≈ h' → g ⊕ g' ≈ h ⊕ h'
  near-sum g h g' h' m m' = subst I (step g h g' h') (i.sum m m')
    where
      step : (g h g' h' : Car) → (g ⊕ ⊖ h) ⊕ (g' ⊕ ⊖ h') ≡ (g ⊕ g') ⊕ ⊖ (h ⊕ h')
      step = solve R 4 (λ g h g' h'. (g ⊞ ⊟ h) ⊞ (g' ⊞ ⊟ h')) (λ g h g' h'. (g ⊞ g') ⊞ ⊟ (h ⊞ h')) tt

  near-product : (g h g' h' : Car) → g ≈ h → g' ≈ h' → g ⊗ g' ≈ h ⊗ h'
  near-product g h g' h' m m' = subst I (step g h g' h') (i.sum (i.times g m') (i.times h' m))
    where
      step : (g h g' h' : Car) → g ⊗ (g' ⊕ ⊖ h') ⊕ h' ⊗ (g ⊕ ⊖ h) ≡ g ⊗ g' ⊕ ⊖ (h ⊗ h')
      step = solve R 4 (λ g h g' h'. g ⊠ (g' ⊞ ⊟ h') ⊞ h' ⊠ (g ⊞ ⊟ h)) (λ g h g' h'. g ⊠ g' ⊞ ⊟ (h ⊠ h')) tt

  near-negative : (g h : Car) → g ≈ h → ⊖ g ≈ ⊖ h
  near-negative g h m = subst I (step g h) (i.times (⊖ 𝟏) m)
    where
      step : (g h : Car) → ⊖ 𝟏 ⊗ (g ⊕ ⊖ h) ≡ ⊖ g ⊕ ⊖ (⊖ h)
      step = solve R 2 (λ g h. ⊟ unit ⊠ (g ⊞ ⊟ h)) (λ g h. ⊟ g ⊞ ⊟ (⊟ h)) tt

  near_raise : (g h : Car) → g ≈ h → (m : ℕ) → raise R g m ≈ raise R h m
  near_raise g h d zero = near_same 𝟏
  near_raise g h d (suc m) = near-product _ _ _ _ d (near_raise g h d m)

  pub near-value : (ρ σ : List Car) → ((j : ℕ) → nth R j ρ ≈ nth R j σ) → (e : E) → value R e ρ ≈ value R e σ
  near-value ρ σ d (var j) = d j
  near-value ρ σ d (num m) = near_same _
  near-value ρ σ d nil = near_same _
  near-value ρ σ d unit = near_same _
  near-value ρ σ d (sum a b) = near-sum _ _ _ _ (near-value ρ σ d a) (near-value ρ σ d b)
  near-value ρ σ d (prod a b) = near-product _ _ _ _ (near-value ρ σ d a) (near-value ρ σ d b)
  near-value ρ σ d (opp a) = near-negative _ _ (near-value ρ σ d a)
  near-value ρ σ d (pow a m) = near_raise _ _ (near-value ρ σ d a) m

  near_in : (g h : Car) → g ≈ h → I g → I h
  near_in g h d m = subst I (step g h) (i.sum m (i.times (⊖ 𝟏) d))
    where
      step : (g h : Car) → g ⊕ ⊖ 𝟏 ⊗ (g ⊕ ⊖ h) ≡ h
      step = solve R 2 (λ g h. g ⊞ ⊟ unit ⊠ (g ⊞ ⊟ h)) (λ g h. h) tt

module _ (k : CommRing) (a b : k.Car) where
  abbrev pub at-point : RingMap (Plane k) k
  at-point =
      record {
        map = value_at k a b;
        map_zero = eval-zero (at_x k a) b;
        map_one = eval-one (at_x k a) b;
        map_add = eval_add (at_x k a) b;
        map_mul = eval_mul (at_x k a) b;
      }

  pub value-scalar : (u : k.Car) → value_at k a b (scalar k u) ≡ u
  value-scalar u = eval-const (at_x k a) b _ ∙ eval-const (identity k) a u

  pub value-x : value_at k a b (P.x k) ≡ a
  value-x = eval-const (at_x k a) b _ ∙ eval-X (identity k) a

  pub value-y : value_at k a b (P.y k) ≡ b
  value-y = eval-X (at_x k a) b

  values-scalar : (us : List k.Car) → map (value_at k a b) (map (scalar k) us) ≡ us
  values-scalar [] = refl
  values-scalar (u ∷ us) = ap₂ ◌∷◌ (value-scalar u) (values-scalar us)

  -- the value of a polynomial that is given by an expression in x, y and constants
  value_formula : (e : E) (us : List k.Car) → value_at k a b (value (Plane k) e (P.x k ∷ P.y k ∷ map (scalar k) us)) ≡ value k e (a ∷ b ∷ us)
  value_formula e us = value-map at-point e _ ∙ (λ i. value k e (value-x i ∷ value-y i ∷ values-scalar us i))

-- F as specs/Equation of crate nonsingular writes it
abbrev plain : E
plain =
    let x : E = formula.x in
    let y : E = formula.y in
    y ⊠ y ⊠ y
    ⊞ a0 ⊠ (x ⊠ x ⊠ x ⊠ x)
    ⊞ c 8 ⊠ (x ⊠ y ⊠ y)
    ⊞ c 7 ⊠ (x ⊠ x ⊠ y)
    ⊞ c 6 ⊠ (x ⊠ x ⊠ x)
    ⊞ c 5 ⊠ (y ⊠ y)
    ⊞ c 4 ⊠ (x ⊠ y)
    ⊞ c 3 ⊠ (x ⊠ x)
    ⊞ c 2 ⊠ y
    ⊞ c 1 ⊠ x
    ⊞ c 0

module _ {k : CommRing} (C : Curve k) where
  open Coordinate C use {zero as 𝟎, one as 𝟏}

  abbrev coefficients : List k.Car
  coefficients = C.a0 ∷ C.c0 ∷ C.c1 ∷ C.c2 ∷ C.c3 ∷ C.c4 ∷ C.c5 ∷ C.c6 ∷ C.c7 ∷ C.c8 ∷ []

  F_plain : F C ≡ value (Plane k) plain (P.x k ∷ P.y k ∷ map (scalar k) coefficients)
  unfolding F
  F_plain = refl

  -- b³ + a0·a⁴ + c8·ab² + c7·a²b + c6·a³ + c5·b² + c4·ab + c3·a² + c2·b + c1·a + c0
  pub value-F : (a b : k.Car) → value_at k a b (F C) ≡ F-at (ops k) a b C.a0 C.c0 C.c1 C.c2 C.c3 C.c4 C.c5 C.c6 C.c7 C.c8
  value-F a b =
      ap (value_at k a b) F_plain ∙ value_formula k a b plain coefficients ∙ same-value k plain formula.F tt (a ∷ b ∷ coefficients)

  pub normal-scalar : (u : k.Car) → (normal C).map (scalar k u) ≡ constant C u
  unfolding constant
  normal-scalar u = eval-const (over_x C) (y C) _

  pub normal-x : (normal C).map (P.x k) ≡ x C
  unfolding x
  normal-x = eval-const (over_x C) (y C) _

  pub normal-y : (normal C).map (P.y k) ≡ y C
  normal-y = eval-X (over_x C) (y C)

  abbrev constants : RingMap k (Coordinate C)
  constants =
      record {
        map = constant C;
        map_zero = constant-zero C;
        map_one = constant-one C;
        map_add = constant-add C;
        map_mul = constant-mul C;
      }

  pub constant-zero-back : (u : k.Car) → constant C u ≡ 𝟎 → u ≡ k.zero
  constant-zero-back u e =
      sym (at-constant-mul C u 0 0 𝟏 ∙ ap (k.mul u) (at-one_0 C) ∙ k.mul_one u)
      ∙ ap (at C 0 0) ((Coordinate C).mul_one (constant C u) ∙ e) ∙ at_zero C 0 0

  -- a multiple of F is zero at the points of the curve
  kernel_value : (a b : k.Car) → value_at k a b (F C) ≡ k.zero → (f : (Plane k).Car) → (normal C).map f ≡ 𝟎 → value_at k a b f ≡ k.zero
  kernel_value a b z f e = go ((normal_kernel C f).0 e)
    where
      go : ((q : (Plane k).Car) × (f ≡ (Plane k).mul q (F C))) → value_at k a b f ≡ k.zero
      go (q, d) = ap (value_at k a b) d ∙ (at-point k a b).map_mul q (F C) ∙ ap (k.mul (value_at k a b q)) z ∙ laws.mul-zero k _

module _ {k : CommRing} (C : Curve k) (a b : k.Car) (n : ℕ → k.Car) (n0 : n 0 ≡ k.neg a) (n1 : n 1 ≡ k.neg b) where
  open Coordinate C use {Car as El, zero as 𝟎, one as 𝟏, add as ◌⊕◌, mul as ◌⊗◌, neg as ⊖◌}

  infixl 60 ◌⊕◌
  infixl 70 ◌⊗◌
  infix 80 ⊖◌
  abbrev R : CommRing
  R = Coordinate C

  abbrev I : El → Type 0
  I = IdealOf C k11 n

  ideal : IsIdeal R I
  ideal = generated_ideal R (polynomials C k11 n)

  constant-minus : (u v : k.Car) → u ≡ k.neg v → constant C u ≡ ⊖ constant C v
  constant-minus u v e = ap (constant C) e ∙ constant-neg C v

  near-x : Near R I (x C) (constant C a)
  near-x = subst (λ u. I (x C ⊕ u)) (constant-minus (n 0) a n0) (generated_each R (polynomials C k11 n)).0

  near-y : Near R I (y C) (constant C b)
  near-y = subst (λ u. I (y C ⊕ u)) (constant-minus (n 1) b n1) (generated_each R (polynomials C k11 n)).1.0

  near_letters : (us : List k.Car) (j : ℕ)
      → Near R I (nth R j (x C ∷ y C ∷ map (constant C) us)) (nth R j (map (constant C) (a ∷ b ∷ us)))
  near_letters us zero = near-x
  near_letters us (suc zero) = near-y
  near_letters us (suc (suc j)) = near_same R ideal _

  -- the value of a formula in the coordinate ring, less its value at (a, b), is in the ideal
  near-point : (us : List k.Car) (e : E) → Near R I (value R e (x C ∷ y C ∷ map (constant C) us)) (constant C (value k e (a ∷ b ∷ us)))
  near-point us e =
      subst (Near R I _) (sym (value-map (constants C) e (a ∷ b ∷ us)))
      (near-value R ideal _ _ (near_letters us) e)

  pub value-zero : IsBasis C k11 n → (us : List k.Car) (e : E) → IdealOf C k11 n (value (Coordinate C) e (x C ∷ y C ∷ map (constant C) us))
      → value k e (a ∷ b ∷ us) ≡ k.zero
  value-zero basis us e m = constant-zero-back C v (basis (constant C v) (near_in R ideal _ _ (near-point us e) m) (v, 𝟎, refl, alone (constant C v)))
    where
      v : k.Car
      v = value k e (a ∷ b ∷ us)

      alone : (g : El) → g ≡ g ⊗ 𝟏 ⊕ 𝟎
      alone = solve R 1 (λ g. g) (λ g. g ⊠ unit ⊞ nil) tt

  pub basis_value : IsBasis C k11 n → value_at k a b (F C) ≡ k.zero
  basis_value basis = value-F C a b ∙ value-zero basis (numbers C n) formula.F (subst I (sym (F-zero C n)) ideal.nil)

  -- r·(x + u) + s·(y + v) − w in the letters r, s, x, y, u, v, w
  abbrev combination : E
  combination = var 0 ⊠ (var 2 ⊞ var 4) ⊞ var 1 ⊠ (var 3 ⊞ var 5) ⊞ ⊟ var 6

  module _ (z : value_at k a b (F C) ≡ k.zero) where
    -- a constant that is r·(x − a) + s·(y − b) in the coordinate ring is zero: lift r and s to polynomials, and take values at (a, b)
    lifted : (r s : El) (u : k.Car) → r ⊗ (x C ⊕ constant C (n 0)) ⊕ s ⊗ (y C ⊕ constant C (n 1)) ≡ constant C u → u ≡ k.zero
    lifted r s u e = go (normal_onto C r) (normal_onto C s)
      where
        go : ((f : (Plane k).Car) × ((normal C).map f ≡ r)) → ((g : (Plane k).Car) × ((normal C).map g ≡ s)) → u ≡ k.zero
        go (f, ef) (g, eg) = from (value_at k a b f) (value_at k a b g) a b (n 0) (n 1) u (sym at_pair ∙ kernel_value C a b z h none, (n0, (n1, tt)))
          where
            letters : List (Plane k).Car
            letters = f ∷ g ∷ P.x k ∷ P.y k ∷ scalar k (n 0) ∷ scalar k (n 1) ∷ scalar k u ∷ []

            h : (Plane k).Car
            h = value (Plane k) combination letters

            none : (normal C).map h ≡ 𝟎
            none =
                value-map (normal C) combination letters
                ∙ (λ i. value R combination (ef i ∷ eg i ∷ normal-x C i ∷ normal-y C i ∷ normal-scalar C (n 0) i ∷ normal-scalar C (n 1) i ∷ normal-scalar C u i ∷ []))
                ∙ laws.eq→sub-zero R _ _ e

            at_pair : value_at k a b h ≡ value k combination (value_at k a b f ∷ value_at k a b g ∷ a ∷ b ∷ n 0 ∷ n 1 ∷ u ∷ [])
            at_pair =
                value-map (at-point k a b) combination letters
                ∙ (λ i. value k combination (value_at k a b f ∷ value_at k a b g ∷ value-x k a b i ∷ value-y k a b i ∷ value-scalar k a b (n 0) i ∷ value-scalar k a b (n 1) i ∷ value-scalar k a b u i ∷ []))

            from : (f g a b v w u : k.Car)
                → (value k combination (f ∷ g ∷ a ∷ b ∷ v ∷ w ∷ u ∷ []) ≡ k.zero) × ((v ≡ k.neg a) × ((w ≡ k.neg b) × Unit {0})) → u ≡ k.zero
            from =
                solve_from k 7 (λ f g a b v w u. given (⊟ unit) combination nil ∷ given f v (⊟ a) ∷ given g w (⊟ b) ∷ [])
                (λ f g a b v w u. u) (λ f g a b v w u. nil) tt

    pub value-basis : IsBasis C k11 n
    value-basis h (r, s₁, (s, s₂, none, e₂), e₁) (u, t, rest, e) =
        e ∙ ap₂ (λ v w. v ⊗ 𝟏 ⊕ w) (ap (constant C) (lifted r s u (sym equal)) ∙ constant-zero C) rest ∙ blank
      where
        equal : constant C u ≡ r ⊗ (x C ⊕ constant C (n 0)) ⊕ s ⊗ (y C ⊕ constant C (n 1))
        equal = cc (e, e₁, e₂, none, rest, R.add_zero (constant C u ⊗ 𝟏), R.mul_one (constant C u), R.add_zero (s ⊗ (y C ⊕ constant C (n 1))))

        blank : 𝟎 ⊗ 𝟏 ⊕ 𝟎 ≡ 𝟎
        blank = solve R 0 (nil ⊠ unit ⊞ nil) nil tt
