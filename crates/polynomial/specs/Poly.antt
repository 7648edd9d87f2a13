-- Polynomials in one variable over a commutative ring A: series that vanish from some place on. The place is under a truncation,
-- so two polynomials are equal if their coefficients are. Example: X² + 3 is 3, 0, 1, 0, 0, …
--   Polynomial A       such series; series_path: two of them with the same coefficients are equal
--   Poly A             the ring of polynomials over A; shut, so that one reasons by its laws and by coefficients
--   coef A f i         the coefficient of f at the i-th power of the variable
--   poly A a h         the polynomial with the coefficients a; finite A f: those of f vanish from some place on
--   const A k          the polynomial k
--   X A                the variable
--   poly_path          polynomials with the same coefficients are equal
use Rattle.std.specs.Prelude.{◌≡◌, refl, ℕ}
use Rattle.std.proofs.Math.Path.{fun_ext}
use Rattle.std.proofs.Math.Logic.{∥∥₁_prop}
use mathlib.Core.HLevel.{Σ_prop_path, Σ_set, prop→set, →_set}
use Rattle.algebra.specs.Ring.{CommRing}
use Rattle.series.specs.Series.{Finite, Series, product, constant, shift}
use Rattle.series.proofs.Product.{product_comm, product_assoc, product-one, product-add}
use Rattle.series.proofs.Bounds.{finite-add, finite-neg, finite-product, finite-constant, finite-shift}

module _ (A : CommRing) where
  abbrev pub Polynomial : Type 0
  Polynomial = (a : Series A) × Finite A a

  abbrev pub series_path : {f g : Polynomial} → ((i : ℕ) → f.0 i ≡ g.0 i) → f ≡ g
  series_path e = Σ_prop_path (λ a. ∥∥₁_prop) (fun_ext e)

  unfoldable pub Poly : CommRing
  Poly =
      record {
        Car = Polynomial;
        is_set = Σ_set (→_set A.is_set) (λ a. prop→set ∥∥₁_prop);
        zero = (λ i. A.zero, ∣ (0, λ i h. refl) ∣₁);
        one = (constant A A.one, finite-constant A A.one);
        add = λ f g. (λ i. A.add (f.0 i) (g.0 i), finite-add A f.0 g.0 f.1 g.1);
        mul = λ f g. (product A f.0 g.0, finite-product A f.0 g.0 f.1 g.1);
        neg = λ f. (λ i. A.neg (f.0 i), finite-neg A f.0 f.1);
        add_comm = λ f g. series_path (λ i. A.add_comm _ _);
        add_assoc = λ f g h. series_path (λ i. A.add_assoc _ _ _);
        add_zero = λ f. series_path (λ i. A.add_zero _);
        add_neg = λ f. series_path (λ i. A.add_neg _);
        mul_comm = λ f g. series_path (product_comm A _ _);
        mul_assoc = λ f g h. series_path (product_assoc A _ _ _);
        mul_one = λ f. series_path (product-one A _);
        mul_add = λ f g h. series_path (product-add A _ _ _);
      }

  unfoldable pub coef : Poly.Car → ℕ → A.Car
  unfolding Poly
  coef f = f.0

  unfoldable pub poly : (a : Series A) → Finite A a → Poly.Car
  unfolding Poly
  poly a h = (a, h)

  pub poly_path : {f g : Poly.Car} → ((i : ℕ) → coef f i ≡ coef g i) → f ≡ g
  unfolding Poly coef
  poly_path e = series_path e

  pub finite : (f : Poly.Car) → Finite A (coef f)
  unfolding Poly coef
  finite f = f.1

  unfoldable pub const : A.Car → Poly.Car
  const k = poly (constant A k) (finite-constant A k)

  unfoldable pub X : Poly.Car
  X = poly (shift A (constant A A.one)) (finite-shift A (constant A A.one) (finite-constant A A.one))
