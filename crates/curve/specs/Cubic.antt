-- The ring A[y] modulo y³ + t2·y² + t1·y + t0, for a commutative ring A: normal forms r0 + r1·y + r2·y², multiplied by
-- y·(r0, r1, r2) = (−t0·r2, r0 − t1·r2, r1 − t2·r2). Example: y·y² is (−t0, −t1, −t2).
--   Cubic A t0 t1 t2      the ring; shut, so that one reasons by its laws and by components
--   triple r0 r1 r2       r0 + r1·y + r2·y²
--   component j g         the coefficient of y^j in the normal form g; 0 for j above 2
--   embed a               a as an element: the normal form a + 0·y + 0·y²
--   y                     the element y
use Prim.Native.Nat.{ℕ, zero, suc}
use Rattle.algebra.specs.Ring.{CommRing, ops}
use Rattle.algebra.specs.Cubic.{Normal, normal_form, plus, product}
use Rattle.algebra.proofs.Cubic.{normal_set, normal_eq, product_comm, product_assoc, product-one, product-add}

module _ (A : CommRing) (t0 t1 t2 : A.Car) where
  open A use {Car, zero as 𝟘, one as 𝟙}

  unfoldable pub Cubic : CommRing
  Cubic =
      record {
        Car = Normal Car;
        is_set = normal_set A.is_set;
        zero = normal_form 𝟘 𝟘 𝟘;
        one = normal_form 𝟙 𝟘 𝟘;
        add = plus (ops A);
        mul = product (ops A) (normal_form t0 t1 t2);
        neg = λ a. normal_form (A.neg a.r0) (A.neg a.r1) (A.neg a.r2);
        add_comm = λ a b. normal_eq (A.add_comm _ _) (A.add_comm _ _) (A.add_comm _ _);
        add_assoc = λ a b c. normal_eq (A.add_assoc _ _ _) (A.add_assoc _ _ _) (A.add_assoc _ _ _);
        add_zero = λ a. normal_eq (A.add_zero _) (A.add_zero _) (A.add_zero _);
        add_neg = λ a. normal_eq (A.add_neg _) (A.add_neg _) (A.add_neg _);
        mul_comm = product_comm A (normal_form t0 t1 t2);
        mul_assoc = product_assoc A (normal_form t0 t1 t2);
        mul_one = product-one A (normal_form t0 t1 t2);
        mul_add = product-add A (normal_form t0 t1 t2);
      }

  unfoldable pub triple : Car → Car → Car → Cubic.Car
  unfolding Cubic
  triple r0 r1 r2 = normal_form r0 r1 r2

  unfoldable pub component : ℕ → Cubic.Car → Car
  unfolding Cubic
  component zero g = g.r0
  component (suc zero) g = g.r1
  component (suc (suc zero)) g = g.r2
  component (suc (suc (suc j))) g = 𝟘

  unfoldable pub embed : Car → Cubic.Car
  embed a = triple a 𝟘 𝟘

  unfoldable pub y : Cubic.Car
  y = triple 𝟘 𝟙 𝟘
