-- The inverse of z and z²/y from the inverse of z·y.
--   product_beside         z·y beside y
--   inverted               what the function computes
use mathlib.Core.Path.{◌≡◌, ◌∙◌, ap}
use mathlib.Core.List.{[], ◌∷◌}
use Prim.Native.Nat.{ℕ}
use Rattle.algebra.specs.Ring.{CommRing}
use Rattle.algebra.proofs.Norm.{unit}
use Rattle.algebra.proofs.Solve.{solve, solve_from, given, ◌⊞◌, ◌⊠◌, ⊟◌}
use Rattle.prime.specs.Prime.{Prime}
use Rattle.field.specs.Residue.{Z, el}
use Rattle.field.specs.Contract.{Is}
use Rattle.field.specs.Inverse.{inverse}
use Rattle.prime_field.specs.Field.{F}
use Rattle.barrett.specs.Contract.{cross₂}
use Rattle.formulas.specs.Contract.{InversesOf}
use Rattle.formulas.specs.declared.Factors.{Factors}
use Rattle.formulas.specs.declared.Inverses.{Inverses}

pub product_beside : (R : CommRing) (z a b c : R.Car) → cross₂ R (R.mul z z) a b (R.mul z c) ≡ R.mul z (cross₂ R z a b c)
product_beside R = solve R 4 (λ z a b c. z ⊠ z ⊠ a ⊞ ⊟ (b ⊠ (z ⊠ c))) (λ z a b c. z ⊠ (z ⊠ a ⊞ ⊟ (b ⊠ c))) tt

-- z·(y·w) = 1 and y·(z³·w) = z² for x = z·y and x·w = 1
first_one : (R : CommRing) (z y w x o : R.Car) → x ≡ R.mul z y → R.mul x w ≡ R.one → o ≡ R.mul y w → R.mul z o ≡ R.one
first_one R z y w x o e h i =
    solve_from R 5 (λ z y w x o. given (⊟ w) x (z ⊠ y) ∷ given unit (x ⊠ w) unit ∷ given z o (y ⊠ w) ∷ []) (λ z y w x o. z ⊠ o) (λ z y w x o. unit) tt z y w x o (e, (h, (i, tt)))

second-one : (R : CommRing) (z y w x s t : R.Car) → x ≡ R.mul z y → R.mul x w ≡ R.one → s ≡ R.mul (R.mul z z) z → t ≡ R.mul s w → R.mul y t ≡ R.mul z z
second-one R z y w x s t e h i j =
    solve_from R 6
    (λ z y w x s t. given (⊟ (z ⊠ z ⊠ w)) x (z ⊠ y) ∷ given (z ⊠ z) (x ⊠ w) unit ∷ given (y ⊠ w) s (z ⊠ z ⊠ z) ∷ given y t (s ⊠ w) ∷ [])
    (λ z y w x s t. y ⊠ t) (λ z y w x s t. z ⊠ z) tt z y w x s t (e, (h, (i, (j, tt))))

module _ {p w : ℕ} {f : Factors} {r : Inverses} (prime : Prime p) (hw : Is p w (inverse p (el p f.zy))) (h1 : Is p r.one ((Z p).mul (el p f.y) (el p w)))
    (h2 : Is p r.two ((Z p).mul (el p f.zzz) (el p w))) where
  pub inverted : InversesOf p f r
  inverted =
      record {
        one_below = h1.below;
        two_below = h2.below;
        one_is = λ z e n. first_one (Z p) z _ _ _ _ e (unit_is n) h1.is;
        two_is = λ z e g n. second-one (Z p) z _ _ _ _ _ e (unit_is n) g h2.is;
      }
    where
      unit_is : ¬ (el p f.zy ≡ (Z p).zero) → (Z p).mul (el p f.zy) (el p w) ≡ (Z p).one
      unit_is n = ap ((Z p).mul (el p f.zy)) hw.is ∙ (F p prime).mul_inv (el p f.zy) n
