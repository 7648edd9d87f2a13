-- The vectors of v, y·v and y²·v.
--   y-rows             two multiplications by y give them
use mathlib.Core.Path.{◌≡◌, refl, ◌∙◌, ap}
use mathlib.Core.List.{List, [], ◌∷◌}
use Prim.Native.Nat.{ℕ, zero, suc, ◌+◌, ◌*◌, ◌<◌}
use native.Mathlib.Omega.{arith}
use Rattle.algebra.specs.Ring.{CommRing}
use Rattle.algebra.proofs.Solve.{solve, ◌⊠◌}
use Rattle.algebra.proofs.Norm.{unit}
use Rattle.field.specs.Residue.{Z}
use Rattle.curve.specs.Curve.{Curve, Coordinate, y}
use Rattle.curve.specs.Monomial.{power}
use Rattle.vector.specs.Vector.{Vec, Top, row, element, y_to}
use Rattle.multiplication.specs.Contract.{Cube, TimesY, YMultiplesAsked, YMultiples}

once : (R : CommRing) (y g : R.Car) → R.mul y g ≡ R.mul (R.mul y R.one) g
once R = solve R 2 (λ y g. y ⊠ g) (λ y g. y ⊠ unit ⊠ g) tt

twice : (R : CommRing) (y g : R.Car) → R.mul y (R.mul y g) ≡ R.mul (R.mul y (R.mul y R.one)) g
twice R = solve R 2 (λ y g. y ⊠ (y ⊠ g)) (λ y g. y ⊠ (y ⊠ unit) ⊠ g) tt

none : (R : CommRing) (g : R.Car) → g ≡ R.mul R.one g
none R = solve R 1 (λ g. g) (λ g. unit ⊠ g) tt

module _ {p top : ℕ} {y3 v a b : List ℕ} (h : YMultiplesAsked p y3 v top) (s : TimesY p y3 v top a) (t : TimesY p y3 a (top + 4) b) where
  vecs : (j : ℕ) → j < 3 → Vec p (row (v ∷ a ∷ b ∷ []) j)
  vecs zero l = h.v_vec
  vecs (suc zero) l = s.vec
  vecs (suc (suc zero)) l = t.vec
  vecs (suc (suc (suc j))) l = absurd (omega arith)

  tops : (j : ℕ) → j < 3 → Top (row (v ∷ a ∷ b ∷ []) j) (top + 4 * j)
  tops zero l = λ n k. h.v_top n (omega arith)
  tops (suc zero) l = λ n k. s.top_out n (omega arith)
  tops (suc (suc zero)) l = λ n k. t.top_out n (omega arith)
  tops (suc (suc (suc j))) l = absurd (omega arith)

  values : (C : Curve (Z p)) → Cube p C y3 → (j : ℕ) → j < 3 → element p C (row (v ∷ a ∷ b ∷ []) j) ≡ (Coordinate C).mul (y_to p C j) (element p C v)
  unfolding power
  values C o zero l = none (Coordinate C) (element p C v)
  values C o (suc zero) l = s.value C o ∙ once (Coordinate C) (y C) (element p C v)
  values C o (suc (suc zero)) l =
      t.value C o
      ∙ ap ((Coordinate C).mul (y C)) (s.value C o)
      ∙ twice (Coordinate C) (y C) (element p C v)
  values C o (suc (suc (suc j))) l = absurd (omega arith)

  pub y-rows : YMultiples p y3 v top (v ∷ a ∷ b ∷ [])
  y-rows = record { rows = record { len = refl; vec = vecs; tops = tops }; value = λ C o. record { is = values C o } }
