-- Pole numbers: what the theory of ideals uses of the coordinate ring of a C34 curve.
--   IsGap n            n is 1, 2 or 5: no normal monomial has this pole number
--   IsPole n           n is the pole number of a normal monomial: 0, 3, 4, 6, 7, 8, …
--   largest_gap        5
--   Poles R            a filtration of R by pole numbers, with its laws
--   HasPole g n        the lead of g has pole number n; so g is not zero
--   Monic g n          the lead of g has pole number n and coefficient 1
use Rattle.std.specs.Prelude.{◌≡◌, ◌⊎◌, ℕ, suc, ◌+◌, ◌≤◌}
use Rattle.algebra.specs.Ring.{CommRing}

abbrev pub largest_gap : ℕ
largest_gap = 5

abbrev pub IsGap : ℕ → Type 0
IsGap n = (n ≡ 1) ⊎ ((n ≡ 2) ⊎ (n ≡ largest_gap))

abbrev pub IsPole : ℕ → Type 0
IsPole n = ¬ IsGap n

-- Below n g says that every monomial of g has a pole number below n. So Below 0 g says that g is zero and Below 1 g that g is a constant.
-- mono n is the normal monomial of pole number n where there is one.
pub record Poles (R : CommRing) : Type 1 where
  pub Below : ℕ → R.Car → Type 0
  pub mono : ℕ → R.Car
  pub below_zero : (n : ℕ) → Below n R.zero
  pub below_add : {n : ℕ} {g h : R.Car} → Below n g → Below n h → Below n (R.add g h)
  pub below_mono : {m n : ℕ} {g : R.Car} → m ≤ n → Below m g → Below n g
  pub below_none : {g : R.Car} → Below 0 g → g ≡ R.zero
  pub below_some : (g : R.Car) → (n : ℕ) × Below n g
  pub below_dec : (n : ℕ) (g : R.Car) → Dec (Below n g)
  pub below_gap : {n : ℕ} {g : R.Car} → IsGap n → Below (suc n) g → Below n g
  pub below_mul : {m n : ℕ} {g h : R.Car} → Below (suc m) g → Below (suc n) h → Below (suc (m + n)) (R.mul g h)
  -- if the pole number of a product is lower than the sum of the factors', one factor's is lower
  pub below_factor : {m n : ℕ} {g h : R.Car} → Below (suc m) g → Below (suc n) h → Below (m + n) (R.mul g h) → Below m g ⊎ Below n h
  pub mono_zero : mono 0 ≡ R.one
  pub mono_pole : (n : ℕ) → IsPole n → Below (suc n) (mono n) × (¬ Below n (mono n))
  -- a constant times h takes the lead of g away
  pub lower : {n : ℕ} {g h : R.Car} → Below (suc n) g → Below (suc n) h → ¬ Below n h → (a : R.Car) × Below 1 a × Below n (R.add g (R.mul a h))

module _ {R : CommRing} (P : Poles R) where
  pub record HasPole (g : R.Car) (n : ℕ) : Type 0 where
    pub upper : P.Below (suc n) g
    pub exact : ¬ P.Below n g

  -- Document 01: "Monic means that the lead's coefficient is 1": g is the monomial of pole number n and lower terms.
  pub record Monic (g : R.Car) (n : ℕ) : Type 0 where
    pub pole : IsPole n
    pub rest : P.Below n (R.add g (R.neg (P.mono n)))
