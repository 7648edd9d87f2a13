-- Document 01, "What a sum is", over a ring with pole numbers.
--   Least J f          f is the monic nonzero element of J with the lowest pole number
--   IsStar J K         K is J*: every g for which g·h is a multiple of f for each h in J, f the least element of J
--   IsReduced J A      A is the reduced ideal of J, (J*)*
use Rattle.std.specs.Prelude.{ℕ, ◌≤◌}
use Rattle.algebra.specs.Ring.{CommRing}
use Rattle.ideal.specs.Ideal.{Colon, SameIdeal}
use Rattle.ideal.specs.Poles.{Poles, HasPole, Monic}

module _ {R : CommRing} (P : Poles R) where
  -- "f is the monic nonzero element of J with the lowest pole number."
  pub record Least (J : R.Car → Type 0) (f : R.Car) : Type 0 where
    pub pole : ℕ
    pub member : J f
    pub monic : Monic P f pole
    pub lowest : (h : R.Car) (n : ℕ) → J h → HasPole P h n → pole ≤ n

  -- "J* is every g for which g·h is a multiple of f for each h in J."
  pub record IsStar (J K : R.Car → Type 0) : Type 0 where
    pub f : R.Car
    pub least : Least J f
    pub same : SameIdeal R K (Colon R f J)

  -- "The reduced ideal of J is (J*)*": f is the least element of J, f' that of J* = (f : J), and A is (f' : (f : J)).
  pub record IsReduced (J A : R.Car → Type 0) : Type 0 where
    pub f : R.Car
    pub least : Least J f
    pub f' : R.Car
    pub least' : Least (Colon R f J) f'
    pub same : SameIdeal R A (Colon R f' (Colon R f J))
