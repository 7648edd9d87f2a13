-- Ideals of type 61: the leads are the numbers from 9 on.
--   Type61 J u v           J is one, and u and v are elements of it with the pole numbers 9 and 10
use Prim.Native.Nat.{ℕ, ◌≤◌}
use Rattle.algebra.specs.Ring.{CommRing}
use Rattle.ideal.specs.Poles.{Poles, HasPole, Monic}
use Rattle.ideal.proofs.Leads.{Lead}
use Rattle.ideal.proofs.Finite.{BasedIdeal}

module _ {R : CommRing} (P : Poles R) where
  pub record Type61 (J : R.Car → Type 0) (u v : R.Car) : Type 0 where
    pub based : BasedIdeal P J
    pub u_in : J u
    pub u_monic : Monic P u 9
    pub v_in : J v
    pub v_pole : HasPole P v 10
    pub lead_11 : Lead P J 11
    pub lowest : (h : R.Car) (n : ℕ) → J h → HasPole P h n → 9 ≤ n
