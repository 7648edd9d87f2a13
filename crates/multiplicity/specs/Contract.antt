-- What the functions on triples inside others require and ensure. Where a contract speaks of the ring it does so for every setting.
--   MemberAsked, MemberTest              member: is v in the span
--   InsideAsked, InsideTest              inside: does one span lie inside the other
--   MultiplicityAsked, MultiplicityFound     multiplicity: the largest k up to 3 with the span inside the k-th power
use Rattle.std.specs.Prelude.{Bool, List, ℕ, suc, ◌<◌, ◌≤◌}
use Rattle.algebra.specs.Answers.{Answers}
use Rattle.ideal.specs.Ideal.{IsIdeal}
use Rattle.powers.specs.Power.{Power, Inside}
use Rattle.vector.specs.Vector.{Vec, Top, width, element}
use Rattle.triple.specs.Setting.{Setting, ring, Ready}
use Rattle.triple.specs.Triple.{Triple, Full, Spanned}
use Rattle.span.specs.Contract.{Small}

pub record MemberAsked (p : ℕ) (v : List ℕ) (top : ℕ) (s : List (List ℕ)) (e : List ℕ) : Type 0 where
  pub triple : Triple p s e
  pub vec : Vec p v
  pub v_top : Top v top
  pub room : top ≤ width

pub record MemberTest (p : ℕ) (v : List ℕ) (s : List (List ℕ)) (r : Bool) : Type 0 where
  pub answer : (S : Setting p) → Answers (Spanned S s (element p S.curve v)) r

pub record InsideAsked (p : ℕ) (t : List (List ℕ)) (d : List ℕ) (s : List (List ℕ)) (e : List ℕ) : Type 0 where
  pub full : Full p t d
  pub triple : Triple p s e

pub record InsideTest (p : ℕ) (t s : List (List ℕ)) (r : Bool) : Type 0 where
  pub answer : (S : Setting p) → Answers (Inside (ring S) (Spanned S t) (Spanned S s)) r

pub record MultiplicityAsked (p : ℕ) (y3 : List ℕ) (t : List (List ℕ)) (d : List ℕ) (u : List (List ℕ)) (e : List ℕ) : Type 0 where
  pub ready : Ready p y3
  pub full_t : Full p t d
  pub small_t : Small d
  pub full_u : Full p u e
  pub small_u : Small e

-- the span of u is to be an ideal, as its powers are products of ideals
pub record MultiplicityFound (p : ℕ) (y3 : List ℕ) (t u : List (List ℕ)) (k : ℕ) : Type 0 where
  pub most : k ≤ 3
  pub held :
      (R : Ready p y3) → IsIdeal (ring R.setting) (Spanned R.setting u) →
      Inside (ring R.setting) (Spanned R.setting t) (Power (ring R.setting) (Spanned R.setting u) k)
  pub above :
      (R : Ready p y3) → IsIdeal (ring R.setting) (Spanned R.setting u) → k < 3 →
      ¬ Inside (ring R.setting) (Spanned R.setting t) (Power (ring R.setting) (Spanned R.setting u) (suc k))
