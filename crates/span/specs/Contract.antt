-- What the functions on spans of triples require and ensure. Where a contract speaks of the ring it does so for every setting.
--   ReduceAsked, Rest            reduce: v less a member of the span, with no coefficient at a lead
--   Small d                      the degrees are at most 8, as those of a record's triple
--   Open                         y times a member leaves a rest
--   ClosedAsked, ClosedTest      closed: is the span closed under y
--   AtAsked, AtTest              closed_at: is y times the j-th member in the span
use Rattle.std.specs.Prelude.{◌≡◌, Bool, true, false, List, ℕ, ◌%◌, ◌<◌, ◌≤◌}
use Rattle.curve.specs.Curve.{y}
use Rattle.curve.specs.Sequence.{coefficient}
use Rattle.field.specs.Residue.{Z}
use Rattle.vector.specs.Vector.{Vec, Top, at, row, width, element}
use Rattle.triple.specs.Setting.{Setting, ring, Ready}
use Rattle.triple.specs.Triple.{Triple, Full, Spanned}

pub record ReduceAsked (p : ℕ) (t : List (List ℕ)) (d v : List ℕ) (top : ℕ) : Type 0 where
  pub triple : Triple p t d
  pub vec : Vec p v
  pub v_top : Top v top
  pub room : top ≤ width

pub record Rest (p : ℕ) (t : List (List ℕ)) (d v v' : List ℕ) : Type 0 where
  pub vec : Vec p v'
  pub normal : (n : ℕ) → n < width → at d (n % 3) ≤ n → at v' n ≡ 0
  pub coset : (S : Setting p) → (s : (ring S).Car) × Spanned S t s × (element p S.curve v ≡ (ring S).add (element p S.curve v') s)

-- the degrees of a record's triple
abbrev pub Small : List ℕ → Type 0
Small d = (j : ℕ) → j < 3 → at d j ≤ 8

pub record ClosedAsked (p : ℕ) (y3 : List ℕ) (t : List (List ℕ)) (d : List ℕ) : Type 0 where
  pub ready : Ready p y3
  pub full : Full p t d
  pub small : Small d

-- y times the j-th member leaves a rest that is not zero and has no coefficient at a lead of the span
pub record Open (p : ℕ) (y3 : List ℕ) (t : List (List ℕ)) (d : List ℕ) (R : Ready p y3) : Type 0 where
  pub j : ℕ
  pub j_below : j < 3
  pub rest : (ring R.setting).Car
  pub s : (ring R.setting).Car
  pub spanned : Spanned R.setting t s
  pub split : (ring R.setting).mul (y R.setting.curve) (element p R.setting.curve (row t j)) ≡ (ring R.setting).add rest s
  pub nonzero : ¬ (rest ≡ (ring R.setting).zero)
  pub normal : (n : ℕ) → at d (n % 3) ≤ n → coefficient R.setting.curve n rest ≡ (Z p).zero

pub record ClosedTest (p : ℕ) (y3 : List ℕ) (t : List (List ℕ)) (d : List ℕ) (r : Bool) : Type 0 where
  pub yes_closed :
      r ≡ true → (R : Ready p y3) (j : ℕ) → j < 3 →
      Spanned R.setting t ((ring R.setting).mul (y R.setting.curve) (element p R.setting.curve (row t j)))
  pub no_closed : r ≡ false → (R : Ready p y3) → Open p y3 t d R

pub record AtAsked (p : ℕ) (y3 : List ℕ) (t : List (List ℕ)) (d : List ℕ) (j : ℕ) : Type 0 where
  pub closed : ClosedAsked p y3 t d
  pub inside : j < 3

pub record AtTest (p : ℕ) (y3 : List ℕ) (t : List (List ℕ)) (d : List ℕ) (j : ℕ) (r : Bool) : Type 0 where
  pub yes_at : r ≡ true → (R : Ready p y3) → Spanned R.setting t ((ring R.setting).mul (y R.setting.curve) (element p R.setting.curve (row t j)))
  pub no_at : r ≡ false → (R : Ready p y3) → Open p y3 t d R
