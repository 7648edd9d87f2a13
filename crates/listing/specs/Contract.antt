-- What the functions that list the points of a divisor require and ensure. c is the bytes of an accepted curve with the ground g, w the
-- record of the divisor r on it.
--   Divided g r            r is a divisor on some accepted curve with the ground g
--   OnDivisor g r X        X holds of the bytes of every such curve and of the divisor's record on it
--   Counted c w q k        k is the multiplicity of the point q; or q is no point, and k is 0
--   StandsAsked, Stands    stands: k is found so
--   PutAsked, Put          put: a pair put k times behind n pairs
--   Before (a, b) q        q comes before (a, b) in a scan of x, and of y at each x
--   Seen c w ps q          ps are the points that come before q, each as often as its multiplicity, in rising order
--   Held out ps n out'     the n pairs ps are put into the slice out, the rest of it is as it was
--   Reached g r first q n out     the n points before q are in the slice
--   AtAsked, ListedAt      list_at: the points with x = a
--   ListAsked, Listed      list_points: all points
use Rattle.std.specs.Prelude.{◌≡◌, ◌⊎◌, List, ◌++◌, ℕ, suc, ◌+◌, ◌*◌, ◌<◌, ◌≤◌, length, take, drop, replicate}
use Rattle.ground.specs.declared.Ground.{Ground}
use Rattle.basis.specs.declared.Divisor.{Divisor}
use Rattle.basis.specs.Contract.{TripleOf}
use Rattle.reader.specs.Reading.{On, GivenOn}
use Rattle.point.specs.Point.{Pair, Point, AllPoints, IsMultiplicity, IsPoints, Rising, times}
use Rattle.point.specs.PointCall.{coordinates, points_room}

abbrev pub Divided : Ground → Divisor → Type 0
Divided g r = (c w : List ℕ) × On c g × GivenOn c w r

abbrev pub OnDivisor : Ground → Divisor → ((c w : List ℕ) → Type 0) → Type 0
OnDivisor g r X = (c w : List ℕ) → On c g → GivenOn c w r → X c w

pub record StandsAsked (g : Ground) (r : Divisor) (t : List (List ℕ)) (d : List ℕ) : Type 0 where
  pub divided : Divided g r
  pub triple : TripleOf r t d

abbrev pub Counted : (c w : List ℕ) → Pair → ℕ → Type 0
Counted c w q k = (Point c q × IsMultiplicity c w q k) ⊎ ((¬ Point c q) × (k ≡ 0))

pub record Stands (g : Ground) (r : Divisor) (a b k : ℕ) : Type 0 where
  pub found : OnDivisor g r (λ c w. Counted c w (a, b) k)

pub record PutAsked (out : List ℕ) (n k : ℕ) : Type 0 where
  pub room : 2 * (n + k) ≤ length out

pub record Put (out : List ℕ) (n a b k : ℕ) (out' : List ℕ) : Type 0 where
  pub is : out' ≡ take (2 * n) out ++ coordinates (replicate k (a, b)) ++ drop (2 * (n + k)) out

abbrev pub Before : Pair → Pair → Type 0
Before (a, b) (a', b') = (a' < a) ⊎ ((a' ≡ a) × (b' < b))

pub record Seen (c w : List ℕ) (ps : List Pair) (q : Pair) : Type 0 where
  pub points : AllPoints c ps
  pub often : (r : Pair) → Point c r → Before q r → IsMultiplicity c w r (times r ps)
  pub later : (r : Pair) → (¬ Before q r) → times r ps ≡ 0
  pub rising : Rising ps

pub record Held (out : List ℕ) (ps : List Pair) (n : ℕ) (out' : List ℕ) : Type 0 where
  pub many : n ≡ length ps
  pub is : out' ≡ coordinates ps ++ drop (2 * n) out

-- the points before q are in the slice, which first was `first`
pub record Reached (g : Ground) (r : Divisor) (first : List ℕ) (q : Pair) (n : ℕ) (out : List ℕ) : Type 0 where
  pub pairs : List Pair
  pub held : Held first pairs n out
  pub seen : OnDivisor g r (λ c w. Seen c w pairs q)

pub record AtAsked (g : Ground) (r : Divisor) (t : List (List ℕ)) (d : List ℕ) (a n : ℕ) (out : List ℕ) : Type 0 where
  pub stands : StandsAsked g r t d
  pub below : a < g.p
  pub first : List ℕ
  pub room : points_room ≤ length first
  pub reached : Reached g r first (a, 0) n out

pub record ListedAt (g : Ground) (r : Divisor) (a n : ℕ) (out : List ℕ) (m : ℕ) (out' : List ℕ) : Type 0 where
  pub reached : (first : List ℕ) → Reached g r first (a, 0) n out → Reached g r first (suc a, 0) m out'

pub record ListAsked (g : Ground) (r : Divisor) (out : List ℕ) : Type 0 where
  pub divided : Divided g r
  pub room : points_room ≤ length out

pub record Listed (g : Ground) (r : Divisor) (out : List ℕ) (n : ℕ) (out' : List ℕ) : Type 0 where
  pub pairs : List Pair
  pub held : Held out pairs n out'
  pub points : OnDivisor g r (λ c w. IsPoints c w pairs)
