-- What the functions on the functional Λ with the values lam require and ensure.
--   Λ p C lam g                  Λ(g)
--   Lambda q lam                 lam is a vector that is 0 below d + 5
--   ValueAsked, Valued           value: Λ(x^(s/3)·v)
--   ValueAtAsked, ValueAt        value_at: Λ(mono n·x^(h/3)·g) from the y-multiples of g
--   OppositeAsked, Opposite, OppositeOf    opposite: −c·v, c the inverse of the lead of a product of monic elements
--   FunctionalAsked, FunctionalOf          functional: lam is the functional of a monic f
use Rattle.std.specs.Prelude.{◌≡◌, List, ◌⊎◌, ℕ, ◌+◌, ◌*◌, ◌-◌, ◌/◌, ◌%◌, ◌<◌, ◌≤◌}
use Rattle.field.specs.Residue.{Z, el}
use Rattle.ideal.specs.Poles.{largest_gap}
use Rattle.curve.specs.Curve.{Curve, Coordinate}
use Rattle.curve.specs.Sequence.{coefficient, twist}
use Rattle.curve.specs.Monomial.{mono}
use Rattle.vector.specs.Vector.{Vec, at, res, element, x_to, width}
use Rattle.terms.specs.Contract.{Rows, RowsOf}
use Rattle.functional.specs.Functional.{apply, Functional}
use Rattle.ground.specs.Ground.{UnitOf}
use Rattle.lambda.specs.declared.Pose.{Pose}

abbrev pub Λ : (p : ℕ) (C : Curve (Z p)) → List ℕ → (Coordinate C).Car → (Z p).Car
Λ p C lam g = apply C width (res p lam) g

-- the products of lam[n] and v[n − s] are 0 from the place `to` on
pub record ValueAsked (p : ℕ) (lam : List ℕ) (c : ℕ) (v : List ℕ) (s to : ℕ) : Type 0 where
  pub lam_vec : Vec p lam
  pub v_vec : Vec p v
  pub low : (n : ℕ) → n < c → at lam n ≡ 0
  pub class : s % 3 ≡ 0
  pub room : to ≤ width
  pub ends : (n : ℕ) → to ≤ n → (at lam n ≡ 0) ⊎ (at v (n - s) ≡ 0)

pub record Valued (p : ℕ) (lam v : List ℕ) (s r : ℕ) : Type 0 where
  pub below : r < p
  pub is : (C : Curve (Z p)) → el p r ≡ Λ p C lam ((Coordinate C).mul (x_to p C (s / 3)) (element p C v))

module _ (q : Pose) where
  open q use {p, unit, d}

  pub record Lambda (lam : List ℕ) : Type 0 where
    pub vec : Vec p lam
    pub low : (n : ℕ) → n < d + largest_gap → at lam n ≡ 0

  pub record ValueAtAsked (lam : List ℕ) (ys : List (List ℕ)) (e n h : ℕ) : Type 0 where
    pub lambda : Lambda lam
    pub high : d ≤ 12
    pub rows : Rows p ys (e + 1)
    pub pole : 4 * (n % 3) ≤ n
    pub class : h % 3 ≡ 0
    pub room : n + h + e + 1 ≤ width

  pub record ValueAt (lam : List ℕ) (ys : List (List ℕ)) (n h r : ℕ) : Type 0 where
    pub below : r < p
    pub is : (C : Curve (Z p)) (g : (Coordinate C).Car) → RowsOf p C ys g
        → el p r ≡ Λ p C lam ((Coordinate C).mul (mono C n) ((Coordinate C).mul (x_to p C (h / 3)) g))

  pub record OppositeAsked (v : ℕ) : Type 0 where
    pub unit_below : unit < p
    pub v_below : v < p

  -- r is −c·v, for an inverse c of t
  abbrev pub Opposite : (Z p).Car → (Z p).Car → ℕ → Type 0
  Opposite t v r = (c : (Z p).Car) × ((Z p).mul c t ≡ (Z p).one) × (el p r ≡ (Z p).neg ((Z p).mul c v))

  -- the classes modulo 3 of the two degrees add up to m
  pub record OppositeOf (m v r : ℕ) : Type 0 where
    pub below : r < p
    pub is : (C : Curve (Z p)) (a b : ℕ) → UnitOf p unit C → a % 3 + b % 3 ≡ m → Opposite (twist C a b) (el p v) r

  -- the y-multiples of an element of degree d; below 3 the only degree is 0
  pub record FunctionalAsked (ys : List (List ℕ)) : Type 0 where
    pub large : 1 < p
    pub unit_below : unit < p
    pub rows : Rows p ys (d + 1)
    pub low : 3 ≤ d
    pub high : d ≤ 12

  pub record FunctionalOf (ys : List (List ℕ)) (lam : List ℕ) : Type 0 where
    pub lambda : Lambda lam
    pub is : (C : Curve (Z p)) (g : (Coordinate C).Car) → UnitOf p unit C → RowsOf p C ys g → coefficient C d g ≡ (Z p).one
        → Functional C width g d (res p lam)
