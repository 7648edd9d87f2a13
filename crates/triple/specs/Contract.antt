-- What the functions on triples require and ensure. Where a contract speaks of the ring it does so for every setting.
--   InsertAsked, Inserted        insert: the span afterwards is the span of the triple and v
--   TurnAsked, Turned            turn: one turn of insert
--   AllAsked, AllInserted        insert_all: the span afterwards is the span of the triple and the three vectors
--   Whole                        is_whole: the degrees are (0, 4, 8)
use Rattle.std.specs.Prelude.{◌≡◌, List, ◌∷◌, ◌++◌, ℕ, suc, ◌+◌, ◌%◌, ◌<◌, ◌≤◌}
use Rattle.prime.specs.Prime.{Prime}
use Rattle.ideal.specs.Ideal.{SameIdeal}
use Rattle.ideal.proofs.Span.{Span}
use Rattle.vector.specs.Vector.{Vec, Top, at, width, element}
use Rattle.terms.specs.Contract.{Rows}
use Rattle.triple.specs.Setting.{Setting, ring, poles_of}
use Rattle.triple.specs.Triple.{Triple, elements, Spanned}

pub record InsertAsked (p : ℕ) (t : List (List ℕ)) (d v : List ℕ) (top : ℕ) : Type 0 where
  pub prime : Prime p
  pub triple : Triple p t d
  pub vec : Vec p v
  pub v_top : Top v top
  pub room : top ≤ width

pub record Inserted (p : ℕ) (t : List (List ℕ)) (d v : List ℕ) (t' : List (List ℕ)) (d' : List ℕ) : Type 0 where
  pub triple : Triple p t' d'
  pub lower : (j : ℕ) → j < 3 → at d' j ≤ at d j
  -- the class of v's degree is present afterwards
  pub fills : (m : ℕ) → m < width → 0 < at v m → Top v (suc m) → at d' (m % 3) ≤ m
  pub same : (S : Setting p) → SameIdeal (ring S) (Spanned S t') (Span (poles_of S) (element p S.curve v ∷ elements S t))

-- v is below m + 1
pub record TurnAsked (p : ℕ) (t : List (List ℕ)) (d v : List ℕ) (m : ℕ) : Type 0 where
  pub prime : Prime p
  pub triple : Triple p t d
  pub vec : Vec p v
  pub inside : m < width
  pub v_top : Top v (suc m)

-- the sum of the three degrees
abbrev pub degrees : List ℕ → ℕ
degrees d = at d 0 + at d 1 + at d 2

pub record Turned (p : ℕ) (t : List (List ℕ)) (d v : List ℕ) (m : ℕ) (t' : List (List ℕ)) (d' v' : List ℕ) (n : ℕ) : Type 0 where
  pub triple : Triple p t' d'
  pub vec : Vec p v'
  pub v_top : Top v' n
  pub room : n ≤ width
  pub falls : degrees d' + n ≤ degrees d + m
  pub same :
      (S : Setting p) →
      SameIdeal (ring S) (Span (poles_of S) (element p S.curve v' ∷ elements S t')) (Span (poles_of S) (element p S.curve v ∷ elements S t))

pub record AllAsked (p : ℕ) (t : List (List ℕ)) (d : List ℕ) (ys : List (List ℕ)) (top : ℕ) : Type 0 where
  pub prime : Prime p
  pub triple : Triple p t d
  pub rows : Rows p ys top
  pub room : top + 8 ≤ width

pub record AllInserted (p : ℕ) (t : List (List ℕ)) (d : List ℕ) (ys t' : List (List ℕ)) (d' : List ℕ) : Type 0 where
  pub triple : Triple p t' d'
  pub same : (S : Setting p) → SameIdeal (ring S) (Spanned S t') (Span (poles_of S) (elements S ys ++ elements S t))

-- the degrees (0, 4, 8)
pub record Whole (d : List ℕ) : Type 0 where
  pub zeroth : at d 0 ≡ 0
  pub first : at d 1 ≡ 4
  pub second : at d 2 ≡ 8
