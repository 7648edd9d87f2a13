-- Triples: three vectors, the j-th monic of a degree that is j modulo 3, or absent (all zero, with the degree 26).
-- Example: the record 11 with numbers f0, g0 is the triple x + f0, y + g0, y·(y + g0) with the degrees 3, 4, 8.
--   Present v j d      v is monic of degree d, and d is j modulo 3
--   Absent v d         there is no member: v is zero and d is 26
--   Member p v j d     one of the two
--   Triple p t d       three members t with the degrees d
--   Full p t d         … of which none is absent
--   elements S t       the elements of the ring that the vectors t stand for
--   Spanned S t        their span over k[x]
--   listed f n bs      the list f (n − 1), …, f 0, bs
use Rattle.std.specs.Prelude.{◌≡◌, ◌⊎◌, List, ◌∷◌, map, ℕ, zero, suc, ◌%◌, ◌<◌, length}
use Rattle.ideal.proofs.Span.{Span}
use Rattle.vector.specs.Vector.{Vec, Top, at, row, width, element}
use Rattle.triple.specs.Setting.{Setting, ring, poles_of}

pub record Present (v : List ℕ) (j d : ℕ) : Type 0 where
  pub inside : d < width
  pub class : d % 3 ≡ j
  pub monic : at v d ≡ 1
  pub top : Top v (suc d)

pub record Absent (v : List ℕ) (d : ℕ) : Type 0 where
  pub none : d ≡ width
  pub nought : Top v 0

pub record Member (p : ℕ) (v : List ℕ) (j d : ℕ) : Type 0 where
  pub vec : Vec p v
  pub shape : Present v j d ⊎ Absent v d

pub record Triple (p : ℕ) (t : List (List ℕ)) (d : List ℕ) : Type 0 where
  pub len_t : length t ≡ 3
  pub len_d : length d ≡ 3
  pub member : (j : ℕ) → j < 3 → Member p (row t j) j (at d j)

pub record Full (p : ℕ) (t : List (List ℕ)) (d : List ℕ) : Type 0 where
  pub triple : Triple p t d
  pub present : (j : ℕ) → j < 3 → Present (row t j) j (at d j)

abbrev pub elements : {p : ℕ} (S : Setting p) → List (List ℕ) → List (ring S).Car
elements {p} S t = map (element p S.curve) t

abbrev pub Spanned : {p : ℕ} (S : Setting p) → List (List ℕ) → (ring S).Car → Type 0
Spanned S t = Span (poles_of S) (elements S t)

abbrev pub listed : {A : Type 0} → (ℕ → A) → ℕ → List A → List A
listed f zero bs = bs
listed f (suc n) bs = f n ∷ listed f n bs
