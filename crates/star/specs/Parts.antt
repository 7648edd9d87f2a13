-- What the parts of star that read J* off the functional Λ require and ensure. q has the modulus p, the inverse of −a0 and the degrees d, d1 and
-- d2 of f, u and w; h stands for d + 5 − d2, and v for x^(h/3)·w.
--   PosedU, PosedW, Posed        what the numbers of J* are read from: Λ and the y-multiples of u, of w, of both
--   LowMonomial n                mono n is one of 1, x, y, x², xy, y²
--   ValuesOf                     values_of: Λ(y·w), Λ(y·v) and Λ(x·v)
--   TermYAsked, TermY            term_y: the number before y of a candidate mono n + a4·y + a3·x + a0
--   TermXAsked, TermX            term_x: … that before x
--   TermOneAsked, TermOne        term_one: … and the constant
--   SolveAsked, Solved           solve: … all three
--   divisor_11 … divisor_31      the divisors of the kinds, their numbers taken from candidates
--   ByKind                       by_kind: the divisor of the kind that the degrees tell, with the numbers of its candidates
use Rattle.std.specs.Prelude.{◌≡◌, List, ℕ, ◌+◌, ◌*◌, ◌-◌, ◌/◌, ◌%◌, ◌<◌, ◌≤◌}
use Rattle.field.specs.Residue.{Z, el}
use Rattle.ideal.specs.Poles.{largest_gap}
use Rattle.curve.specs.Curve.{Curve, Coordinate}
use Rattle.curve.specs.Monomial.{mono}
use Rattle.curve.specs.Sequence.{twist}
use Rattle.vector.specs.Vector.{x_to}
use Rattle.terms.specs.Contract.{Rows, RowsOf}
use Rattle.ground.specs.Ground.{UnitOf}
use Rattle.divisor.specs.Kind.{k11, k21, k22, k31}
use Rattle.basis.specs.Divisor.{of_four}
use Rattle.basis.specs.declared.Divisor.{Divisor}
use Rattle.lambda.specs.declared.Pose.{Pose}
use Rattle.lambda.specs.Lambda.{Λ, Lambda, ValueAt, Opposite}
use Rattle.star.specs.declared.Terms.{Terms}
use Rattle.star.specs.declared.Values.{Values}

abbrev pub LowMonomial : ℕ → Type 0
LowMonomial n = (n ≤ 8) × (4 * (n % 3) ≤ n)

-- x + f0; y + g0
abbrev pub divisor_11 : Terms → Terms → Divisor
divisor_11 f g = of_four k11 f.a0 g.a0 0 0

-- y + f1·x + f0; x² + g1·x + g0
abbrev pub divisor_21 : Terms → Terms → Divisor
divisor_21 f g = of_four k21 f.a0 f.a3 g.a0 g.a3

-- x + f0; y² + g1·y + g0
abbrev pub divisor_22 : Terms → Terms → Divisor
divisor_22 f g = of_four k22 f.a0 g.a0 g.a4 0

-- x² + f2·y + f1·x + f0; xy + g2·y + g1·x + g0; y² + h2·y + h1·x + h0
abbrev pub divisor_31 : Terms → Terms → Terms → Divisor
divisor_31 f g h =
    record { kind = k31; n0 = f.a0; n1 = f.a3; n2 = f.a4; n3 = g.a0; n4 = g.a3; n5 = g.a4; n6 = h.a0; n7 = h.a3; n8 = h.a4 }

module _ (q : Pose) where
  open q use {p, unit, d, d1, d2}

  pub record PosedU (lam : List ℕ) (us : List (List ℕ)) : Type 0 where
    pub unit_below : unit < p
    pub lambda : Lambda q lam
    pub high : d ≤ 12
    pub rows : Rows p us (d1 + 1)
    pub near : d1 ≤ d + 4

  pub record PosedW (lam : List ℕ) (ws : List (List ℕ)) : Type 0 where
    pub lambda : Lambda q lam
    pub high : d ≤ 12
    pub rows : Rows p ws (d2 + 1)
    pub near : d2 ≤ d + largest_gap
    pub class : (d + largest_gap - d2) % 3 ≡ 0

  pub record ValuesOf (lam : List ℕ) (ws : List (List ℕ)) (v : Values) : Type 0 where
    pub w4 : ValueAt q lam ws 4 0 v.w4
    pub v4 : ValueAt q lam ws 4 (d + largest_gap - d2) v.v4
    pub v3 : ValueAt q lam ws 3 (d + largest_gap - d2) v.v3

  pub record TermYAsked (lam : List ℕ) (us : List (List ℕ)) (n : ℕ) : Type 0 where
    pub posed : PosedU lam us
    pub monomial : LowMonomial n

  -- a4 = −c·Λ(mono n·u), c the inverse of the lead of y·u, if d1 is d + 1, and else 0
  pub record TermY (lam : List ℕ) (us : List (List ℕ)) (n r : ℕ) : Type 0 where
    pub below : r < p
    pub none : ¬ (d1 ≡ d + 1) → r ≡ 0
    pub is : d1 ≡ d + 1 → (C : Curve (Z p)) (u : (Coordinate C).Car) → UnitOf p unit C → RowsOf p C us u
        → Opposite q (twist C 4 (d + 1)) (Λ p C lam ((Coordinate C).mul (mono C n) u)) r

  pub record TermXAsked (lam : List ℕ) (ws : List (List ℕ)) (v : Values) (n a4 : ℕ) : Type 0 where
    pub posed : PosedW lam ws
    pub values : ValuesOf lam ws v
    pub monomial : LowMonomial n
    pub a4_below : a4 < p

  -- a3 = −(a4·Λ(y·w) + Λ(mono n·w)) if d2 is d + 2, and else 0
  pub record TermX (lam : List ℕ) (ws : List (List ℕ)) (n a4 r : ℕ) : Type 0 where
    pub below : r < p
    pub none : ¬ (d2 ≡ d + 2) → r ≡ 0
    pub is : d2 ≡ d + 2 → (C : Curve (Z p)) (w : (Coordinate C).Car) → RowsOf p C ws w
        → let at : ℕ → (Z p).Car = λ m. Λ p C lam ((Coordinate C).mul (mono C m) w) in
        el p r ≡ (Z p).neg ((Z p).add ((Z p).mul (el p a4) (at 4)) (at n))

  pub record TermOneAsked (lam : List ℕ) (ws : List (List ℕ)) (v : Values) (n a4 a3 : ℕ) : Type 0 where
    pub posed : PosedW lam ws
    pub values : ValuesOf lam ws v
    pub monomial : LowMonomial n
    pub a4_below : a4 < p
    pub a3_below : a3 < p

  -- a0 = −(a3·Λ(x·v) + (a4·Λ(y·v) + Λ(mono n·v)))
  pub record TermOne (lam : List ℕ) (ws : List (List ℕ)) (n a4 a3 r : ℕ) : Type 0 where
    pub below : r < p
    pub is : (C : Curve (Z p)) (w : (Coordinate C).Car) → RowsOf p C ws w
        → let at : ℕ → (Z p).Car = λ m. Λ p C lam ((Coordinate C).mul (mono C m) ((Coordinate C).mul (x_to p C ((d + largest_gap - d2) / 3)) w)) in
        el p r ≡ (Z p).neg ((Z p).add ((Z p).mul (el p a3) (at 3)) ((Z p).add ((Z p).mul (el p a4) (at 4)) (at n)))

  module _ (lam : List ℕ) (us ws : List (List ℕ)) where
    pub record Posed : Type 0 where
      pub u_posed : PosedU lam us
      pub w_posed : PosedW lam ws

    pub record SolveAsked (v : Values) (n : ℕ) : Type 0 where
      pub posed : Posed
      pub values : ValuesOf lam ws v
      pub monomial : LowMonomial n

    pub record Solved (n : ℕ) (r : Terms) : Type 0 where
      pub y_term : TermY lam us n r.a4
      pub x_term : TermX lam ws n r.a4 r.a3
      pub one_term : TermOne lam ws n r.a4 r.a3 r.a0

    pub data ByKind (r : Divisor) : Type 0 where
      is_31 : (f g h : Terms) → d1 ≡ d + 1 → d2 ≡ d + 2 → Solved 6 f → Solved 7 g → Solved 8 h → r ≡ divisor_31 f g h → ByKind r
      is_21 : (f g : Terms) → ¬ (d1 ≡ d + 1) → d2 ≡ d + 2 → Solved 4 f → Solved 6 g → r ≡ divisor_21 f g → ByKind r
      is_22 : (f g : Terms) → d1 ≡ d + 1 → ¬ (d2 ≡ d + 2) → Solved 3 f → Solved 8 g → r ≡ divisor_22 f g → ByKind r
      is_11 : (f g : Terms) → ¬ (d1 ≡ d + 1) → ¬ (d2 ≡ d + 2) → Solved 3 f → Solved 4 g → r ≡ divisor_11 f g → ByKind r
