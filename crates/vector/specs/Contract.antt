-- What the functions on vectors require and ensure.
--   AxpyAsked, Added          axpy: c·b[i] added at the place i + s, for each i below e
--   ClearAsked, Cleared       clear: v less the multiple of a monic b that takes v[n] away
--   MonicAsked, MadeMonic     make_monic: v over its lead
--   DotAsked, pairing         dot: the sum of a[n]·b[n − s]
--   total R f n               the sum of f 0, …, f (n − 1)
--   ZeroAsked, ZeroTest       is_zero: is v zero
--   ScaleAsked, Scaled        scale: c·v[i] at the place i, for each i below e
use Rattle.std.specs.Prelude.{◌≡◌, Bool, true, false, List, ℕ, zero, suc, ◌+◌, ◌-◌, ◌/◌, ◌%◌, ◌<◌, ◌≤◌, length}
use Rattle.algebra.specs.Ring.{CommRing}
use Rattle.prime.specs.Prime.{Prime}
use Rattle.field.specs.Residue.{Z, el}
use Rattle.field.specs.Inverse.{inverse}
use Rattle.curve.specs.Curve.{Curve, Coordinate, constant}
use Rattle.vector.specs.Vector.{Vec, Top, at, res, element, x_to, scalar, width}

pub record AxpyAsked (p : ℕ) (r : List ℕ) (c : ℕ) (b : List ℕ) (s e : ℕ) : Type 0 where
  pub r_vec : Vec p r
  pub b_vec : Vec p b
  pub c_below : c < p
  pub class : s % 3 ≡ 0
  pub room : e + s ≤ width

pub record Added (p : ℕ) (r : List ℕ) (c : ℕ) (b : List ℕ) (s e : ℕ) (r' : List ℕ) : Type 0 where
  pub vec : Vec p r'
  pub new : (i : ℕ) → i < e → res p r' (i + s) ≡ (Z p).add ((Z p).mul (el p c) (res p b i)) (res p r (i + s))
  pub low : (n : ℕ) → n < s → at r' n ≡ at r n
  pub high : (n : ℕ) → e + s ≤ n → at r' n ≡ at r n

pub record ClearAsked (p : ℕ) (v : List ℕ) (n : ℕ) (b : List ℕ) (d : ℕ) : Type 0 where
  pub v_vec : Vec p v
  pub b_vec : Vec p b
  pub inside : n < width
  pub fits : d ≤ n
  pub class : n % 3 ≡ d % 3
  pub monic : at b d ≡ 1
  pub b_top : Top b (suc d)

pub record Cleared (p : ℕ) (v : List ℕ) (n : ℕ) (b : List ℕ) (d : ℕ) (v' : List ℕ) : Type 0 where
  pub vec : Vec p v'
  pub top : Top v (suc n) → Top v' n
  pub value :
      (C : Curve (Z p)) →
      element p C v ≡ (Coordinate C).add (element p C v') ((Coordinate C).mul ((Coordinate C).mul (scalar p C (at v n)) (x_to p C ((n - d) / 3))) (element p C b))

pub record MonicAsked (p : ℕ) (v : List ℕ) (m : ℕ) : Type 0 where
  pub prime : Prime p
  pub vec : Vec p v
  pub inside : m < width
  pub lead : 0 < at v m
  pub top : Top v (suc m)

pub record MadeMonic (p : ℕ) (v : List ℕ) (m : ℕ) (v' : List ℕ) : Type 0 where
  pub vec : Vec p v'
  pub monic : at v' m ≡ 1
  pub top : Top v' (suc m)
  pub value : (C : Curve (Z p)) → element p C v' ≡ (Coordinate C).mul (constant C (inverse p (res p v m))) (element p C v)
  pub back : (C : Curve (Z p)) → element p C v ≡ (Coordinate C).mul (scalar p C (at v m)) (element p C v')

pub record DotAsked (p : ℕ) (a b : List ℕ) (s from to : ℕ) : Type 0 where
  pub a_vec : Vec p a
  pub b_vec : Vec p b
  pub start : s ≤ from
  pub end : to ≤ width

-- the sum of f 0, …, f (n − 1)
abbrev pub total : (R : CommRing) → (ℕ → R.Car) → ℕ → R.Car
total R f zero = R.zero
total R f (suc n) = R.add (f n) (total R f n)

abbrev pub pairing : (p : ℕ) → List ℕ → List ℕ → ℕ → ℕ → ℕ → (Z p).Car
pairing p a b s from to = total (Z p) (λ i. (Z p).mul (res p a (from + i)) (res p b (from + i - s))) (to - from)

pub record ZeroAsked (v : List ℕ) (top : ℕ) : Type 0 where
  pub len : length v ≡ width
  pub v_top : Top v top
  pub room : top ≤ width

pub record ZeroTest (v : List ℕ) (r : Bool) : Type 0 where
  pub zero_vector : r ≡ true → Top v 0
  pub nonzero : r ≡ false → (n : ℕ) × (n < width) × (0 < at v n)

pub record ScaleAsked (p : ℕ) (v : List ℕ) (c e : ℕ) : Type 0 where
  pub v_vec : Vec p v
  pub c_below : c < p
  pub room : e ≤ width

pub record Scaled (p : ℕ) (v : List ℕ) (c e : ℕ) (v' : List ℕ) : Type 0 where
  pub vec : Vec p v'
  pub new : (i : ℕ) → i < e → res p v' i ≡ (Z p).mul (el p c) (res p v i)
  pub high : (n : ℕ) → e ≤ n → at v' n ≡ at v n
