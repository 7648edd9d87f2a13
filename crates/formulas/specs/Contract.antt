-- What the functions of the formulas require and ensure.
--   TailBelow, HeadBelow, BodyBelow, LastBelow     the numbers are below p
--   FactorsAsked, FactorsOf        factors_of: y = z²·f2, z·y and z³
--   InversesAsked, InversesOf      inverses_of: the inverse of z, and z²/y, for each z that the factors are made of
--   TailAsked, TailOf              tail_of: u1 … u4, or v1 … v4
--   HeadAsked, HeadOf              head_of
--   BodyAsked, BodyOf              body_of
--   LastAsked, LastOf              last_of
use Rattle.std.specs.Prelude.{◌≡◌, ℕ, ◌<◌}
use Rattle.prime.specs.Prime.{Prime}
use Rattle.field.specs.Residue.{Z, el}
use Rattle.field.specs.Contract.{Is}
use Rattle.barrett.specs.Contract.{more₁, less₁, less₃, cross₂}
use Rattle.chains.specs.Contract.{more₁_less₁, more₂_less₁, more₁_less₂, more₂_less₂}
use Rattle.basis.specs.declared.Divisor.{Divisor}
use Rattle.basis.specs.Divisor.{numbers_of}
use Rattle.matrix.specs.declared.Column.{Column}
use Rattle.matrix.specs.Matrix.{ColumnBelow}
use Rattle.entries.specs.declared.Lower.{Lower}
use Rattle.entries.specs.Contract.{NumbersBelow, LowerBelow}
use Rattle.formulas.specs.declared.Tail.{Tail}
use Rattle.formulas.specs.declared.Head.{Head}
use Rattle.formulas.specs.declared.Body.{Body}
use Rattle.formulas.specs.declared.Last.{Last}
use Rattle.formulas.specs.declared.Factors.{Factors}
use Rattle.formulas.specs.declared.Inverses.{Inverses}

pub record TailBelow (p : ℕ) (u : Tail) : Type 0 where
  pub t1 : u.t1 < p
  pub t2 : u.t2 < p
  pub t3 : u.t3 < p
  pub t4 : u.t4 < p

pub record HeadBelow (p : ℕ) (h : Head) : Type 0 where
  pub l : h.l < p
  pub q : h.q < p
  pub f2 : h.f2 < p
  pub k2 : h.k2 < p
  pub r0 : h.r0 < p
  pub g1 : h.g1 < p
  pub e3 : h.e3 < p
  pub e4 : h.e4 < p

pub record BodyBelow (p : ℕ) (b : Body) : Type 0 where
  pub g2 : b.g2 < p
  pub f1 : b.f1 < p
  pub f0 : b.f0 < p
  pub g0 : b.g0 < p

pub record LastBelow (p : ℕ) (l : Last) : Type 0 where
  pub h0 : l.h0 < p
  pub h1 : l.h1 < p
  pub h2 : l.h2 < p

pub record FactorsAsked (p : ℕ) (o : Lower) (f2 z b c e : ℕ) : Type 0 where
  pub o_below : LowerBelow p o
  pub f2_below : f2 < p
  pub z_below : z < p
  pub b_below : b < p
  pub c_below : c < p
  pub e_below : e < p

-- z·(e − b + z·f2 − n11·c) − n12·c·c
abbrev pub factor_of : (p : ℕ) (o : Lower) (f2 z b c e : ℕ) → (Z p).Car
factor_of p o f2 z b c e =
    cross₂ (Z p) (el p z) (more₁_less₁ (Z p) ((Z p).add (el p e) ((Z p).neg (el p b))) (el p z) (el p f2) (el p o.n11) (el p c)) ((Z p).mul (el p o.n12) (el p c)) (el p c)

pub record FactorsOf (p : ℕ) (o : Lower) (f2 z b c e : ℕ) (r : Factors) : Type 0 where
  pub y_is : Is p r.y (factor_of p o f2 z b c e)
  pub zy_is : Is p r.zy ((Z p).mul (el p z) (el p r.y))
  pub zzz_is : Is p r.zzz ((Z p).mul ((Z p).mul (el p z) (el p z)) (el p z))

pub record InversesAsked (p : ℕ) (f : Factors) : Type 0 where
  pub prime : Prime p
  pub small : p < 2147483648
  pub y_below : f.y < p
  pub zy_below : f.zy < p
  pub zzz_below : f.zzz < p

pub record InversesOf (p : ℕ) (f : Factors) (r : Inverses) : Type 0 where
  pub one_below : r.one < p
  pub two_below : r.two < p
  pub one_is : (z : (Z p).Car) → el p f.zy ≡ (Z p).mul z (el p f.y) → ¬ (el p f.zy ≡ (Z p).zero) → (Z p).mul z (el p r.one) ≡ (Z p).one
  pub two_is : (z : (Z p).Car) → el p f.zy ≡ (Z p).mul z (el p f.y) → el p f.zzz ≡ (Z p).mul ((Z p).mul z z) z → ¬ (el p f.zy ≡ (Z p).zero)
      → (Z p).mul (el p f.y) (el p r.two) ≡ (Z p).mul z z

pub record TailAsked (p : ℕ) (n : Divisor) (q0 q1 q2 : ℕ) (v : Column) : Type 0 where
  pub n_below : NumbersBelow p (numbers_of n)
  pub v_below : ColumnBelow p v
  pub q0_below : q0 < p
  pub q1_below : q1 < p
  pub q2_below : q2 < p

pub record TailOf (p : ℕ) (n : Divisor) (q0 : ℕ) (q1 : ℕ) (q2 : ℕ) (v : Column) (r : Tail) : Type 0 where
  pub below : TailBelow p r
  pub t1_is : el p r.t1 ≡ less₃ (Z p) (el p q0) (el p v.one) (el p n.n1) (el p v.x) (el p n.n4) (el p v.y) (el p n.n7)
  pub t2_is : el p r.t2 ≡ less₃ (Z p) (el p 0) (el p v.one) (el p n.n2) (el p v.x) (el p n.n5) (el p v.y) (el p n.n8)
  pub t3_is : el p r.t3 ≡ (Z p).add (el p q1) ((Z p).neg (el p v.one))
  pub t4_is : el p r.t4 ≡ (Z p).add (el p q2) ((Z p).neg (el p v.x))

pub record HeadAsked (p : ℕ) (o : Lower) (u v : Tail) (a b : ℕ) : Type 0 where
  pub o_below : LowerBelow p o
  pub u_below : TailBelow p u
  pub v_below : TailBelow p v
  pub a_below : a < p
  pub b_below : b < p

pub record HeadOf (p : ℕ) (o : Lower) (u : Tail) (v : Tail) (a : ℕ) (b : ℕ) (r : Head) : Type 0 where
  pub below : HeadBelow p r
  pub l_is : el p r.l ≡ (Z p).mul (el p o.n12) (el p a)
  pub q_is : el p r.q ≡ less₁ (Z p) (el p b) (el p r.l) (el p a)
  pub f2_is : el p r.f2 ≡ less₁ (Z p) ((Z p).add (el p u.t4) (el p r.q)) (el p o.n11) (el p a)
  pub k2_is : el p r.k2 ≡ less₁ (Z p) (el p u.t3) (el p o.n10) (el p a)
  pub r0_is : el p r.r0 ≡ more₁ (Z p) ((Z p).add (el p r.k2) ((Z p).neg (el p v.t4))) (el p r.l) ((Z p).add (el p r.f2) (el p u.t4))
  pub g1_is : el p r.g1 ≡ more₁_less₂ (Z p) (el p v.t3) (el p o.n9) (el p a) (el p r.l) ((Z p).add (el p u.t3) (el p r.r0)) ((Z p).mul (el p o.n12) (el p r.f2)) (el p r.q)
  pub e3_is : el p r.e3 ≡ less₁ (Z p) (el p v.t3) (el p r.l) (el p u.t3)
  pub e4_is : el p r.e4 ≡ less₁ (Z p) (el p v.t4) (el p r.l) (el p u.t4)

pub record BodyAsked (p : ℕ) (o : Lower) (u v : Tail) (a : ℕ) (h : Head) (i : ℕ) : Type 0 where
  pub o_below : LowerBelow p o
  pub u_below : TailBelow p u
  pub v_below : TailBelow p v
  pub a_below : a < p
  pub h_below : HeadBelow p h
  pub i_below : i < p

pub record BodyOf (p : ℕ) (o : Lower) (u : Tail) (v : Tail) (a : ℕ) (h : Head) (i : ℕ) (r : Body) : Type 0 where
  pub below : BodyBelow p r
  pub g2_is : el p r.g2 ≡ (Z p).mul (el p i) (more₂_less₁ (Z p) ((Z p).neg (el p u.t2)) (el p h.f2) (less₁ (Z p) (el p h.e4) (el p o.n11) (el p h.q)) (el p a) ((Z p).add (el p h.g1) (el p o.n8)) (el p h.q) (el p h.r0))
  pub f1_is : el p r.f1 ≡ (Z p).add (el p h.r0) (el p r.g2)
  pub f0_is : el p r.f0 ≡ more₁_less₁ (Z p) (more₂_less₂ (Z p) ((Z p).add (el p u.t1) ((Z p).neg (el p v.t2))) (el p h.g1) (el p u.t4) (el p h.l) (el p u.t2) (el p h.f2) (less₁ (Z p) (el p h.e3) (el p o.n10) (el p h.q)) (el p o.n7) (el p a)) (el p r.g2) (el p h.k2) (el p r.f1) (el p h.e4)
  pub g0_is : el p r.g0 ≡ more₁_less₂ (Z p) (more₁_less₁ (Z p) (el p v.t1) (el p o.n6) (el p a) (el p h.g1) (el p u.t3)) (el p r.f1) (el p h.e3) (el p o.n9) (cross₂ (Z p) (el p h.f2) (el p h.q) (el p r.g2) (el p a)) (el p h.l) ((Z p).add (el p r.f0) (el p u.t1))

pub record LastAsked (p : ℕ) (h : Head) (b : Body) (i : ℕ) : Type 0 where
  pub small : p < 2147483648
  pub h_below : HeadBelow p h
  pub b_below : BodyBelow p b
  pub i_below : i < p

pub record LastOf (p : ℕ) (h : Head) (b : Body) (i : ℕ) (r : Last) : Type 0 where
  pub below : LastBelow p r
  pub h0_is : el p r.h0 ≡ (Z p).mul (el p i) (cross₂ (Z p) (el p b.f0) (el p h.g1) (el p b.g0) (el p h.r0))
  pub h1_is : el p r.h1 ≡ (Z p).mul (el p i) (more₁ (Z p) ((Z p).neg (el p b.g0)) (el p h.g1) (el p b.g2))
  pub h2_is : el p r.h2 ≡ more₁ (Z p) (el p h.g1) (el p i) (less₁ (Z p) (el p b.f0) (el p b.g2) (el p h.r0))
