-- A[y] modulo a monic cubic is a commutative ring: the laws of the product of normal forms, component by component identities in A that the
-- ring solver confirms.
--   normal_set, normal_eq      normal forms over a set are a set, and are equal by components
--   scale-j, by-y-j            the components of a·g for a in A, and of y·g
--   product_comm product_assoc product-one product-add       the ring laws of the product
use mathlib.Core.Path.{◌≡◌}
use Rattle.algebra.specs.Ring.{Ops, CommRing, ops}
use Rattle.algebra.specs.Cubic.{Normal, normal_form, plus, product}
use Rattle.algebra.proofs.Norm.{E-ops, nil, unit}
use Rattle.algebra.proofs.Solve.{solve, ◌⊞◌, ◌⊠◌, ⊟◌}

abbrev pub normal_set : {A : Type 0} → IsSet A → IsSet (Normal A)
normal_set s a b p q i j =
    record {
      r0 = s a.r0 b.r0 (λ l. (p l).r0) (λ l. (q l).r0) i j;
      r1 = s a.r1 b.r1 (λ l. (p l).r1) (λ l. (q l).r1) i j;
      r2 = s a.r2 b.r2 (λ l. (p l).r2) (λ l. (q l).r2) i j;
    }

abbrev pub normal_eq : {A : Type 0} {a b : Normal A} → a.r0 ≡ b.r0 → a.r1 ≡ b.r1 → a.r2 ≡ b.r2 → a ≡ b
normal_eq e0 e1 e2 i = record { r0 = e0 i; r1 = e1 i; r2 = e2 i }

-- the product where the cubic and the factors are given by their coefficients
abbrev mul : {A : Type 0} → Ops A → A → A → A → Normal A → Normal A → Normal A
mul O t0 t1 t2 = product O (normal_form t0 t1 t2)

abbrev nf : {A : Type 0} → A → A → A → Normal A
nf = normal_form

-- the product is commutative
comm_0 : (R : CommRing) (t0 t1 t2 a0 a1 a2 b0 b1 b2 : R.Car)
    → (mul (ops R) t0 t1 t2 (nf a0 a1 a2) (nf b0 b1 b2)).r0
    ≡ (mul (ops R) t0 t1 t2 (nf b0 b1 b2) (nf a0 a1 a2)).r0
comm_0 R =
    solve R 9 (λ t0 t1 t2 a0 a1 a2 b0 b1 b2. (mul E-ops t0 t1 t2 (nf a0 a1 a2) (nf b0 b1 b2)).r0)
    (λ t0 t1 t2 a0 a1 a2 b0 b1 b2. (mul E-ops t0 t1 t2 (nf b0 b1 b2) (nf a0 a1 a2)).r0) tt

comm_1 : (R : CommRing) (t0 t1 t2 a0 a1 a2 b0 b1 b2 : R.Car)
    → (mul (ops R) t0 t1 t2 (nf a0 a1 a2) (nf b0 b1 b2)).r1
    ≡ (mul (ops R) t0 t1 t2 (nf b0 b1 b2) (nf a0 a1 a2)).r1
comm_1 R =
    solve R 9 (λ t0 t1 t2 a0 a1 a2 b0 b1 b2. (mul E-ops t0 t1 t2 (nf a0 a1 a2) (nf b0 b1 b2)).r1)
    (λ t0 t1 t2 a0 a1 a2 b0 b1 b2. (mul E-ops t0 t1 t2 (nf b0 b1 b2) (nf a0 a1 a2)).r1) tt

comm_2 : (R : CommRing) (t0 t1 t2 a0 a1 a2 b0 b1 b2 : R.Car)
    → (mul (ops R) t0 t1 t2 (nf a0 a1 a2) (nf b0 b1 b2)).r2
    ≡ (mul (ops R) t0 t1 t2 (nf b0 b1 b2) (nf a0 a1 a2)).r2
comm_2 R =
    solve R 9 (λ t0 t1 t2 a0 a1 a2 b0 b1 b2. (mul E-ops t0 t1 t2 (nf a0 a1 a2) (nf b0 b1 b2)).r2)
    (λ t0 t1 t2 a0 a1 a2 b0 b1 b2. (mul E-ops t0 t1 t2 (nf b0 b1 b2) (nf a0 a1 a2)).r2) tt

-- the product is associative
assoc_0 : (R : CommRing) (t0 t1 t2 a0 a1 a2 b0 b1 b2 c0 c1 c2 : R.Car)
    → (mul (ops R) t0 t1 t2 (mul (ops R) t0 t1 t2 (nf a0 a1 a2) (nf b0 b1 b2)) (nf c0 c1 c2)).r0
    ≡ (mul (ops R) t0 t1 t2 (nf a0 a1 a2) (mul (ops R) t0 t1 t2 (nf b0 b1 b2) (nf c0 c1 c2))).r0
assoc_0 R =
    solve R 12 (λ t0 t1 t2 a0 a1 a2 b0 b1 b2 c0 c1 c2. (mul E-ops t0 t1 t2 (mul E-ops t0 t1 t2 (nf a0 a1 a2) (nf b0 b1 b2)) (nf c0 c1 c2)).r0)
    (λ t0 t1 t2 a0 a1 a2 b0 b1 b2 c0 c1 c2. (mul E-ops t0 t1 t2 (nf a0 a1 a2) (mul E-ops t0 t1 t2 (nf b0 b1 b2) (nf c0 c1 c2))).r0) tt

assoc_1 : (R : CommRing) (t0 t1 t2 a0 a1 a2 b0 b1 b2 c0 c1 c2 : R.Car)
    → (mul (ops R) t0 t1 t2 (mul (ops R) t0 t1 t2 (nf a0 a1 a2) (nf b0 b1 b2)) (nf c0 c1 c2)).r1
    ≡ (mul (ops R) t0 t1 t2 (nf a0 a1 a2) (mul (ops R) t0 t1 t2 (nf b0 b1 b2) (nf c0 c1 c2))).r1
assoc_1 R =
    solve R 12 (λ t0 t1 t2 a0 a1 a2 b0 b1 b2 c0 c1 c2. (mul E-ops t0 t1 t2 (mul E-ops t0 t1 t2 (nf a0 a1 a2) (nf b0 b1 b2)) (nf c0 c1 c2)).r1)
    (λ t0 t1 t2 a0 a1 a2 b0 b1 b2 c0 c1 c2. (mul E-ops t0 t1 t2 (nf a0 a1 a2) (mul E-ops t0 t1 t2 (nf b0 b1 b2) (nf c0 c1 c2))).r1) tt

assoc_2 : (R : CommRing) (t0 t1 t2 a0 a1 a2 b0 b1 b2 c0 c1 c2 : R.Car)
    → (mul (ops R) t0 t1 t2 (mul (ops R) t0 t1 t2 (nf a0 a1 a2) (nf b0 b1 b2)) (nf c0 c1 c2)).r2
    ≡ (mul (ops R) t0 t1 t2 (nf a0 a1 a2) (mul (ops R) t0 t1 t2 (nf b0 b1 b2) (nf c0 c1 c2))).r2
assoc_2 R =
    solve R 12 (λ t0 t1 t2 a0 a1 a2 b0 b1 b2 c0 c1 c2. (mul E-ops t0 t1 t2 (mul E-ops t0 t1 t2 (nf a0 a1 a2) (nf b0 b1 b2)) (nf c0 c1 c2)).r2)
    (λ t0 t1 t2 a0 a1 a2 b0 b1 b2 c0 c1 c2. (mul E-ops t0 t1 t2 (nf a0 a1 a2) (mul E-ops t0 t1 t2 (nf b0 b1 b2) (nf c0 c1 c2))).r2) tt

-- 1 is neutral
unit_0 : (R : CommRing) (t0 t1 t2 a0 a1 a2 : R.Car)
    → (mul (ops R) t0 t1 t2 (nf a0 a1 a2) (nf (ops R).one (ops R).zero (ops R).zero)).r0
    ≡ (nf a0 a1 a2).r0
unit_0 R =
    solve R 6 (λ t0 t1 t2 a0 a1 a2. (mul E-ops t0 t1 t2 (nf a0 a1 a2) (nf E-ops.one E-ops.zero E-ops.zero)).r0)
    (λ t0 t1 t2 a0 a1 a2. (nf a0 a1 a2).r0) tt

unit_1 : (R : CommRing) (t0 t1 t2 a0 a1 a2 : R.Car)
    → (mul (ops R) t0 t1 t2 (nf a0 a1 a2) (nf (ops R).one (ops R).zero (ops R).zero)).r1
    ≡ (nf a0 a1 a2).r1
unit_1 R =
    solve R 6 (λ t0 t1 t2 a0 a1 a2. (mul E-ops t0 t1 t2 (nf a0 a1 a2) (nf E-ops.one E-ops.zero E-ops.zero)).r1)
    (λ t0 t1 t2 a0 a1 a2. (nf a0 a1 a2).r1) tt

unit_2 : (R : CommRing) (t0 t1 t2 a0 a1 a2 : R.Car)
    → (mul (ops R) t0 t1 t2 (nf a0 a1 a2) (nf (ops R).one (ops R).zero (ops R).zero)).r2
    ≡ (nf a0 a1 a2).r2
unit_2 R =
    solve R 6 (λ t0 t1 t2 a0 a1 a2. (mul E-ops t0 t1 t2 (nf a0 a1 a2) (nf E-ops.one E-ops.zero E-ops.zero)).r2)
    (λ t0 t1 t2 a0 a1 a2. (nf a0 a1 a2).r2) tt

-- the product distributes over sums
distribute_0 : (R : CommRing) (t0 t1 t2 a0 a1 a2 b0 b1 b2 c0 c1 c2 : R.Car)
    → (mul (ops R) t0 t1 t2 (nf a0 a1 a2) (plus (ops R) (nf b0 b1 b2) (nf c0 c1 c2))).r0
    ≡ (plus (ops R) (mul (ops R) t0 t1 t2 (nf a0 a1 a2) (nf b0 b1 b2)) (mul (ops R) t0 t1 t2 (nf a0 a1 a2) (nf c0 c1 c2))).r0
distribute_0 R =
    solve R 12 (λ t0 t1 t2 a0 a1 a2 b0 b1 b2 c0 c1 c2. (mul E-ops t0 t1 t2 (nf a0 a1 a2) (plus E-ops (nf b0 b1 b2) (nf c0 c1 c2))).r0)
    (λ t0 t1 t2 a0 a1 a2 b0 b1 b2 c0 c1 c2. (plus E-ops (mul E-ops t0 t1 t2 (nf a0 a1 a2) (nf b0 b1 b2)) (mul E-ops t0 t1 t2 (nf a0 a1 a2) (nf c0 c1 c2))).r0) tt

distribute_1 : (R : CommRing) (t0 t1 t2 a0 a1 a2 b0 b1 b2 c0 c1 c2 : R.Car)
    → (mul (ops R) t0 t1 t2 (nf a0 a1 a2) (plus (ops R) (nf b0 b1 b2) (nf c0 c1 c2))).r1
    ≡ (plus (ops R) (mul (ops R) t0 t1 t2 (nf a0 a1 a2) (nf b0 b1 b2)) (mul (ops R) t0 t1 t2 (nf a0 a1 a2) (nf c0 c1 c2))).r1
distribute_1 R =
    solve R 12 (λ t0 t1 t2 a0 a1 a2 b0 b1 b2 c0 c1 c2. (mul E-ops t0 t1 t2 (nf a0 a1 a2) (plus E-ops (nf b0 b1 b2) (nf c0 c1 c2))).r1)
    (λ t0 t1 t2 a0 a1 a2 b0 b1 b2 c0 c1 c2. (plus E-ops (mul E-ops t0 t1 t2 (nf a0 a1 a2) (nf b0 b1 b2)) (mul E-ops t0 t1 t2 (nf a0 a1 a2) (nf c0 c1 c2))).r1) tt

distribute_2 : (R : CommRing) (t0 t1 t2 a0 a1 a2 b0 b1 b2 c0 c1 c2 : R.Car)
    → (mul (ops R) t0 t1 t2 (nf a0 a1 a2) (plus (ops R) (nf b0 b1 b2) (nf c0 c1 c2))).r2
    ≡ (plus (ops R) (mul (ops R) t0 t1 t2 (nf a0 a1 a2) (nf b0 b1 b2)) (mul (ops R) t0 t1 t2 (nf a0 a1 a2) (nf c0 c1 c2))).r2
distribute_2 R =
    solve R 12 (λ t0 t1 t2 a0 a1 a2 b0 b1 b2 c0 c1 c2. (mul E-ops t0 t1 t2 (nf a0 a1 a2) (plus E-ops (nf b0 b1 b2) (nf c0 c1 c2))).r2)
    (λ t0 t1 t2 a0 a1 a2 b0 b1 b2 c0 c1 c2. (plus E-ops (mul E-ops t0 t1 t2 (nf a0 a1 a2) (nf b0 b1 b2)) (mul E-ops t0 t1 t2 (nf a0 a1 a2) (nf c0 c1 c2))).r2) tt

-- an element of A times a normal form
pub scale_0 : (R : CommRing) (t0 t1 t2 a r0 r1 r2 : R.Car) → (mul (ops R) t0 t1 t2 (nf a R.zero R.zero) (nf r0 r1 r2)).r0 ≡ R.mul a r0
scale_0 R = solve R 7 (λ t0 t1 t2 a r0 r1 r2. (mul E-ops t0 t1 t2 (nf a nil nil) (nf r0 r1 r2)).r0) (λ t0 t1 t2 a r0 r1 r2. a ⊠ r0) tt

pub scale_1 : (R : CommRing) (t0 t1 t2 a r0 r1 r2 : R.Car) → (mul (ops R) t0 t1 t2 (nf a R.zero R.zero) (nf r0 r1 r2)).r1 ≡ R.mul a r1
scale_1 R = solve R 7 (λ t0 t1 t2 a r0 r1 r2. (mul E-ops t0 t1 t2 (nf a nil nil) (nf r0 r1 r2)).r1) (λ t0 t1 t2 a r0 r1 r2. a ⊠ r1) tt

pub scale_2 : (R : CommRing) (t0 t1 t2 a r0 r1 r2 : R.Car) → (mul (ops R) t0 t1 t2 (nf a R.zero R.zero) (nf r0 r1 r2)).r2 ≡ R.mul a r2
scale_2 R = solve R 7 (λ t0 t1 t2 a r0 r1 r2. (mul E-ops t0 t1 t2 (nf a nil nil) (nf r0 r1 r2)).r2) (λ t0 t1 t2 a r0 r1 r2. a ⊠ r2) tt

-- y times a normal form: −(t2·y² + t1·y + t0) comes in for y³
pub by_y_0 : (R : CommRing) (t0 t1 t2 r0 r1 r2 : R.Car) → (mul (ops R) t0 t1 t2 (nf R.zero R.one R.zero) (nf r0 r1 r2)).r0 ≡ R.neg (R.mul t0 r2)
by_y_0 R = solve R 6 (λ t0 t1 t2 r0 r1 r2. (mul E-ops t0 t1 t2 (nf nil unit nil) (nf r0 r1 r2)).r0) (λ t0 t1 t2 r0 r1 r2. ⊟ (t0 ⊠ r2)) tt

pub by_y_1 : (R : CommRing) (t0 t1 t2 r0 r1 r2 : R.Car) → (mul (ops R) t0 t1 t2 (nf R.zero R.one R.zero) (nf r0 r1 r2)).r1 ≡ R.add r0 (R.neg (R.mul t1 r2))
by_y_1 R = solve R 6 (λ t0 t1 t2 r0 r1 r2. (mul E-ops t0 t1 t2 (nf nil unit nil) (nf r0 r1 r2)).r1) (λ t0 t1 t2 r0 r1 r2. r0 ⊞ ⊟ (t1 ⊠ r2)) tt

pub by_y_2 : (R : CommRing) (t0 t1 t2 r0 r1 r2 : R.Car) → (mul (ops R) t0 t1 t2 (nf R.zero R.one R.zero) (nf r0 r1 r2)).r2 ≡ R.add r1 (R.neg (R.mul t2 r2))
by_y_2 R = solve R 6 (λ t0 t1 t2 r0 r1 r2. (mul E-ops t0 t1 t2 (nf nil unit nil) (nf r0 r1 r2)).r2) (λ t0 t1 t2 r0 r1 r2. r1 ⊞ ⊟ (t2 ⊠ r2)) tt

module _ (R : CommRing) (t : Normal R.Car) where
  abbrev ◌·◌ : Normal R.Car → Normal R.Car → Normal R.Car
  a · b = product (ops R) t a b

  infixl 70 ◌·◌
  pub product_comm : (a b : Normal R.Car) → a · b ≡ b · a
  product_comm a b =
      normal_eq (comm_0 R t.r0 t.r1 t.r2 a.r0 a.r1 a.r2 b.r0 b.r1 b.r2)
      (comm_1 R t.r0 t.r1 t.r2 a.r0 a.r1 a.r2 b.r0 b.r1 b.r2)
      (comm_2 R t.r0 t.r1 t.r2 a.r0 a.r1 a.r2 b.r0 b.r1 b.r2)

  pub product_assoc : (a b c : Normal R.Car) → a · b · c ≡ a · (b · c)
  product_assoc a b c =
      normal_eq (assoc_0 R t.r0 t.r1 t.r2 a.r0 a.r1 a.r2 b.r0 b.r1 b.r2 c.r0 c.r1 c.r2)
      (assoc_1 R t.r0 t.r1 t.r2 a.r0 a.r1 a.r2 b.r0 b.r1 b.r2 c.r0 c.r1 c.r2)
      (assoc_2 R t.r0 t.r1 t.r2 a.r0 a.r1 a.r2 b.r0 b.r1 b.r2 c.r0 c.r1 c.r2)

  pub product-one : (a : Normal R.Car) → a · normal_form R.one R.zero R.zero ≡ a
  product-one a =
      normal_eq (unit_0 R t.r0 t.r1 t.r2 a.r0 a.r1 a.r2)
      (unit_1 R t.r0 t.r1 t.r2 a.r0 a.r1 a.r2)
      (unit_2 R t.r0 t.r1 t.r2 a.r0 a.r1 a.r2)

  pub product-add : (a b c : Normal R.Car) → a · plus (ops R) b c ≡ plus (ops R) (a · b) (a · c)
  product-add a b c =
      normal_eq (distribute_0 R t.r0 t.r1 t.r2 a.r0 a.r1 a.r2 b.r0 b.r1 b.r2 c.r0 c.r1 c.r2)
      (distribute_1 R t.r0 t.r1 t.r2 a.r0 a.r1 a.r2 b.r0 b.r1 b.r2 c.r0 c.r1 c.r2)
      (distribute_2 R t.r0 t.r1 t.r2 a.r0 a.r1 a.r2 b.r0 b.r1 b.r2 c.r0 c.r1 c.r2)
