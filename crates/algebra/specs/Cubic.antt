-- Normal forms r0 + r1·y + r2·y² over A[y] modulo a monic cubic y³ + t.r2·y² + t.r1·y + t.r0, and their products. Each operation is written
-- once over Ops, and read at a ring and at the solver's expressions.
--   Normal A           normal forms; normal_form r0 r1 r2
--   plus, scale        sums, and multiples by an element of A
--   times_y t a        y·a, with −(t.r2·y² + t.r1·y + t.r0) for y³. Example: y·y² is (−t.r0, −t.r1, −t.r2)
--   product t a b      a·b = a.r0·b + y·(a.r1·b + y·(a.r2·b))
use Rattle.algebra.specs.Ring.{Ops}

pub record Normal (A : Type 0) : Type 0 where
  pub r0 : A
  pub r1 : A
  pub r2 : A

abbrev pub normal_form : {A : Type 0} → A → A → A → Normal A
normal_form a b c = record { r0 = a; r1 = b; r2 = c }

abbrev pub plus : {A : Type 0} → Ops A → Normal A → Normal A → Normal A
plus O a b = record { r0 = O.add a.r0 b.r0; r1 = O.add a.r1 b.r1; r2 = O.add a.r2 b.r2 }

abbrev pub scale : {A : Type 0} → Ops A → A → Normal A → Normal A
scale O k a = record { r0 = O.mul k a.r0; r1 = O.mul k a.r1; r2 = O.mul k a.r2 }

-- a0·y + a1·y² + a2·y³, with −t2·y² − t1·y − t0 for y³
abbrev pub times_y : {A : Type 0} → Ops A → Normal A → Normal A → Normal A
times_y O t a =
    record {
      r0 = O.neg (O.mul t.r0 a.r2);
      r1 = O.add a.r0 (O.neg (O.mul t.r1 a.r2));
      r2 = O.add a.r1 (O.neg (O.mul t.r2 a.r2));
    }

abbrev pub product : {A : Type 0} → Ops A → Normal A → Normal A → Normal A → Normal A
product O t a b =
    plus O (scale O a.r0 b) (times_y O t (plus O (scale O a.r1 b) (times_y O t (scale O a.r2 b))))
