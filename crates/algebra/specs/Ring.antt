-- Commutative rings and fields, as flat records. The carrier is a set; laws are one-sided.
--   Ops A          zero, one, sum, product and negative on A, with no law
--   CommRing       a commutative ring with one
--   ops R          the operations of R
--   Field          a commutative ring with decidable equality, 0 ≢ 1 and a total inverse, inv 0 = 0
use Rattle.std.specs.Prelude.{◌≡◌}

-- The five operations: a formula over Ops is read at a ring and at the solver's expressions alike.
pub record Ops (A : Type 0) : Type 0 where
  pub zero : A
  pub one : A
  pub add : A → A → A
  pub mul : A → A → A
  pub neg : A → A

pub record CommRing : Type 1 where
  pub Car : Type 0
  pub is_set : IsSet Car
  pub zero : Car
  pub one : Car
  pub add : Car → Car → Car
  pub mul : Car → Car → Car
  pub neg : Car → Car
  pub add_comm : (a b : Car) → add a b ≡ add b a
  pub add_assoc : (a b c : Car) → add (add a b) c ≡ add a (add b c)
  pub add_zero : (a : Car) → add a zero ≡ a
  pub add_neg : (a : Car) → add a (neg a) ≡ zero
  pub mul_comm : (a b : Car) → mul a b ≡ mul b a
  pub mul_assoc : (a b c : Car) → mul (mul a b) c ≡ mul a (mul b c)
  pub mul_one : (a : Car) → mul a one ≡ a
  pub mul_add : (a b c : Car) → mul a (add b c) ≡ add (mul a b) (mul a c)

abbrev pub ops : (R : CommRing) → Ops R.Car
ops R = record { zero = R.zero; one = R.one; add = R.add; mul = R.mul; neg = R.neg }

pub record Field : Type 1 where
  pub ring : CommRing
  pub discrete : Discrete ring.Car
  pub nontrivial : ¬ (ring.one ≡ ring.zero)
  pub inv : ring.Car → ring.Car
  pub inv_zero : inv ring.zero ≡ ring.zero
  pub mul_inv : (a : ring.Car) → ¬ (a ≡ ring.zero) → ring.mul a (inv a) ≡ ring.one
