-- What the functions that the inverse is made of require and ensure. All numbers modulo 2^32 are below 4294967296.
--   Low x y            x and y are so small that their product is below 2^64
--   Odd p              p is odd and below 2^32
--   Opposite p v       v is −1/p modulo 2^32
--   OppositeOf p v     v is −1/p modulo 2^32 where p is odd
--   HalfAsked p v c j  v is −1/p modulo 2^32, c is at most p and j at most 32
--   Half p c j r       r is c / 2^j modulo p, and at most p
--   EndAsked p v c k   v is −1/p modulo 2^32, c is at most p and k below 64
--   End p c k n r      r is c / 2^k modulo p, with the sign n, and at most p
use Rattle.std.specs.Prelude.{◌≡◌, ℕ, ◌+◌, ◌-◌, ◌*◌, ◌%◌, ◌^◌, ◌<◌, ◌≤◌, Bool, cond}

pub record Low (x y : ℕ) : Type 0 where
  pub below : x < 4294967296
  pub most : y ≤ 4294967296

pub record Odd (p : ℕ) : Type 0 where
  pub below : p < 4294967296
  pub odd : p % 2 ≡ 1

pub record Opposite (p v : ℕ) : Type 0 where
  pub below : v < 4294967296
  pub is : (p * v + 1) % 4294967296 ≡ 0

abbrev pub OppositeOf : (p v : ℕ) → Type 0
OppositeOf p v = Odd p → Opposite p v

pub record HalfAsked (p v c j : ℕ) : Type 0 where
  pub below : p < 4294967296
  pub opposite : Opposite p v
  pub most : c ≤ p
  pub bits : j ≤ 32

pub record Half (p c j r : ℕ) : Type 0 where
  pub most : r ≤ p
  pub is : (m : ℕ) × (r * 2 ^ j ≡ c + m * p)

pub record EndAsked (p v c k : ℕ) : Type 0 where
  pub below : p < 4294967296
  pub opposite : Opposite p v
  pub most : c ≤ p
  pub bits : k < 64

pub record End (p c k : ℕ) (n : Bool) (r : ℕ) : Type 0 where
  pub half : (q : ℕ) × Half p c k q × (r ≡ cond n (p - q) q)
