-- Sums of products: to a number below p, which is below 2^31, four terms at most are added in 64 bits, products a·b or p² − a·b.
--   product-most, square-most, product-square      a product and p² are terms, and p² is the larger
--   one-fits, one-half, other_half, more-one, less_one     x + a·b and x + a·(p − b), which are below 2^63
--   product-sum            a·b is a sum
--   added taken            x + a·b is a sum, and x + (p² − a·b) is x − a·b
--   reduced                the number below p with the residue of a sum
--   more-after less-after  what s is may stand for s in s + u·v and s − u·v
--   less-together          (x − y) − u·v is x − (y + u·v)
use mathlib.Core.Path.{◌≡◌, sym, ◌∙◌, ap}
use Prim.Native.Nat.{ℕ, ◌+◌, ◌*◌, ◌-◌, ◌<◌, ◌≤◌}
use native.Mathlib.Nat.{mul-le-mul}
use mir.Syntax.{w64}
use mir.Val.{Fits}
use native.Mathlib.Omega.{arith}
use Rattle.algebra.specs.Ring.{CommRing}
use Rattle.algebra.proofs.Solve.{solve, ◌⊞◌, ⊟◌}
use Rattle.field.specs.Residue.{Z, el}
use Rattle.field.specs.Contract.{Is}
use Rattle.field.proofs.Element.{el-add, el-mul}
use Rattle.field.proofs.Products.{negated}
use Rattle.barrett.specs.Contract.{more₁, less₁, term, Sum}
use Rattle.barrett.proofs.Quotient.{el_turns}

-- a product of two numbers below p, which is below 2^31, is a term at most
pub product-most : (p a b : ℕ) → p < 2147483648 → a < p → b < p → a * b ≤ term
product-most p a b h ha hb = mul-le-mul {n₁ = a} {m₁ = b} {n₂ = 2147483647} {m₂ = 2147483647} (omega arith) (omega arith)

-- p² is one too, and no product is larger
pub square-most : (p : ℕ) → p < 2147483648 → p * p ≤ term
square-most p h = mul-le-mul {n₁ = p} {m₁ = p} {n₂ = 2147483647} {m₂ = 2147483647} (omega arith) (omega arith)

pub product-square : (p a b : ℕ) → a < p → b < p → a * b ≤ p * p
product-square p a b ha hb = mul-le-mul {n₁ = a} {m₁ = b} {n₂ = p} {m₂ = p} (omega arith) (omega arith)

pub product-sum : (p a b : ℕ) → p < 2147483648 → a < p → b < p → Sum p 0 (a * b) ((Z p).mul (el p a) (el p b))
product-sum p a b h ha hb = record { more = product-most p a b h ha hb; is = el-mul p a b }

-- one product and a number of 32 bits always fit
pub one-fits : (x a b : ℕ) → x < 4294967296 → a < 4294967296 → b < 4294967296 → Fits w64 (x + a * b)
one-fits x a b hx ha hb = omega (arith, mul-le-mul {n₁ = a} {m₁ = b} {n₂ = 4294967295} {m₂ = 4294967295} (omega arith) (omega arith))

pub one-half : (p x a b : ℕ) → p < 2147483648 → x < p → a < p → b < p → x + a * b < 9223372036854775808
one-half p x a b h hx ha hb = omega (arith, product-most p a b h ha hb)

pub other_half : (p x a b : ℕ) → p < 2147483648 → x < p → a < p → x + a * (p - b) < 9223372036854775808
other_half p x a b h hx ha = omega (arith, mul-le-mul {n₁ = a} {m₁ = p - b} {n₂ = 2147483647} {m₂ = 2147483647} (omega arith) (omega arith))

pub more-one : (p x a b : ℕ) → el p (x + a * b) ≡ more₁ (Z p) (el p x) (el p a) (el p b)
more-one p x a b = el-add p x (a * b) ∙ ap ((Z p).add (el p x)) (el-mul p a b)

pub less_one : (p x a b : ℕ) → b ≤ p → el p (x + a * (p - b)) ≡ less₁ (Z p) (el p x) (el p a) (el p b)
less_one p x a b h = el-add p x (a * (p - b)) ∙ ap ((Z p).add (el p x)) (negated p a b h)

cancelled : (R : CommRing) (x m : R.Car) → R.add (R.add x m) (R.neg m) ≡ x
cancelled R = solve R 2 (λ x m. x ⊞ m ⊞ ⊟ m) (λ x m. x) tt

together : (R : CommRing) (x y z : R.Car) → R.add (R.add x (R.neg y)) (R.neg z) ≡ R.add x (R.neg (R.add y z))
together R = solve R 3 (λ x y z. x ⊞ ⊟ y ⊞ ⊟ z) (λ x y z. x ⊞ ⊟ (y ⊞ z)) tt

module _ (p x a b : ℕ) (small : p < 2147483648) (ha : a < p) (hb : b < p) where
  pub added : Sum p x (x + a * b) (more₁ (Z p) (el p x) (el p a) (el p b))
  added = record { more = omega (arith, product-most p a b small ha hb); is = more-one p x a b }

  pub taken : Sum p x (x + (p * p - a * b)) (less₁ (Z p) (el p x) (el p a) (el p b))
  taken =
      record {
        more = omega (arith, square-most p small);
        is =
            sym (cancelled (Z p) _ ((Z p).mul (el p a) (el p b)))
            ∙ ap (λ y. (Z p).add y ((Z p).neg ((Z p).mul (el p a) (el p b))))
            (ap ((Z p).add (el p (x + (p * p - a * b)))) (sym (el-mul p a b)) ∙ sym (el-add p (x + (p * p - a * b)) (a * b)) ∙ ap (el p) (omega (arith, product-square p a b ha hb)) ∙ el_turns p x p);
      }

module _ {p : ℕ} where
  pub reduced-one : {r : ℕ} {y : (Z p).Car} (s : ℕ) → Is p r (el p s) → el p s ≡ y → Is p r y
  reduced-one s i e = record { below = i.below; is = i.is ∙ e }

  pub reduced : {r x s : ℕ} {y : (Z p).Car} → Is p r (el p s) → Sum p x s y → Is p r y
  reduced i s = reduced-one _ i s.is

  pub more-after : {x s t : ℕ} {y : (Z p).Car} (u v : (Z p).Car) → Sum p x s y → Sum p s t (more₁ (Z p) (el p s) u v) → Sum p s t (more₁ (Z p) y u v)
  more-after u v s t = record { more = t.more; is = t.is ∙ ap (λ x. more₁ (Z p) x u v) s.is }

  pub less-after : {x s t : ℕ} {y : (Z p).Car} (u v : (Z p).Car) → Sum p x s y → Sum p s t (less₁ (Z p) (el p s) u v) → Sum p s t (less₁ (Z p) y u v)
  less-after u v s t = record { more = t.more; is = t.is ∙ ap (λ x. less₁ (Z p) x u v) s.is }

  pub less-together : {w s t : ℕ} (x y u v : (Z p).Car) → Sum p w s ((Z p).add x ((Z p).neg y)) → Sum p s t (less₁ (Z p) (el p s) u v)
      → Sum p s t ((Z p).add x ((Z p).neg ((Z p).add y ((Z p).mul u v))))
  less-together x y u v s t = let e = less-after u v s t in record { more = e.more; is = e.is ∙ together (Z p) x y ((Z p).mul u v) }
