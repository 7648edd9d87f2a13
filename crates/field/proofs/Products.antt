-- What a product and a fused product return, and that their numbers fit.
--   product-fits            a·b fits 64 bits if a and b fit 32
--   product-sum-fits        and so does a·b + c
--   rest-fits               a remainder by a number of 32 bits fits 32 bits
--   product                 a·b
--   product-sum             a·b + c
--   product-difference      c − a·b
--   negated                 a·(p − b) has the residue of −(a·b)
use mathlib.Core.Path.{◌≡◌, sym, ◌∙◌, ap}
use Prim.Native.Nat.{ℕ, ◌+◌, ◌*◌, ◌-◌, ◌%◌, ◌≤◌, ◌<◌}
use native.Mathlib.Nat.{mod-lt, mul-add, mul-le-mul}
use native.Mathlib.Omega.{arith}
use mir.Val.{Fits}
use mir.Syntax.{w32, w64}
use Rattle.field.specs.Residue.{Z, el}
use Rattle.field.proofs.Element.{cancel, el-add, el-mul, el_mod, el-zero, el_self}
use Rattle.field.specs.Contract.{Is}

square : (a b : ℕ) → a < 4294967296 → b < 4294967296 → a * b ≤ 18446744065119617025
square a b ha hb = mul-le-mul {n₂ = 4294967295} {m₂ = 4294967295} (omega arith) (omega arith)

pub product-fits : (a b : ℕ) → a < 4294967296 → b < 4294967296 → Fits w64 (a * b)
product-fits a b ha hb = omega (arith, square a b ha hb)

pub product-sum-fits : (a b c : ℕ) → a < 4294967296 → b < 4294967296 → c < 4294967296 → Fits w64 (a * b + c)
product-sum-fits a b c ha hb hc = omega (arith, square a b ha hb)

pub rest-fits : (n p : ℕ) → 0 < p → p < 4294967296 → Fits w32 (n % p)
rest-fits n p h l = omega (arith, mod-lt n {m = p} h)

-- the remainder of n has the residue of n
rest : (p n : ℕ) (x : (Z p).Car) → 0 < p → el p n ≡ x → Is p (n % p) x
rest p n x h e = record { below = mod-lt n h; is = el_mod p n ∙ e }

pub product : (p a b : ℕ) → a < p → Is p (a * b % p) ((Z p).mul (el p a) (el p b))
product p a b h = rest p (a * b) _ (omega arith) (el-mul p a b)

pub product-sum : (p a b c : ℕ) → a < p → Is p ((a * b + c) % p) ((Z p).add ((Z p).mul (el p a) (el p b)) (el p c))
product-sum p a b c h = rest p (a * b + c) _ (omega arith) (el-add p (a * b) c ∙ ap (λ x. (Z p).add x (el p c)) (el-mul p a b))

whole : (p a b : ℕ) → b ≤ p → a * (p - b) + a * b ≡ a * p
whole p a b h = sym (mul-add a (p - b) b) ∙ ap (λ (n : ℕ). a * n) (omega arith)

-- a·(p − b) is −(a·b): added to a·b it gives a·p
pub negated : (p a b : ℕ) → b ≤ p → el p (a * (p - b)) ≡ (Z p).neg ((Z p).mul (el p a) (el p b))
negated p a b h =
    cancel
    (Z p)
    _
    ((Z p).mul (el p a) (el p b))
    _
    (ap ((Z p).add (el p (a * (p - b)))) (sym (el-mul p a b))
    ∙ sym (el-add p (a * (p - b)) (a * b))
    ∙ ap (el p) (whole p a b h)
    ∙ el-mul p a p
    ∙ ap ((Z p).mul (el p a)) (el_self p ∙ sym (el-zero p))
    ∙ sym (el-mul p a 0)
    ∙ ap (el p) (omega arith)
    ∙ el-zero p)
    ((Z p).add_comm _ _ ∙ (Z p).add_neg _)

pub product-difference : (p a b c : ℕ) → a < p → b < p → Is p ((a * (p - b) + c) % p) ((Z p).add (el p c) ((Z p).neg ((Z p).mul (el p a) (el p b))))
product-difference p a b c h l =
    rest
    p
    (a * (p - b) + c)
    _
    (omega arith)
    (el-add p (a * (p - b)) c ∙ (Z p).add_comm _ _ ∙ ap ((Z p).add (el p c)) (negated p a b (omega arith)))
