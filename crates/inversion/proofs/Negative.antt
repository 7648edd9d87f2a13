-- Products modulo 2^32, and −1/p modulo 2^32.
--   low_fits           the product of two numbers below 2^32 fits, and the second may be 2^32
--   square-of-odd      p·p = 1 + 8·i for an odd p
--   next               p·a + 1 = f gives p·b + 1 = f² for b = a·(f + 1), modulo 2^32
--   squared            the square of a residue is the residue of the square
--   one_more           p·u + 1, from p·u
--   negative           the product of `opposite` is −1/p
use Rattle.std.proofs.Common.{◌≡◌, ℕ, zero, suc, ◌+◌, ◌-◌, ◌*◌, ◌/◌, ◌%◌, ◌<◌, [], ◌∷◌, sym, ap, ◌∙◌, ap₂, mul-le-mul, arith, w64, Fits}
use Rattle.algebra.specs.Ring.{CommRing}
use Rattle.algebra.proofs.Norm.{unit}
use Rattle.algebra.proofs.Laws.{mul-zero}
use Rattle.algebra.proofs.Solve.{solve_from, given, ◌⊞◌, ◌⊠◌, ⊟◌}
use Rattle.field.specs.Residue.{Z, el}
use Rattle.field.specs.Contract.{Is}
use Rattle.field.proofs.Element.{el-add, el-mul, el-zero, el-one, el_self, el_mod, el_mod_same}
use Rattle.inversion.specs.Contract.{Low, Odd, Opposite}

abbrev R : CommRing
R = Z 4294967296

abbrev res : ℕ → R.Car
res n = el 4294967296 n

pub low_fits : (x y : ℕ) → Low x y → Fits w64 (x * y)
low_fits x y h = omega (arith, mul-le-mul {n₁ = x} {m₁ = y} {n₂ = 4294967295} {m₂ = 4294967296} (omega arith) h.most)

triangle : (j : ℕ) → (i : ℕ) × (j * (j + 1) ≡ 2 * i)
triangle zero = (0, omega arith)
triangle (suc j) = ((triangle j).0 + suc j, omega (arith, (triangle j).1))

pub square-of-odd : (p : ℕ) → p % 2 ≡ 1 → (i : ℕ) × (p * p ≡ 1 + 8 * i)
square-of-odd p o =
    let j = p / 2 in
    let e : p ≡ 2 * j + 1 = omega arith in
    ((triangle j).0, ap₂ (λ (m n : ℕ). m * n) e e ∙ omega (arith, (triangle j).1))

plus_one : (n : ℕ) → res (n + 1) ≡ R.add (res n) R.one
plus_one n = el-add 4294967296 n 1 ∙ ap (R.add (res n)) (el-one 4294967296)

times-plus-one : (p a : ℕ) → res (p * a + 1) ≡ R.add (R.mul (res p) (res a)) R.one
times-plus-one p a = plus_one (p * a) ∙ ap (λ x. R.add x R.one) (el-mul 4294967296 p a)

next_in : (P A F B : R.Car) → R.add (R.mul P A) R.one ≡ F → B ≡ R.mul A (R.add F R.one) → R.add (R.mul P B) R.one ≡ R.mul F F
next_in P A F B h b =
    solve_from R 4 (λ P A F B. given (F ⊞ unit) (P ⊠ A ⊞ unit) F ∷ given P B (A ⊠ (F ⊞ unit)) ∷ []) (λ P A F B. P ⊠ B ⊞ unit) (λ P A F B. F ⊠ F) tt
    P A F B (h, (b, tt))

pub next : (p a f b g : ℕ) → res (p * a + 1) ≡ res f → res b ≡ R.mul (res a) (res (f + 1)) → res g ≡ R.mul (res f) (res f) → res (p * b + 1) ≡ res g
next p a f b g h e q =
    times-plus-one p b
    ∙ next_in (res p) (res a) (res f) (res b) (sym (times-plus-one p a) ∙ h) (e ∙ ap (R.mul (res a)) (plus_one f))
    ∙ sym q

pub squared : (f g n m : ℕ) → res f ≡ res n → res g ≡ R.mul (res f) (res f) → n * n ≡ m → res g ≡ res m
squared f g n m e q s = q ∙ ap₂ R.mul e e ∙ sym (el-mul 4294967296 n n) ∙ ap res s

multiple : (n : ℕ) → res (n * 4294967296) ≡ R.zero
multiple n = el-mul 4294967296 n 4294967296 ∙ ap (R.mul (res n)) (el_self 4294967296) ∙ mul-zero R (res n)

square-of-negative : (E N : R.Car) → R.add N E ≡ R.zero → R.mul E E ≡ R.mul N N
square-of-negative E N h =
    solve_from R 2 (λ E N. given (E ⊞ ⊟ N) (N ⊞ E) (unit ⊞ ⊟ unit) ∷ []) (λ E N. E ⊠ E) (λ E N. N ⊠ N) tt
    E N (h ∙ sym (R.add_neg R.one), tt)

-- with u = 2^32 − p, p·u + 1 is −8·i, and its square is 64·i²
first-square : (p i u e f : ℕ) → p < 4294967296 → u ≡ 4294967296 - p → p * p ≡ 1 + 8 * i → res (p * u + 1) ≡ res e → res f ≡ R.mul (res e) (res e) → res f ≡ res (64 * (i * i))
first-square p i u e f l d s h q =
    let total : 8 * i + (p * u + 1) ≡ p * 4294967296 = omega (arith, s, ap (λ (n : ℕ). p * n) whole) in
    let z : R.add (res (8 * i)) (res e) ≡ R.zero = ap (R.add (res (8 * i))) (sym h) ∙ sym (el-add 4294967296 (8 * i) (p * u + 1)) ∙ ap res total ∙ multiple p in
    q ∙ square-of-negative (res e) (res (8 * i)) z ∙ sym (el-mul 4294967296 (8 * i) (8 * i)) ∙ ap res (omega arith)
  where
    whole : u + p ≡ 4294967296
    whole = omega arith

-- e is p·u + 1 modulo 2^32, where d is p·u
pub one_more : (p u d : ℕ) → res d ≡ R.mul (res p) (res u) → res ((d + 1) % 4294967296) ≡ res (p * u + 1)
one_more p u d e = el_mod 4294967296 (d + 1) ∙ plus_one d ∙ ap (λ x. R.add x R.one) e ∙ sym (times-plus-one p u)

pub negative : (p u e f g h a b c v : ℕ) → Odd p → u ≡ 4294967296 - p → res e ≡ res (p * u + 1)
    → res f ≡ R.mul (res e) (res e) → res g ≡ R.mul (res f) (res f) → res h ≡ R.mul (res g) (res g)
    → res a ≡ R.mul (res u) (res (e + 1)) → res b ≡ R.mul (res a) (res (f + 1)) → res c ≡ R.mul (res b) (res (g + 1))
    → Is 4294967296 v (R.mul (res c) (res (h + 1))) → Opposite p v
negative p u e f g h a b c v o d e_is f-is g-is h-is a_is b_is c_is v_is =
    let i = (square-of-odd p o.odd).0 in
    let j = i * i in
    let k = j * j in
    let l = k * k in
    let f-square = first-square p i u e f o.below d (square-of-odd p o.odd).1 (sym e_is) f-is in
    let g-square = squared f g (64 * j) (4096 * k) f-square g-is (omega arith) in
    let h-square = squared g h (4096 * k) (16777216 * l) g-square h-is (omega arith) in
    let a-next = next p u e a f (sym e_is) a_is f-is in
    let b-next = next p a f b g a-next b_is g-is in
    let c-next = next p b g c h b-next c_is h-is in
    let m : ℕ = 16777216 * l * (16777216 * l) in
    let v_next = next p c h v m c-next v_is.is (el-mul 4294967296 _ _ ∙ ap₂ R.mul (sym h-square) (sym h-square)) in
    let none : res m ≡ R.zero = ap res (omega arith) ∙ multiple (65536 * (l * l)) in
    record { below = v_is.below; is = el_mod_same 4294967296 (p * v + 1) 0 (omega arith) (v_next ∙ none ∙ sym (el-zero 4294967296)) }
