-- A quotient by 2^j modulo an odd p, by a multiple of p that makes the number divisible.
--   exact              n / J·J = n if n and a multiple of J make a multiple of J
--   divides            2^j divides c + m·p for m = c·v modulo 2^j
--   half half-fits     what `halved` returns, for J = 2^j, and that its product and its sum fit
--   two_halves         a quotient by 2^h and one by 2^l make one by 2^(h + l)
--   end-negative end-positive      what `ended` returns
use Rattle.std.proofs.Common.{cond, ◌≡◌, ℕ, ◌+◌, ◌-◌, ◌*◌, ◌/◌, ◌%◌, ◌^◌, ◌<◌, ◌≤◌, Bool, true, false, sym, ap, ◌∙◌, subst, mul-le-mul_right, mod-lt, div-add-mod', le_of_mul-le-mul_right, arith, pow_pos, pow_mono, pow-add, w64, Fits}
use native.Mathlib.Nat.{mul-mod_left, add-mul-mod_self_right}
use Rattle.inversion.specs.Contract.{HalfAsked, Half, End}

exact : (n a b J : ℕ) → n + a * J ≡ b * J → n / J * J ≡ n
exact n a b J e = omega (arith, div-add-mod' n J, sym (add-mul-mod_self_right n a J) ∙ ap (λ (m : ℕ). m % J) e ∙ mul-mod_left b J)

-- with p·v + 1 = t·(w·J) and c·v = g·J + m
divides : (p v c t w J g m : ℕ) → p * v + 1 ≡ t * (w * J) → g * J + m ≡ c * v → c + m * p + g * p * J ≡ c * t * w * J
divides p v c t w J g m e d = omega (arith, ap (λ (n : ℕ). c * n) e, ap (λ (n : ℕ). n * p) d)

rest-most : (J m p : ℕ) → m < J → m * p + p ≤ J * p
rest-most J m p h = omega (arith, mul-le-mul_right {m = m + 1} {n = J} p (omega arith))

half_by_power : (p v c j : ℕ) → HalfAsked p v c j → Half p c j ((c + c * v % 2 ^ j * p) / 2 ^ j)
half_by_power p v c j h =
    let J : ℕ = 2 ^ j in
    let m : ℕ = c * v % J in
    let t : ℕ = (p * v + 1) / 4294967296 in
    let w : ℕ = 2 ^ (32 - j) in
    let all : 32 - j + j ≡ 32 = omega (arith, h.bits) in
    let power : w * J ≡ 4294967296 = sym (pow-add 2 (32 - j) j) ∙ ap (λ (n : ℕ). 2 ^ n) all in
    let whole : p * v + 1 ≡ t * (w * J) = omega (arith, h.opposite.is, div-add-mod' (p * v + 1) 4294967296) ∙ ap (λ (n : ℕ). t * n) (sym power) in
    let is : (c + m * p) / J * J ≡ c + m * p = exact (c + m * p) (c * v / J * p) (c * t * w) J (divides p v c t w J (c * v / J) m whole (div-add-mod' (c * v) J)) in
    record {
      most = le_of_mul-le-mul_right {m = (c + m * p) / J} {n = p} {k = J} (omega (arith, is, h.most, rest-most J m p (mod-lt (c * v) (pow_pos j)))) (pow_pos j);
      is = (m, is);
    }

pub half : (p v c j J : ℕ) → J ≡ 2 ^ j → HalfAsked p v c j → Half p c j ((c + c * v % J * p) / 2 ^ j)
half p v c j J e h = subst (λ (n : ℕ). Half p c j ((c + c * v % n * p) / 2 ^ j)) (sym e) (half_by_power p v c j h)

pub half-fits : (p v c j J : ℕ) → J ≡ 2 ^ j → HalfAsked p v c j → Fits w64 (c + c * v % J * p)
half-fits p v c j J e h =
    let m : ℕ = c * v % J in
    let small : m < 4294967296 = omega (arith, e, mod-lt (c * v) {m = J} (omega (arith, e, pow_pos j)), pow_mono {i = j} {j = 32} h.bits) in
    omega (arith, h.most, h.below, rest-most 4294967296 m p small)

pub two_halves : (p c h l s r k : ℕ) → Half p c h s → Half p s l r → h + l ≡ k → Half p c k r
two_halves p c h l s r k x y e =
    let H : ℕ = 2 ^ h in
    let m : ℕ = x.is.0 + y.is.0 * H in
    record {
      most = y.most;
      is = (m, ap (λ (n : ℕ). r * n) (ap (λ (n : ℕ). 2 ^ n) (sym e) ∙ pow-add 2 h l) ∙ omega (arith, x.is.1, ap (λ (n : ℕ). n * H) y.is.1));
    }

module _ {p c k q : ℕ} {n : Bool} (h : Half p c k q) where
  pub end-negative : n ≡ true → End p c k n (p - q)
  end-negative e = record { half = (q, h, ap (λ (b : Bool). cond b (p - q) q) (sym e)) }

  pub end-positive : n ≡ false → End p c k n q
  end-positive e = record { half = (q, h, ap (λ (b : Bool). cond b (p - q) q) (sym e)) }
