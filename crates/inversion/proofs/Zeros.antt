-- What the count of trailing zeros of a number tells.
--   Part z n           n is an odd number times 2^z
--   trailing           a number that is not 0 is an odd number times 2 to its trailing zeros
--   part-below         z is below 64 if n is below 2^64
--   part-other         2^64 − n has the same zeros as n
--   part-quotient part-times part-odd    n / 2^z is the odd number
use Rattle.std.proofs.Common.{◌≡◌, ℕ, zero, suc, ◌+◌, ◌-◌, ◌*◌, ◌/◌, ◌%◌, ◌^◌, ◌<◌, ◌≤◌, sym, refl, ap, ◌∙◌, subst, mul-le-mul_right, lt_of_mul-lt-mul_right, pow-suc, lt_of_not-le, arith, pow_mono, pow-add}
use lib.Count.{count_trailing_zeros, under}
use lib.Pow.{shl-shr}

pub record Part (z n : ℕ) : Type 0 where
  pub odd : ℕ
  pub is_odd : odd % 2 ≡ 1
  pub is : odd * 2 ^ z ≡ n

double : (m t n : ℕ) → n % 2 ≡ 0 → m * t ≡ n / 2 → m * (t * 2) ≡ n
double m t n e h = omega arith

pub trailing : (d n : ℕ) → 0 < n → n < 2 ^ d → Part (count_trailing_zeros d n) n
unfolding count_trailing_zeros
trailing zero n h l = absurd (none n h l)
  where
    none : (n : ℕ) → 0 < n → n < 1 → ⊥
    none n h l = omega arith
trailing (suc d) n h l = go (n % 2) refl (λ e. trailing d (n / 2) (half_pos n h e) (half-less n (2 ^ d) (subst (λ (m : ℕ). n < m) (pow-suc 2 d) l)))
  where
    half_pos : (n : ℕ) → 0 < n → n % 2 ≡ 0 → 0 < n / 2
    half_pos n h e = omega arith

    half-less : (n t : ℕ) → n < t * 2 → n / 2 < t
    half-less n t l = omega arith

    is_one : (n r : ℕ) → n % 2 ≡ suc r → n % 2 ≡ 1
    is_one n r e = omega arith

    once : (n : ℕ) → n * 1 ≡ n
    once n = omega arith

    go : (r : ℕ) → n % 2 ≡ r → (n % 2 ≡ 0 → Part (count_trailing_zeros d (n / 2)) (n / 2)) → Part (under r (count_trailing_zeros d (n / 2))) n
    go zero e rest =
        let x = rest e in
        let t = count_trailing_zeros d (n / 2) in
        record { odd = x.odd; is_odd = x.is_odd; is = ap (λ (m : ℕ). x.odd * m) (pow-suc 2 t) ∙ double x.odd (2 ^ t) n e x.is }
    go (suc r) e rest = record { odd = n; is_odd = is_one n r e; is = once n }

pub part-below : (z n : ℕ) → Part z n → n < 2 ^ 64 → z < 64
part-below z n x l = lt_of_not-le (λ (h : 64 ≤ z). too_much x.odd (2 ^ z) x.is_odd (pow_mono {i = 64} {j = z} h) x.is)
  where
    too_much : (m t : ℕ) → m % 2 ≡ 1 → 2 ^ 64 ≤ t → m * t ≡ n → ⊥
    too_much m t o h e = omega (arith, l, mul-le-mul_right {m = 1} {n = m} t (omega arith))

-- with t = 2^z and 2·u·t = 2^64
other : (m t u n d : ℕ) → m % 2 ≡ 1 → m * t ≡ n → 0 < d → n + d ≡ u * 2 * t → (u * 2 - m) % 2 ≡ 1 × ((u * 2 - m) * t ≡ d)
other m t u n d o e h s =
    let less : m < u * 2 = lt_of_mul-lt-mul_right t {m = m} {n = u * 2} (omega arith) in
    let sum : (u * 2 - m) + m ≡ u * 2 = omega arith in
    (omega arith, omega (arith, ap (λ (k : ℕ). k * t) sum))

pub part-other : (z n d : ℕ) → Part z n → 0 < d → n + d ≡ 2 ^ 64 → Part z d
part-other z n d x h s =
    let b = part-below z n x (omega arith) in
    let u : ℕ = 2 ^ (63 - z) in
    let all : suc (63 - z) + z ≡ 64 = omega arith in
    let power : u * 2 * 2 ^ z ≡ 2 ^ 64 =
    ap (λ (k : ℕ). k * 2 ^ z) (sym (pow-suc 2 (63 - z))) ∙ sym (pow-add 2 (suc (63 - z)) z) ∙ ap (λ (k : ℕ). 2 ^ k) all in
    let y = other x.odd (2 ^ z) u n d x.is_odd x.is h (s ∙ sym power) in
    record { odd = u * 2 - x.odd; is_odd = y.0; is = y.1 }

pub part-quotient : (z n : ℕ) (x : Part z n) → n / 2 ^ z ≡ x.odd
part-quotient z n x = ap (λ (m : ℕ). m / 2 ^ z) (sym x.is) ∙ shl-shr x.odd z

pub part-times : (z n : ℕ) → Part z n → n / 2 ^ z * 2 ^ z ≡ n
part-times z n x = ap (λ (m : ℕ). m * 2 ^ z) (part-quotient z n x) ∙ x.is

pub part-odd : (z n : ℕ) → Part z n → n / 2 ^ z % 2 ≡ 1
part-odd z n x = ap (λ (m : ℕ). m % 2) (part-quotient z n x) ∙ x.is_odd
