-- Laws of packed numbers, for every width w.
--   pow_step           2^(w·(c + 1)) is 2^w · 2^(w·c)
--   window             w bits from bit k on, of the lowest c bits
--   length_unpacked, unpacked-at, unpacked-below     how many numbers are unpacked, each of them, and that they are below 2^w
--   packed-below       packed numbers below 2^w are below 2^(w·c), c being how many they are
--   packed_drop        the numbers behind the first k
--   packed_take        one number more
--   unpacked-packed    packed and unpacked again, numbers below 2^w are the same
--   packed-unpacked    unpacked and packed again, a number below 2^(w·c) is the same
--   unpacked-add       j numbers, and then k
--   unpacked-low       what stands behind the first j numbers does not matter to them
use mathlib.Core.Path.{◌≡◌, refl, sym, ap, ap₂, ◌∙◌}
use mathlib.Core.List.{List, [], ◌∷◌, ◌++◌}
use Prim.Native.Nat.{ℕ, zero, suc, ◌+◌, ◌-◌, ◌*◌, ◌/◌, ◌%◌, ◌^◌, ◌<◌, ◌≤◌}
use native.Mathlib.Nat.{mod-lt, mod-eq_of_lt, div-one, zero-div, mod-add-div, div-lt_iff_lt-mul, div-div-eq-div-mul, div-eq_of_lt, add-mul-div_left, add-mul-mod_self_left, mul-le-mul_left, mul-zero, zero-add, suc-add}
use native.Mathlib.Omega.{arith}
use lib.ListN.{length, get_or, take, drop}
use lib.Pow.{pow_pos, pow-add, field, mod-mod-pow}
use Rattle.packing.specs.Packing.{packed, unpacked}

pub pow_step : (w c : ℕ) → 2 ^ (w * suc c) ≡ 2 ^ w * 2 ^ (w * c)
pow_step w c = ap (λ (e : ℕ). 2 ^ e) (omega arith) ∙ pow-add 2 w (w * c)

pub window : (n c k w : ℕ) → k + w ≤ c → n % 2 ^ c / 2 ^ k % 2 ^ w ≡ n / 2 ^ k % 2 ^ w
window n c k w h =
    let d : ℕ = c - (k + w) in
    let e : c ≡ d + w + k = omega arith in
    ap (λ (j : ℕ). n % 2 ^ j / 2 ^ k % 2 ^ w) e ∙ ap (λ (m : ℕ). m % 2 ^ w) (field n (d + w) k) ∙ mod-mod-pow (n / 2 ^ k) d w

-- a number behind a number of w bits, and that one
behind : (w n m : ℕ) → n < 2 ^ w → (n + 2 ^ w * m) / 2 ^ w ≡ m
behind w n m h = add-mul-div_left n m (pow_pos w) ∙ ap (λ (k : ℕ). k + m) (div-eq_of_lt h) ∙ zero-add m

front : (w n m : ℕ) → n < 2 ^ w → (n + 2 ^ w * m) % 2 ^ w ≡ n
front w n m h = add-mul-mod_self_left n (2 ^ w) m ∙ mod-eq_of_lt h

div_step : (w i n : ℕ) → n / 2 ^ w / 2 ^ (w * i) ≡ n / 2 ^ (w * suc i)
div_step w i n = div-div-eq-div-mul n (2 ^ w) (2 ^ (w * i)) ∙ ap (λ (k : ℕ). n / k) (sym (pow_step w i))

div_none : (w n : ℕ) → n / 2 ^ (w * 0) ≡ n
div_none w n = ap (λ (k : ℕ). n / 2 ^ k) (mul-zero w) ∙ div-one n

pub length_unpacked : (w c n : ℕ) → length (unpacked w c n) ≡ c
unfolding unpacked
length_unpacked w zero n = refl
length_unpacked w (suc c) n = ap suc (length_unpacked w c (n / 2 ^ w))

pub unpacked-at : (w c n i : ℕ) → i < c → get_or (unpacked w c n) i 0 ≡ n / 2 ^ (w * i) % 2 ^ w
unfolding unpacked
unpacked-at w zero n i h = absurd (omega arith)
unpacked-at w (suc c) n zero h = ap (λ (k : ℕ). k % 2 ^ w) (sym (div_none w n))
unpacked-at w (suc c) n (suc i) h = unpacked-at w c (n / 2 ^ w) i (omega arith) ∙ ap (λ (k : ℕ). k % 2 ^ w) (div_step w i n)

pub unpacked-below : (w c n i : ℕ) → get_or (unpacked w c n) i 0 < 2 ^ w
unfolding unpacked
unpacked-below w zero n i = pow_pos w
unpacked-below w (suc c) n zero = mod-lt n (pow_pos w)
unpacked-below w (suc c) n (suc i) = unpacked-below w c (n / 2 ^ w) i

-- one number before packed ones
below_step : (w n m b : ℕ) → n < 2 ^ w → m < b → n + 2 ^ w * m < 2 ^ w * b
below_step w n m b h l = omega (arith, mul-le-mul_left {m = suc m} {n = b} (2 ^ w) l)

pub packed-below : (w : ℕ) (ns : List ℕ) → ((i : ℕ) → get_or ns i 0 < 2 ^ w) → packed w ns < 2 ^ (w * length ns)
unfolding packed
packed-below w [] h = pow_pos (w * 0)
packed-below w (n ∷ ns) h =
    rw (pow_step w (length ns)) (below_step w n (packed w ns) (2 ^ (w * length ns)) (h 0) (packed-below w ns (λ i. h (suc i))))

pub packed_drop : (w k : ℕ) (ns : List ℕ) → ((i : ℕ) → get_or ns i 0 < 2 ^ w) → packed w (drop k ns) ≡ packed w ns / 2 ^ (w * k)
unfolding packed
packed_drop w zero ns h = sym (div_none w (packed w ns))
packed_drop w (suc k) [] h = sym (zero-div (2 ^ (w * suc k)))
packed_drop w (suc k) (n ∷ ns) h =
    packed_drop w k ns (λ i. h (suc i))
    ∙ ap (λ (m : ℕ). m / 2 ^ (w * k)) (sym (behind w n (packed w ns) (h 0)))
    ∙ div_step w k (n + 2 ^ w * packed w ns)

take_step : (w i n m x : ℕ) → n + 2 ^ w * (m + x * 2 ^ (w * i)) ≡ n + 2 ^ w * m + x * 2 ^ (w * suc i)
take_step w i n m x = omega (arith, ap (λ (k : ℕ). x * k) (pow_step w i))

pub packed_take : (w i : ℕ) (ns : List ℕ) → i < length ns → packed w (take (suc i) ns) ≡ packed w (take i ns) + get_or ns i 0 * 2 ^ (w * i)
unfolding packed
packed_take w i [] h = absurd (omega arith)
packed_take w zero (n ∷ ns) h = omega (arith, ap (λ (k : ℕ). n * 2 ^ k) (mul-zero w))
packed_take w (suc i) (n ∷ ns) h =
    ap (λ (m : ℕ). n + 2 ^ w * m) (packed_take w i ns (omega arith)) ∙ take_step w i n (packed w (take i ns)) (get_or ns i 0)

pub unpacked-packed : (w : ℕ) (ns : List ℕ) → ((i : ℕ) → get_or ns i 0 < 2 ^ w) → unpacked w (length ns) (packed w ns) ≡ ns
unfolding packed unpacked
unpacked-packed w [] h = refl
unpacked-packed w (n ∷ ns) h =
    ap₂ (λ (m : ℕ) (r : List ℕ). m ∷ r)
    (front w n (packed w ns) (h 0))
    (ap (unpacked w (length ns)) (behind w n (packed w ns) (h 0)) ∙ unpacked-packed w ns (λ i. h (suc i)))

-- n below 2^(w·(c + 1)) has c numbers behind its first
rest_below : (w c n : ℕ) → n < 2 ^ (w * suc c) → n / 2 ^ w < 2 ^ (w * c)
rest_below w c n h = (div-lt_iff_lt-mul (pow_pos w)).1 (omega (arith, pow_step w c))

pub packed-unpacked : (w c n : ℕ) → n < 2 ^ (w * c) → packed w (unpacked w c n) ≡ n
unfolding packed unpacked
packed-unpacked w zero n h = omega (arith, ap (λ (k : ℕ). 2 ^ k) (mul-zero w))
packed-unpacked w (suc c) n h =
    ap (λ (m : ℕ). n % 2 ^ w + 2 ^ w * m) (packed-unpacked w c (n / 2 ^ w) (rest_below w c n h)) ∙ mod-add-div n (2 ^ w)

pub unpacked-add : (w j k n : ℕ) → unpacked w (j + k) n ≡ unpacked w j n ++ unpacked w k (n / 2 ^ (w * j))
unfolding unpacked
unpacked-add w zero k n = ap (λ (j : ℕ). unpacked w j n) (zero-add k) ∙ ap (unpacked w k) (sym (div_none w n))
unpacked-add w (suc j) k n =
    ap (λ (i : ℕ). unpacked w i n) (suc-add j k)
    ∙ ap (λ (r : List ℕ). n % 2 ^ w ∷ r) (unpacked-add w j k (n / 2 ^ w) ∙ ap (λ (m : ℕ). unpacked w j (n / 2 ^ w) ++ unpacked w k m) (div_step w j n))

-- what stands behind j + 1 numbers stands behind the first, too
low_step : (w j n m : ℕ) → n + m * 2 ^ (w * suc j) ≡ n + 2 ^ w * (m * 2 ^ (w * j))
low_step w j n m = omega (arith, ap (λ (k : ℕ). m * k) (pow_step w j))

pub unpacked-low : (w j n m : ℕ) → unpacked w j (n + m * 2 ^ (w * j)) ≡ unpacked w j n
unfolding unpacked
unpacked-low w zero n m = refl
unpacked-low w (suc j) n m =
    ap (unpacked w (suc j)) (low_step w j n m)
    ∙ ap₂ (λ (k : ℕ) (r : List ℕ). k ∷ r)
    (add-mul-mod_self_left n (2 ^ w) (m * 2 ^ (w * j)))
    (ap (unpacked w j) (add-mul-div_left n (m * 2 ^ (w * j)) (pow_pos w)) ∙ unpacked-low w j (n / 2 ^ w) m)
