-- Reading numbers: before and behind other bytes, and that reading undoes writing, both ways.
--   number2_append     bytes behind the number do not matter
--   number2-behind, number4-behind, numbers-behind    reading behind other bytes
--   length_numbers, numbers-at                     how many numbers are read, and each of them
--   number2-bytes2, number4-bytes4, numbers-all_bytes4    reading what was written
--   bytes2-number2, bytes4-number4, all_bytes4-numbers    writing what was read
use mathlib.Core.Path.{◌≡◌, refl, ap, ap₂, ◌∙◌}
use mathlib.Core.List.{List, [], ◌∷◌, ◌++◌}
use Prim.Native.Nat.{ℕ, zero, suc, ◌+◌, ◌*◌, ◌/◌, ◌%◌, ◌≤◌, ◌<◌}
use native.Mathlib.Nat.{add_assoc, mod-eq_of_lt, add-mul-mod_self_left, div-div-eq-div-mul}
use native.Mathlib.Omega.{arith}
use lib.ListN.{length, get_or, get_or-append}
use lib.Seq.{get_or-append-add}
use Rattle.layout.specs.Layout.{Bytes, Words, number2, number4, numbers, bytes2, bytes4, all_bytes4}

pub number2_append : (s t : List ℕ) (i : ℕ) → i + 2 ≤ length s → number2 (s ++ t) i ≡ number2 s i
unfolding number2
number2_append s t i h = cc (get_or-append s t 0 i (omega arith), get_or-append s t 0 (i + 1) (omega arith))

pub number2-behind : (s t : List ℕ) (i : ℕ) → number2 (s ++ t) (length s + i) ≡ number2 t i
unfolding number2
number2-behind s t i = simp (add_assoc, get_or-append-add)

pub number4-behind : (s t : List ℕ) (i : ℕ) → number4 (s ++ t) (length s + i) ≡ number4 t i
unfolding number4
number4-behind s t i = simp (add_assoc, get_or-append-add)

-- Two places in two strings at which the same c numbers stand.
numbers-same : (c : ℕ) (s t : List ℕ) (i j : ℕ) → ((k : ℕ) → k < c → number4 s (i + 4 * k) ≡ number4 t (j + 4 * k)) → numbers s i c ≡ numbers t j c
unfolding numbers
numbers-same zero s t i j h = refl
numbers-same (suc c) s t i j h =
    ap₂ (λ (n : ℕ) (r : List ℕ). n ∷ r)
    (ap (number4 s) (omega arith) ∙ h 0 (omega arith) ∙ ap (number4 t) (omega arith))
    (numbers-same c s t (i + 4) (j + 4) (λ k b. ap (number4 s) (omega arith) ∙ h (k + 1) (omega arith) ∙ ap (number4 t) (omega arith)))

pub numbers-behind : (s t : List ℕ) (i c : ℕ) → numbers (s ++ t) (length s + i) c ≡ numbers t i c
numbers-behind s t i c =
    numbers-same c (s ++ t) t (length s + i) i (λ k b. ap (number4 (s ++ t)) (omega arith) ∙ number4-behind s t (i + 4 * k))

pub length_numbers : (s : List ℕ) (i c : ℕ) → length (numbers s i c) ≡ c
unfolding numbers
length_numbers s i zero = refl
length_numbers s i (suc c) = ap suc (length_numbers s (i + 4) c)

pub numbers-at : (s : List ℕ) (i c k : ℕ) → k < c → get_or (numbers s i c) k 0 ≡ number4 s (i + 4 * k)
unfolding numbers
numbers-at s i zero k h = absurd (omega arith)
numbers-at s i (suc c) zero h = ap (number4 s) (omega arith)
numbers-at s i (suc c) (suc k) h = numbers-at s (i + 4) c k (omega arith) ∙ ap (number4 s) (omega arith)

pub number2-bytes2 : (n : ℕ) (rest : List ℕ) → n < 65536 → number2 (bytes2 n ++ rest) 0 ≡ n
unfolding number2 bytes2
number2-bytes2 n rest h = omega arith

pub number4-bytes4 : (n : ℕ) (rest : List ℕ) → n < 4294967296 → number4 (bytes4 n ++ rest) 0 ≡ n
unfolding number4 bytes4
number4-bytes4 n rest h =
    rw (← div-div-eq-div-mul n 256 256, ← div-div-eq-div-mul n 256 65536, ← div-div-eq-div-mul (n / 256) 256 256) (omega arith)

pub bytes2-number2 : (a b : ℕ) (rest : List ℕ) → a < 256 → b < 256 → bytes2 (number2 (a ∷ b ∷ rest) 0) ≡ a ∷ b ∷ []
unfolding number2 bytes2
bytes2-number2 a b rest ha hb =
    ap₂ (λ (x y : ℕ). x ∷ y ∷ []) (omega arith) (omega arith)

pub bytes4-number4 : (a b c d : ℕ) (rest : List ℕ) → a < 256 → b < 256 → c < 256 → d < 256
    → bytes4 (number4 (a ∷ b ∷ c ∷ d ∷ rest) 0) ≡ a ∷ b ∷ c ∷ d ∷ []
unfolding number4 bytes4
bytes4-number4 a b c d rest ha hb hc hd =
    let n : ℕ = a + 256 * b + 65536 * c + 16777216 * d in
    let q1 : n / 256 ≡ b + 256 * (c + 256 * d) = omega arith in
    let q2 : n / 65536 ≡ c + 256 * d = omega arith in
    let q3 : n / 16777216 ≡ d = omega arith in
    let r0 : n % 256 ≡ a = omega arith in
    let r1 : (b + 256 * (c + 256 * d)) % 256 ≡ b = add-mul-mod_self_left b 256 (c + 256 * d) ∙ mod-eq_of_lt hb in
    let r2 : (c + 256 * d) % 256 ≡ c = add-mul-mod_self_left c 256 d ∙ mod-eq_of_lt hc in
    let r3 : d % 256 ≡ d = mod-eq_of_lt hd in
    cc

pub numbers-all_bytes4 : (ns rest : List ℕ) → Words ns → numbers (all_bytes4 ns ++ rest) 0 (length ns) ≡ ns
unfolding numbers bytes4 all_bytes4
numbers-all_bytes4 [] rest h = refl
numbers-all_bytes4 (n ∷ ns) rest h =
    ap₂ (λ (m : ℕ) (r : List ℕ). m ∷ r)
    (number4-bytes4 n (all_bytes4 ns ++ rest) (h 0))
    (numbers-behind (bytes4 n) (all_bytes4 ns ++ rest) 0 (length ns) ∙ numbers-all_bytes4 ns rest (λ k. h (suc k)))

pub all_bytes4-numbers : (c : ℕ) (s : List ℕ) → Bytes s → length s ≡ 4 * c → all_bytes4 (numbers s 0 c) ≡ s
unfolding numbers all_bytes4
all_bytes4-numbers zero [] h e = refl
all_bytes4-numbers zero (x ∷ s) h e = absurd (omega arith)
all_bytes4-numbers (suc n) [] h e = absurd (omega arith)
all_bytes4-numbers (suc n) (a ∷ []) h e = absurd (omega arith)
all_bytes4-numbers (suc n) (a ∷ b ∷ []) h e = absurd (omega arith)
all_bytes4-numbers (suc n) (a ∷ b ∷ c ∷ []) h e = absurd (omega arith)
all_bytes4-numbers (suc n) (a ∷ b ∷ c ∷ d ∷ s) h e =
    ap₂ (λ (x y : List ℕ). x ++ y)
    (bytes4-number4 a b c d s (h 0) (h 1) (h 2) (h 3))
    (ap all_bytes4 (numbers-behind (a ∷ b ∷ c ∷ d ∷ []) s 0 n) ∙ all_bytes4-numbers n s (λ i. h (suc (suc (suc (suc i))))) (omega arith))
