-- What stores one after the other leave.
--   all_bytes4_append, all_bytes4-one    the bytes of two runs of numbers, and of one number
--   filled d at ns i    d with the first i numbers of ns written from place `at` on
--   written_behind      a length, a kind and some bytes, written one after the other
--   written             a length, a kind and numbers, written one after the other, are a record
--   filled_none, filled_more, filled_turn    the loop that writes them: before the first, after one more
use mathlib.Core.Path.{◌≡◌, refl, sym, ap, ◌∙◌}
use mathlib.Core.List.{List, [], ◌∷◌, ◌++◌, append_assoc, append-nil}
use Prim.Native.Nat.{ℕ, ◌+◌, ◌*◌, ◌≤◌, ◌<◌}
use native.Mathlib.Nat.{add-zero}
use native.Mathlib.Numerals.{add-one}
use native.Mathlib.Omega.{arith}
use lib.ListN.{length, get_or, take, drop, length-append, take-append-drop}
use lib.Seq.{take_at, drop_at, drop-drop, take-suc, length-take-le}
use Rattle.layout.specs.Layout.{bytes2, bytes4, all_bytes4, record_bytes}
use Rattle.layout.proofs.Bytes.{length_bytes2, length_all_bytes4}

pub all_bytes4_append : (ms ns : List ℕ) → all_bytes4 (ms ++ ns) ≡ all_bytes4 ms ++ all_bytes4 ns
unfolding all_bytes4
all_bytes4_append [] ns = refl
all_bytes4_append (m ∷ ms) ns = ap (λ (r : List ℕ). bytes4 m ++ r) (all_bytes4_append ms ns) ∙ sym (append_assoc (bytes4 m) (all_bytes4 ms) (all_bytes4 ns))

pub all_bytes4-one : (n : ℕ) → all_bytes4 (n ∷ []) ≡ bytes4 n
unfolding all_bytes4
all_bytes4-one n = append-nil (bytes4 n)

abbrev pub filled : List ℕ → ℕ → List ℕ → ℕ → List ℕ
filled d at ns i = take at d ++ all_bytes4 (take i ns) ++ drop (at + 4 * i) d

pub filled_none : (d : List ℕ) (at : ℕ) (ns : List ℕ) → d ≡ filled d at ns 0
unfolding all_bytes4
filled_none d at ns = sym (simp (append-nil, add-zero) (take-append-drop at d))

length_front : (d : List ℕ) (at : ℕ) (ns : List ℕ) (i : ℕ) → at + 4 * i ≤ length d → i ≤ length ns
    → length (take at d ++ all_bytes4 (take i ns)) ≡ at + 4 * i
length_front d at ns i room there =
    omega (arith, length-append (take at d) (all_bytes4 (take i ns)), length-take-le at d (omega arith), length_all_bytes4 (take i ns), length-take-le i ns there)

pub filled_more : (d : List ℕ) (at : ℕ) (ns : List ℕ) (i : ℕ) → at + 4 * i + 4 ≤ length d → i < length ns
    → take (at + 4 * i) (filled d at ns i) ++ bytes4 (get_or ns i 0) ++ drop (at + 4 * i + 4) (filled d at ns i) ≡ filled d at ns (i + 1)
filled_more d at ns i room there =
    let front : List ℕ = take at d ++ all_bytes4 (take i ns) in
    let rest : List ℕ = drop (at + 4 * i) d in
    let n : ℕ = get_or ns i 0 in
    let long : length front ≡ at + 4 * i = length_front d at ns i (omega arith) (omega arith) in
    let tail : drop (at + 4 * i + 4) (front ++ rest) ≡ drop (at + 4 * i + 4) d =
    sym (drop-drop 4 (at + 4 * i) (front ++ rest)) ∙ ap (drop 4) (drop_at front rest (at + 4 * i) long) ∙ drop-drop 4 (at + 4 * i) d in
    let one_more : all_bytes4 (take (i + 1) ns) ≡ all_bytes4 (take i ns) ++ bytes4 n =
    ap all_bytes4 (ap (λ (k : ℕ). take k ns) (add-one i) ∙ take-suc ns i 0 there) ∙ all_bytes4_append (take i ns) (n ∷ []) ∙ ap (λ (r : List ℕ). all_bytes4 (take i ns) ++ r) (all_bytes4-one n) in
    let place : at + 4 * i + 4 ≡ at + 4 * (i + 1) = omega arith in
    rw (take_at front rest (at + 4 * i) long, tail, one_more, place) (simp append_assoc)

-- a turn of the loop
pub filled_turn : (d out out' : List ℕ) (at : ℕ) (ns : List ℕ) (i : ℕ) → at + 4 * i + 4 ≤ length d → i < length ns → out ≡ filled d at ns i
    → out' ≡ take (at + 4 * i) out ++ bytes4 (get_or ns i 0) ++ drop (at + 4 * i + 4) out → out' ≡ filled d at ns (i + 1)
filled_turn d out out' at ns i room there e e' =
    e' ∙ ap (λ (r : List ℕ). take (at + 4 * i) r ++ bytes4 (get_or ns i 0) ++ drop (at + 4 * i + 4) r) e ∙ filled_more d at ns i room there

-- a length and a kind, written one after the other
written-head : (d : List ℕ) (size kind : ℕ) → 4 ≤ length d
    → take 2 (take 0 d ++ bytes2 size ++ drop 2 d) ++ bytes2 kind ++ drop 4 (take 0 d ++ bytes2 size ++ drop 2 d) ≡ bytes2 size ++ bytes2 kind ++ drop 4 d
unfolding bytes2
written-head [] size kind h = absurd (omega arith)
written-head (a ∷ []) size kind h = absurd (omega arith)
written-head (a ∷ b ∷ []) size kind h = absurd (omega arith)
written-head (a ∷ b ∷ c ∷ []) size kind h = absurd (omega arith)
written-head (a ∷ b ∷ c ∷ e ∷ d) size kind h = refl

-- the numbers, written behind a head
written-tail : (head d ns : List ℕ) (n : ℕ) → length head ≡ 4
    → take 4 (head ++ drop 4 d) ++ ns ++ drop (4 + n) (head ++ drop 4 d) ≡ head ++ ns ++ drop (4 + n) d
written-tail head d ns n h =
    let tail : drop (4 + n) (head ++ drop 4 d) ≡ drop (4 + n) d =
    sym (drop-drop n 4 (head ++ drop 4 d)) ∙ ap (drop n) (drop_at head (drop 4 d) 4 h) ∙ drop-drop n 4 d in
    rw (take_at head (drop 4 d) 4 h, tail)

-- a length, a kind and n bytes behind them, written one after the other
pub written_behind : (d d1 d2 d3 bs : List ℕ) (size kind n : ℕ) → 4 ≤ length d
    → d1 ≡ take 0 d ++ bytes2 size ++ drop 2 d
    → d2 ≡ take 2 d1 ++ bytes2 kind ++ drop 4 d1
    → d3 ≡ take 4 d2 ++ bs ++ drop (4 + n) d2
    → d3 ≡ bytes2 size ++ bytes2 kind ++ bs ++ drop (4 + n) d
written_behind d d1 d2 d3 bs size kind n room e1 e2 e3 =
    let head : List ℕ = bytes2 size ++ bytes2 kind in
    let two : d2 ≡ head ++ drop 4 d =
    e2 ∙ ap (λ (r : List ℕ). take 2 r ++ bytes2 kind ++ drop 4 r) e1 ∙ written-head d size kind room in
    let long : length head ≡ 4 = simp (length-append, length_bytes2) in
    e3 ∙ ap (λ (r : List ℕ). take 4 r ++ bs ++ drop (4 + n) r) two ∙ written-tail head d bs n long

pub written : (d d1 d2 d3 ns : List ℕ) (kind : ℕ) → 4 + 4 * length ns ≤ length d
    → d1 ≡ take 0 d ++ bytes2 (4 + 4 * length ns) ++ drop 2 d
    → d2 ≡ take 2 d1 ++ bytes2 kind ++ drop 4 d1
    → d3 ≡ take 4 d2 ++ all_bytes4 ns ++ drop (4 + 4 * length ns) d2
    → d3 ≡ record_bytes kind ns ++ drop (4 + 4 * length ns) d
unfolding record_bytes
written d d1 d2 d3 ns kind room e1 e2 e3 =
    written_behind d d1 d2 d3 (all_bytes4 ns) (4 + 4 * length ns) kind (4 * length ns) (omega arith) e1 e2 e3
