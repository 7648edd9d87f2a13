-- The bytes of numbers: how many there are, and that they are bytes.
--   length_bytes2, length_bytes4, length_all_bytes4, length_record    how many
--   bytes-nil, bytes-cons, bytes_append, bytes_take, bytes_drop, bytes-bytes2, bytes-bytes4, bytes-all_bytes4, bytes_record    all below 256
use mathlib.Core.Path.{◌≡◌, refl}
use mathlib.Core.List.{List, [], ◌∷◌, ◌++◌}
use Prim.Native.Nat.{ℕ, zero, suc, ◌+◌, ◌*◌, ◌<◌}
use native.Mathlib.Omega.{arith}
use lib.ListN.{length, take, drop, length-append}
use lib.Seq.{get_or-drop}
use Rattle.layout.specs.Layout.{Bytes, bytes2, bytes4, all_bytes4, record_bytes}

pub length_bytes2 : (n : ℕ) → length (bytes2 n) ≡ 2
unfolding bytes2
length_bytes2 n = refl

pub length_bytes4 : (n : ℕ) → length (bytes4 n) ≡ 4
unfolding bytes4
length_bytes4 n = refl

pub length_all_bytes4 : (ns : List ℕ) → length (all_bytes4 ns) ≡ 4 * length ns
unfolding all_bytes4
length_all_bytes4 [] = refl
length_all_bytes4 (n ∷ ns) = omega (arith, length-append (bytes4 n) (all_bytes4 ns), length_bytes4 n, length_all_bytes4 ns)

pub length_record : (kind : ℕ) (ns : List ℕ) → length (record_bytes kind ns) ≡ 4 + 4 * length ns
unfolding record_bytes
length_record kind ns =
    simp (length-append, length_bytes2, length_all_bytes4) (omega arith)

pub bytes-cons : (a : ℕ) (s : List ℕ) → a < 256 → Bytes s → Bytes (a ∷ s)
bytes-cons a s h hs zero = h
bytes-cons a s h hs (suc i) = hs i

pub bytes-nil : Bytes []
bytes-nil i = omega arith

pub bytes_append : (s t : List ℕ) → Bytes s → Bytes t → Bytes (s ++ t)
bytes_append [] t hs ht = ht
bytes_append (a ∷ s) t hs ht = bytes-cons a (s ++ t) (hs zero) (bytes_append s t (λ i. hs (suc i)) ht)

pub bytes_drop : (a : ℕ) (s : List ℕ) → Bytes s → Bytes (drop a s)
bytes_drop a s h i = rw get_or-drop (h (a + i))

pub bytes_take : (n : ℕ) (s : List ℕ) → Bytes s → Bytes (take n s)
bytes_take zero s h = bytes-nil
bytes_take (suc n) [] h = bytes-nil
bytes_take (suc n) (a ∷ s) h = bytes-cons a (take n s) (h 0) (bytes_take n s (λ i. h (suc i)))

pub bytes-bytes2 : (n : ℕ) → Bytes (bytes2 n)
unfolding bytes2
bytes-bytes2 n zero = omega arith
bytes-bytes2 n (suc zero) = omega arith
bytes-bytes2 n (suc (suc i)) = omega arith

pub bytes-bytes4 : (n : ℕ) → Bytes (bytes4 n)
unfolding bytes4
bytes-bytes4 n zero = omega arith
bytes-bytes4 n (suc zero) = omega arith
bytes-bytes4 n (suc (suc zero)) = omega arith
bytes-bytes4 n (suc (suc (suc zero))) = omega arith
bytes-bytes4 n (suc (suc (suc (suc i)))) = omega arith

pub bytes-all_bytes4 : (ns : List ℕ) → Bytes (all_bytes4 ns)
unfolding all_bytes4
bytes-all_bytes4 [] = bytes-nil
bytes-all_bytes4 (n ∷ ns) = bytes_append (bytes4 n) (all_bytes4 ns) (bytes-bytes4 n) (bytes-all_bytes4 ns)

pub bytes_record : (kind : ℕ) (ns : List ℕ) → Bytes (record_bytes kind ns)
unfolding record_bytes
bytes_record kind ns =
    bytes_append (bytes2 (4 + 4 * length ns) ++ bytes2 kind) (all_bytes4 ns)
    (bytes_append (bytes2 (4 + 4 * length ns)) (bytes2 kind) (bytes-bytes2 (4 + 4 * length ns)) (bytes-bytes2 kind))
    (bytes-all_bytes4 ns)
