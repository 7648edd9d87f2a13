-- Records: what is read of one that was written, and that what reads as a record is one.
--   record_length, record_kind, record_numbers    the parts of a record, read back, with something after it
--   alone_length, alone-kind, alone-number        … with nothing after it
--   record_whole           bytes whose first number is their own length are a record
use mathlib.Core.Path.{◌≡◌, sym, ap, ◌∙◌}
use mathlib.Core.List.{List, [], ◌∷◌, ◌++◌, append_assoc, append-nil}
use Prim.Native.Nat.{ℕ, suc, ◌+◌, ◌*◌, ◌≤◌, ◌<◌}
use native.Mathlib.Omega.{arith}
use lib.ListN.{length, get_or}
use Rattle.layout.specs.Layout.{Bytes, Words, number2, number4, numbers, bytes2, all_bytes4, record_bytes}
use Rattle.layout.proofs.Bytes.{length_record}
use Rattle.layout.proofs.Read.{number2-bytes2, bytes2-number2, number2-behind, numbers-behind, length_numbers, numbers-at, numbers-all_bytes4, all_bytes4-numbers}

pub record_length : (kind : ℕ) (ns rest : List ℕ) → length ns ≤ 16000 → number2 (record_bytes kind ns ++ rest) 0 ≡ 4 + 4 * length ns
unfolding record_bytes
record_length kind ns rest h =
    simp append_assoc (number2-bytes2 (4 + 4 * length ns) (bytes2 kind ++ (all_bytes4 ns ++ rest)) (omega arith))

pub record_kind : (kind : ℕ) (ns rest : List ℕ) → kind < 65536 → number2 (record_bytes kind ns ++ rest) 2 ≡ kind
unfolding record_bytes bytes2
record_kind kind ns rest h = number2-behind (bytes2 (4 + 4 * length ns)) (bytes2 kind ++ all_bytes4 ns ++ rest) 0 ∙ number2-bytes2 kind (all_bytes4 ns ++ rest) h

pub record_numbers : (kind : ℕ) (ns rest : List ℕ) → Words ns → numbers (record_bytes kind ns ++ rest) 4 (length ns) ≡ ns
unfolding record_bytes bytes2
record_numbers kind ns rest h =
    numbers-behind (bytes2 (4 + 4 * length ns) ++ bytes2 kind) (all_bytes4 ns ++ rest) 0 (length ns) ∙ numbers-all_bytes4 ns rest h

module _ (kind : ℕ) (ns : List ℕ) where
  -- a record with nothing after it
  nothing_after : record_bytes kind ns ++ [] ≡ record_bytes kind ns
  nothing_after = append-nil (record_bytes kind ns)

  pub alone_length : length ns ≤ 16000 → number2 (record_bytes kind ns) 0 ≡ length (record_bytes kind ns)
  alone_length h = ap (λ (s : List ℕ). number2 s 0) (sym nothing_after) ∙ record_length kind ns [] h ∙ sym (length_record kind ns)

  pub alone-kind : kind < 65536 → number2 (record_bytes kind ns) 2 ≡ kind
  alone-kind h = ap (λ (s : List ℕ). number2 s 2) (sym nothing_after) ∙ record_kind kind ns [] h

  pub alone-number : Words ns → (i : ℕ) → i < length ns → number4 (record_bytes kind ns) (4 + 4 * i) ≡ get_or ns i 0
  alone-number w i h =
      sym (numbers-at (record_bytes kind ns) 4 (length ns) i h)
      ∙ ap (λ (s : List ℕ). get_or (numbers s 4 (length ns)) i 0) (sym nothing_after)
      ∙ ap (λ (l : List ℕ). get_or l i 0) (record_numbers kind ns [] w)

-- the four bytes before the numbers
record_front : (x0 x1 x2 x3 : ℕ) (t : List ℕ) (c : ℕ) → Bytes (x0 ∷ x1 ∷ x2 ∷ x3 ∷ t) → length t ≡ 4 * c
    → number2 (x0 ∷ x1 ∷ x2 ∷ x3 ∷ t) 0 ≡ 4 + 4 * c
    → x0 ∷ x1 ∷ x2 ∷ x3 ∷ t ≡ record_bytes (number2 (x0 ∷ x1 ∷ x2 ∷ x3 ∷ t) 2) (numbers (x0 ∷ x1 ∷ x2 ∷ x3 ∷ t) 4 c)
unfolding record_bytes
record_front x0 x1 x2 x3 t c h e l =
    let s : List ℕ = x0 ∷ x1 ∷ x2 ∷ x3 ∷ t in
    let head : bytes2 (4 + 4 * length (numbers s 4 c)) ≡ x0 ∷ x1 ∷ [] =
    ap (λ (k : ℕ). bytes2 (4 + 4 * k)) (length_numbers s 4 c) ∙ ap bytes2 (sym l) ∙ bytes2-number2 x0 x1 (x2 ∷ x3 ∷ t) (h 0) (h 1) in
    let kind : bytes2 (number2 s 2) ≡ x2 ∷ x3 ∷ [] =
    ap bytes2 (number2-behind (x0 ∷ x1 ∷ []) (x2 ∷ x3 ∷ t) 0) ∙ bytes2-number2 x2 x3 t (h 2) (h 3) in
    let body : all_bytes4 (numbers s 4 c) ≡ t =
    ap all_bytes4 (numbers-behind (x0 ∷ x1 ∷ x2 ∷ x3 ∷ []) t 0 c) ∙ all_bytes4-numbers c t (λ i. h (suc (suc (suc (suc i))))) e in
    rw (head, kind, body)

pub record_whole : (s : List ℕ) (c : ℕ) → Bytes s → length s ≡ 4 + 4 * c → number2 s 0 ≡ length s
    → s ≡ record_bytes (number2 s 2) (numbers s 4 c)
record_whole [] c h e l = absurd (omega arith)
record_whole (x0 ∷ []) c h e l = absurd (omega arith)
record_whole (x0 ∷ x1 ∷ []) c h e l = absurd (omega arith)
record_whole (x0 ∷ x1 ∷ x2 ∷ []) c h e l = absurd (omega arith)
record_whole (x0 ∷ x1 ∷ x2 ∷ x3 ∷ t) c h e l = record_front x0 x1 x2 x3 t c h (omega arith) (l ∙ e)
