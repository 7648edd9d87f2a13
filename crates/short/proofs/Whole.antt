-- A record and its short form have the same kind and the same numbers, and each is what the other gives.
--   short_of_record    the short form of an accepted record is accepted
--   short-whole        the bytes of an accepted short record are those of its kind and numbers
--   record_numbers_of  the numbers of the record for which a short record stands
use mathlib.Core.Path.{◌≡◌, sym, ap, ap₂, ◌∙◌}
use mathlib.Core.List.{List, [], ◌∷◌, ◌++◌, append-nil}
use Prim.Native.Nat.{ℕ, ◌+◌, ◌<◌, ◌≤◌}
use native.Mathlib.Omega.{arith}
use native.Mathlib.Decide.{dec_lt}
use lib.ListN.{length, get_or, drop, length-drop, get_or-eq_default}
use Rattle.field.specs.Residue.{Z, el}
use Rattle.curve.specs.Curve.{Curve}
use Rattle.divisor.specs.Kind.{Kind, code, count}
use Rattle.divisor.proofs.Codes.{basis-same}
use Rattle.layout.specs.Layout.{Bytes, number2, numbers, bytes2, record_bytes}
use Rattle.layout.proofs.Bytes.{bytes_drop}
use Rattle.layout.proofs.Read.{number2-behind, bytes2-number2, length_numbers, numbers-at}
use Rattle.layout.proofs.Record.{record_numbers}
use Rattle.packing.specs.Packing.{packed, unpacked}
use Rattle.packing.proofs.Laws.{length_unpacked, unpacked-packed, packed-unpacked}
use Rattle.record.specs.Divisor.{number_at}
use Rattle.record.proofs.Accepted.{Reads}
use Rattle.short.specs.Short.{short_code, width, body_size, short_size, short_bytes, body, short_numbers}
use Rattle.short.proofs.Accepted.{ShortReads, short_reads, short_back, short-words}

module _ (p : ℕ) (C : Curve (Z p)) (pos : 0 < p) (fits : p ≤ 4294967296) (κ : Kind) where
  -- an accepted record a
  module _ (a : List ℕ) (r : Reads p C κ a) where
    many : length (numbers a 4 (count κ)) ≡ count κ
    many = length_numbers a 4 (count κ)

    below : (i : ℕ) → get_or (numbers a 4 (count κ)) i 0 < p
    below i = go (dec_lt i (count κ))
      where
        go : Dec (i < count κ) → get_or (numbers a 4 (count κ)) i 0 < p
        go (yes l) = omega (arith, numbers-at a 4 (count κ) i l, r.below i l)
        go (no l) = omega (arith, get_or-eq_default (numbers a 4 (count κ)) 0 {n = i} (omega (arith, many)))

    pub short_of_record : ShortReads p C κ (short_bytes p κ (numbers a 4 (count κ)))
    short_of_record =
        short_reads p κ (numbers a 4 (count κ)) many below fits C
        (basis-same C (number_at p a) (λ i. el p (get_or (numbers a 4 (count κ)) i 0)) κ (λ i l. ap (el p) (sym (numbers-at a 4 (count κ) i l))) r.basis)

    pub back-numbers : short_numbers p κ (short_bytes p κ (numbers a 4 (count κ))) ≡ numbers a 4 (count κ)
    back-numbers = short_back p κ (numbers a 4 (count κ)) many below

-- four bytes and what is behind them
front : (s : List ℕ) → Bytes s → 4 ≤ length s → s ≡ bytes2 (number2 s 0) ++ bytes2 (number2 s 2) ++ drop 4 s
front [] b l = absurd (omega arith)
front (x0 ∷ []) b l = absurd (omega arith)
front (x0 ∷ x1 ∷ []) b l = absurd (omega arith)
front (x0 ∷ x1 ∷ x2 ∷ []) b l = absurd (omega arith)
front (x0 ∷ x1 ∷ x2 ∷ x3 ∷ t) b l =
    let first : bytes2 (number2 (x0 ∷ x1 ∷ x2 ∷ x3 ∷ t) 0) ≡ x0 ∷ x1 ∷ [] = bytes2-number2 x0 x1 (x2 ∷ x3 ∷ t) (b 0) (b 1) in
    let second : bytes2 (number2 (x0 ∷ x1 ∷ x2 ∷ x3 ∷ t) 2) ≡ x2 ∷ x3 ∷ [] =
    ap bytes2 (number2-behind (x0 ∷ x1 ∷ []) (x2 ∷ x3 ∷ t) 0) ∙ bytes2-number2 x2 x3 t (b 2) (b 3) in
    rw (first, second)

module _ (p : ℕ) (C : Curve (Z p)) (fits : p ≤ 4294967296) (κ : Kind) (s : List ℕ) (r : ShortReads p C κ s) where
  body-long : Bytes s → unpacked 8 (body_size p κ) (body s) ≡ drop 4 s
  body-long b =
      ap (λ (m : ℕ). unpacked 8 m (body s)) (omega (arith, r.long, length-drop 4 s)) ∙ unpacked-packed 8 (drop 4 s) (bytes_drop 4 s b)

  pub short-whole : Bytes s → s ≡ short_bytes p κ (short_numbers p κ s)
  unfolding short_bytes
  short-whole b =
      let again : packed (width p) (short_numbers p κ s) ≡ body s = packed-unpacked (width p) (count κ) (body s) r.filling in
      let rest : unpacked 8 (body_size p κ) (packed (width p) (short_numbers p κ s)) ≡ drop 4 s =
      ap (unpacked 8 (body_size p κ)) again ∙ body-long b in
      front s b (omega (arith, r.long))
      ∙ ap₂ (λ (m n : ℕ). bytes2 m ++ bytes2 n ++ drop 4 s) (r.own ∙ r.long) r.kind
      ∙ ap (λ (t : List ℕ). bytes2 (short_size p κ) ++ bytes2 (short_code κ) ++ t) (sym rest)

  pub record_numbers_of : numbers (record_bytes (code κ) (short_numbers p κ s)) 4 (count κ) ≡ short_numbers p κ s
  record_numbers_of =
      let long : length (short_numbers p κ s) ≡ count κ = length_unpacked (width p) (count κ) (body s) in
      ap₂ (λ (w : List ℕ) (c : ℕ). numbers w 4 c) (sym (append-nil (record_bytes (code κ) (short_numbers p κ s)))) (sym long)
      ∙ record_numbers (code κ) (short_numbers p κ s) [] (short-words p C fits κ s)
