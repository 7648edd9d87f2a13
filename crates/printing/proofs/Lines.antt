-- Lines as they are put piece by piece.
--   lines_tallied    the report by the tallies
--   spaced-more      the numbers of a record behind spaces: one number more
use mathlib.Core.Path.{◌≡◌, refl, sym, ap, ◌∙◌}
use mathlib.Core.List.{List, [], ◌∷◌, ◌++◌, append_assoc, append-nil}
use Prim.Native.Nat.{ℕ, zero, suc, ◌+◌, ◌*◌}
use native.Mathlib.Numerals.{add-one}
use native.Mathlib.Omega.{arith}
use Rattle.text.specs.Ascii.{ascii}
use Rattle.text.specs.Decimal.{decimal}
use Rattle.layout.specs.Layout.{number4, numbers}
use Rattle.report.specs.Report.{count_lines, share_line, spaced, sum_line, lines}
use Rattle.tallies.specs.declared.Tallies.{Tallies}
use Rattle.tallies.specs.Tallied.{TalliesOf}

numbers_more : (s : List ℕ) (i c : ℕ) → numbers s i (suc c) ≡ numbers s i c ++ (number4 s (i + 4 * c) ∷ [])
unfolding numbers
numbers_more s i zero = ap (λ (j : ℕ). number4 s j ∷ []) (omega arith)
numbers_more s i (suc c) =
    ap (λ (ns : List ℕ). number4 s i ∷ ns) (numbers_more s (i + 4) c ∙ ap (λ (j : ℕ). numbers s (i + 4) c ++ (number4 s j ∷ [])) (omega arith))

spaced_last : (ns : List ℕ) (n : ℕ) → spaced (ns ++ (n ∷ [])) ≡ spaced ns ++ (ascii " " ++ decimal n)
unfolding spaced
spaced_last [] n = append-nil (ascii " " ++ decimal n)
spaced_last (m ∷ ns) n =
    ap (λ (t : List ℕ). ascii " " ++ decimal m ++ t) (spaced_last ns n)
    ∙ sym (append_assoc (ascii " " ++ decimal m) (spaced ns) (ascii " " ++ decimal n))

pub spaced-more : (w : List ℕ) (i n : ℕ) → n ≡ number4 w (4 + 4 * i)
    → spaced (numbers w 4 (i + 1)) ≡ spaced (numbers w 4 i) ++ (ascii " " ++ decimal n)
spaced-more w i n e =
    ap (λ (k : ℕ). spaced (numbers w 4 k)) (add-one i)
    ∙ ap spaced (numbers_more w 4 i ∙ ap (λ (m : ℕ). numbers w 4 i ++ (m ∷ [])) (sym e))
    ∙ spaced_last (numbers w 4 i) n

-- the report by the tallies
pub lines_tallied : (rs : List (List ℕ)) (w : List ℕ) (t : Tallies) → TalliesOf rs t
    → count_lines t.n0 t.n11 t.n21 t.n22 t.n31 ++ share_line t.typical t.total ++ sum_line w ≡ lines rs w
unfolding lines
lines_tallied rs w t h =
    rw (h.is_0, h.is_11, h.is_21, h.is_22, h.is_31, h.is_typical, h.is_total) refl
