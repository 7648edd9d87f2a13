-- Document 02, 2026-03: "it shall compare a word of four bytes at a time, from the first".
--   words s           the words of four bytes of s, from the first
--   compared vs ws    "how many pairs of words are compared: up to and with the first pair that differs, or all where none does"
use Rattle.std.specs.Prelude.{cond, List, [], ◌∷◌, ℕ, ◌+◌, ◌/◌, eqb, length}
use Rattle.layout.specs.Layout.{numbers}

abbrev pub words : List ℕ → List ℕ
words s = numbers s 0 (length s / 4)

-- Where one of the lists ends no pair is left.
unfoldable pub compared : (vs ws : List ℕ) → ℕ
compared [] ws = 0
compared (v ∷ vs) [] = 0
compared (v ∷ vs) (w ∷ ws) = cond (eqb v w) (1 + compared vs ws) 1
