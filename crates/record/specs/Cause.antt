-- Document 01, "Causes of refusal": "The first cause met decides, and a refusal is given for its cause only." What a call checks is a list
-- of stages in document 01's order.
--   Stage              refused n: it refuses with the number n; passed: it does not refuse
--   must n A           the stage that refuses with n unless A holds
--   FirstCause ss n    n is the number of the first stage of ss that refuses: all stages before it are passed
--   Passes ss          every stage of ss is passed
--   Sized s            the bytes are four or more, and the length field is theirs
use Rattle.std.specs.Prelude.{◌≡◌, ◌⊎◌, List, [], ◌∷◌, ℕ, ◌≤◌, length}
use Rattle.layout.specs.Layout.{number2}

pub record Stage : Type 1 where
  pub refused : ℕ → Type 0
  pub passed : Type 0

abbrev pub must : ℕ → Type 0 → Stage
must n A = record { refused = λ m. (¬ A) × (m ≡ n); passed = A }

abbrev pub FirstCause : List Stage → ℕ → Type 0
FirstCause [] n = ⊥
FirstCause (s ∷ ss) n = s.refused n ⊎ (s.passed × FirstCause ss n)

abbrev pub Passes : List Stage → Type 0
Passes [] = Unit
Passes (s ∷ ss) = s.passed × Passes ss

-- four bytes or more, with the length field like the bytes given; otherwise: "bytes under 4, length field unlike the bytes given"
abbrev pub Sized : List ℕ → Type 0
Sized s = (4 ≤ length s) × (number2 s 0 ≡ length s)
