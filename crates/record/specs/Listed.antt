-- Lists of divisor records in bytes. Document 01: "A list is divisor records one after another, at most 32,768 bytes. An empty list is
-- accepted. Each record is read as its own part of the list, from wherever it starts."
--   joined rs            the bytes of the records rs, one after another
--   next_stages p C s    what is checked of the record that starts at s, with s the bytes left: 6 for 1 to 3 left, for a length field under
--                        4 or above the bytes left; then what is checked of a divisor, of the part that the length field gives
--   AllAccepted p C rs   the records rs are accepted
--   Listed p C s rs      the list s is the accepted records rs one after another
--   ListRefused p C s n  some accepted records, and then one that is refused with n
--   list_stage p C s     the stage of a list: its records from first to last
--   list_limit           the most bytes of a list
use Rattle.std.specs.Prelude.{◌≡◌, List, [], ◌∷◌, ◌++◌, ℕ, ◌<◌, ◌≤◌, length, take}
use Rattle.field.specs.Residue.{Z}
use Rattle.curve.specs.Curve.{Curve}
use Rattle.layout.specs.Layout.{number2}
use Rattle.record.specs.Cause.{Stage, must, FirstCause}
use Rattle.record.specs.Divisor.{divisor_stages, AcceptedDivisor}

abbrev pub list_limit : ℕ
list_limit = 32768

abbrev pub joined : List (List ℕ) → List ℕ
joined [] = []
joined (r ∷ rs) = r ++ joined rs

module _ (p : ℕ) (C : Curve (Z p)) where
  abbrev pub next_stages : List ℕ → List Stage
  next_stages s =
      must 6 (4 ≤ length s)
      ∷ must 6 ((4 ≤ number2 s 0) × (number2 s 0 ≤ length s))
      ∷ divisor_stages p C (take (number2 s 0) s)

  abbrev pub AllAccepted : List (List ℕ) → Type 0
  AllAccepted [] = Unit
  AllAccepted (r ∷ rs) = AcceptedDivisor p C r × AllAccepted rs

  pub record Listed (s : List ℕ) (rs : List (List ℕ)) : Type 0 where
    pub is : s ≡ joined rs
    pub accepted : AllAccepted rs

  pub record ListRefused (s : List ℕ) (n : ℕ) : Type 0 where
    pub before : List (List ℕ)
    pub left : List ℕ
    pub split : s ≡ joined before ++ left
    pub accepted : AllAccepted before
    pub some_left : 0 < length left
    pub cause : FirstCause (next_stages left) n

  abbrev pub list_stage : List ℕ → Stage
  list_stage s = record { refused = ListRefused s; passed = (rs : List (List ℕ)) × Listed s rs }
