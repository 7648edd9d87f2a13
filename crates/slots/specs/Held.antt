-- A pool of records in lent memory: slots of 40 bytes, slot m from place 40·m on, each with a record at its start.
--   slot m                 the place where slot m starts
--   at_slot s m            the record at slot m, as long as its own length field says
--   Held s p               the slots of s hold the records p
--   Copied s at t from n s'    s' is s with n bytes of t, from place `from` on, at place `at`
--   Passed s w m i j s' r  slot m is left out where m is i or j; else it is copied to slot w; r is the next slot to write
--   Closed s n i j s'      the records i and j leave a pool of n records, and the rest close up
use Rattle.std.specs.Prelude.{◌≡◌, List, ℕ, ◌+◌, ◌*◌, ◌<◌, ◌≤◌, length, get_or, take, drop}
use Rattle.layout.specs.Layout.{number2}
use Rattle.calls.specs.Call.{room}
use Rattle.calls.specs.Pool.{entry, without}

abbrev pub slot : ℕ → ℕ
slot m = 40 * m

unfoldable pub at_slot : List ℕ → ℕ → List ℕ
at_slot s m = take (number2 s (slot m)) (drop (slot m) s)

pub record Held (s : List ℕ) (p : List (List ℕ)) : Type 0 where
  pub fits : slot (length p) ≤ length s
  pub short : (m : ℕ) → m < length p → length (entry p m) ≤ room
  pub bytes : (m k : ℕ) → m < length p → k < length (entry p m) → get_or s (slot m + k) 0 ≡ get_or (entry p m) k 0

pub record Copied (s : List ℕ) (at : ℕ) (t : List ℕ) (from n : ℕ) (s' : List ℕ) : Type 0 where
  pub long : length s' ≡ length s
  pub here : (k : ℕ) → k < n → get_or s' (at + k) 0 ≡ get_or t (from + k) 0
  pub before : (k : ℕ) → k < at → get_or s' k 0 ≡ get_or s k 0
  pub after : (k : ℕ) → at + n ≤ k → get_or s' k 0 ≡ get_or s k 0

pub data Passed (s : List ℕ) (w m i j : ℕ) (s' : List ℕ) (r : ℕ) : Type 0 where
  first : m ≡ i → s' ≡ s → r ≡ w → Passed s w m i j s' r
  second : m ≡ j → s' ≡ s → r ≡ w → Passed s w m i j s' r
  other : ¬ (m ≡ i) → ¬ (m ≡ j) → Copied s (slot w) s (slot m) 40 s' → r ≡ w + 1 → Passed s w m i j s' r

abbrev pub Closed : List ℕ → ℕ → ℕ → ℕ → List ℕ → Type 0
Closed s n i j s' = (p : List (List ℕ)) → length p ≡ n → Held s p → Held s' (without i j p)
