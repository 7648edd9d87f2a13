-- What the maker of a divider requires.
--   DividerAsked p         p is at least 2 and below 2^32
use Rattle.std.specs.Prelude.{ℕ, ◌≤◌, ◌<◌}

pub record DividerAsked (p : ℕ) : Type 0 where
  pub least : 2 ≤ p
  pub below : p < 4294967296
