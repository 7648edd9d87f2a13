-- What the readers ensure.
--   Read2 s i r    r is the two-byte number at place i of s
--   Read4 s i r    r is the four-byte number at place i of s
use Rattle.std.specs.Prelude.{◌≡◌, List, ℕ, ◌<◌}
use Rattle.layout.specs.Layout.{number2, number4}

pub record Read2 (s : List ℕ) (i r : ℕ) : Type 0 where
  pub is : r ≡ number2 s i
  pub small : r < 65536

pub record Read4 (s : List ℕ) (i r : ℕ) : Type 0 where
  pub is : r ≡ number4 s i
  pub small : r < 4294967296
