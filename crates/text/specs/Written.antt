-- What a contract sees of a text in a lent buffer.
--   Written          the bytes that are put, and the free bytes of the buffer behind them, as they are
use Rattle.std.specs.Prelude.{List, ℕ}

pub record Written : Type 0 where
  pub bytes : List ℕ
  pub free : List ℕ
