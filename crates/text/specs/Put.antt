-- Bytes put into a buffer.
--   PutAt s at text r s'    the buffer s has become s': the text from place `at` on, every other byte as it was; r is the place behind the text
--   PlacedAt s at text most r s'    … in `most` bytes at most
--   Put s text s'    s has become s': the text stands behind what was put, it took its place of the free bytes, and every other byte is as it was
--   Placed s text most s'    … in `most` bytes at most
use Rattle.std.specs.Prelude.{◌≡◌, List, ◌++◌, ℕ, ◌+◌, ◌≤◌, length, take, drop}
use Rattle.text.specs.Written.{Written}

pub record PutAt (s : List ℕ) (at : ℕ) (text : List ℕ) (r : ℕ) (s' : List ℕ) : Type 0 where
  pub next : r ≡ at + length text
  pub is : s' ≡ take at s ++ text ++ drop (at + length text) s

pub record PlacedAt (s : List ℕ) (at : ℕ) (text : List ℕ) (most r : ℕ) (s' : List ℕ) : Type 0 where
  pub put : PutAt s at text r s'
  pub within : r ≤ at + most

pub record Put (s : Written) (text : List ℕ) (s' : Written) : Type 0 where
  pub is : s'.bytes ≡ s.bytes ++ text
  pub rest : s'.free ≡ drop (length text) s.free
  pub left : length s'.free + length text ≡ length s.free

pub record Placed (s : Written) (text : List ℕ) (most : ℕ) (s' : Written) : Type 0 where
  pub put : Put s text s'
  pub within : length text ≤ most
