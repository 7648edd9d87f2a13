-- The record of a divisor by value.
--   bytes_of κ r       the bytes of the record of kind κ with the numbers of r
use Rattle.std.specs.Prelude.{List, ℕ, take}
use Rattle.divisor.specs.Kind.{Kind, code, count}
use Rattle.basis.specs.Divisor.{numbers_of}
use Rattle.basis.specs.declared.Divisor.{Divisor}
use Rattle.layout.specs.Layout.{record_bytes}

unfoldable pub bytes_of : Kind → Divisor → List ℕ
bytes_of κ r = record_bytes (code κ) (take (count κ) (numbers_of r))
