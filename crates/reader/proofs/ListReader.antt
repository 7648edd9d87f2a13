-- Reading a list record by record.
--   next-inside        the record that is read lies inside the bytes left
use mathlib.Core.List.{List}
use Prim.Native.Nat.{ℕ, ◌≤◌}
use native.Mathlib.Omega.{arith}
use Rattle.std.specs.Prelude.{Ok}
use lib.ListN.{length}
use Rattle.field.specs.Residue.{Z}
use Rattle.curve.specs.Curve.{Curve}
use Rattle.basis.specs.declared.Divisor.{Divisor}
use Rattle.reader.specs.Reading.{NextRead}

pub next-inside : (p : ℕ) (C : Curve (Z p)) (s : List ℕ) (r : Divisor) (n : ℕ) → NextRead p C s (Ok (r, n)) → (4 ≤ n) × (n ≤ length s)
next-inside p C s r n h = (omega (arith, h.0.1.0.0, h.1), omega (arith, h.0.1.0.1, h.1))
