-- Numbers as an i32.
--   pos_number             a small number is the same as an i32
--   kept                   a result that is stored is read again
use mathlib.Core.Path.{◌≡◌}
use Prim.Native.Nat.{ℕ, ◌<◌, ◌^◌}
use native.Mathlib.Omega.{arith}
use lib.IntN.{ℤ, pos}
use lib.Signed.{mag}
use mir.Syntax.{w32}
use mir.Val.{to_z, of_z, hbits}
use mir.Facts.{to_z_pos, to_z-of_z}

pub pos_number : (n : ℕ) → n < 65536 → to_z w32 n ≡ pos n
pos_number n h = to_z_pos w32 (omega arith)

pub kept : (z : ℤ) → mag z < 2 ^ hbits w32 → to_z w32 (of_z w32 z) ≡ z
kept z f = to_z-of_z {w = w32} {z = z} (record { sfits = f })
