-- Numbers modulo m: the numbers below m, their sums, products and negatives.
--   fin m pos n            the residue of n, for 0 < m
--   plus, times, minus     the operations on residues
use Prim.Native.Nat.{ℕ, ◌+◌, ◌*◌, ◌-◌, ◌%◌, ◌<◌, Fin}
use Rattle.std.proofs.Common.{mod-lt}

module _ (m : ℕ) (pos : 0 < m) where
  unfoldable pub fin : ℕ → Fin m
  fin n = (n % m, mod-lt n {m = m} pos)

  abbrev pub plus : Fin m → Fin m → Fin m
  plus x y = fin (x.0 + y.0)

  abbrev pub times : Fin m → Fin m → Fin m
  times x y = fin (x.0 * y.0)

  abbrev pub minus : Fin m → Fin m
  minus x = fin (m - x.0)
