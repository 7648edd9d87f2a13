-- The ring of residues modulo p, for every p, and the residue of a number.
--   Zmod m pos         the ring of the numbers below m, with sums and products modulo m, for 0 < m
--   order p            p where p is not zero, and 1 otherwise; it is positive (order_pos)
--   Z p                Zmod (order p)
--   el p n             the residue of n modulo p
--   num p x            the number below p that x is the residue of
-- Z and el stay shut: reason by the laws of the ring and those of proofs/Element.
use mathlib.Core.HLevel.{hedberg}
use Prim.Native.Nat.{ℕ, suc, pred, ◌<◌, Fin}
use Rattle.std.proofs.Math.Decide.{Fin-discrete}
use Rattle.std.proofs.Common.{arith}
use Rattle.algebra.specs.Ring.{CommRing}
use Rattle.algebra.specs.Modulo.{fin, plus, times, minus}
use Rattle.algebra.proofs.Modulo.{plus_comm, plus_assoc, plus-zero, plus-minus, times_comm, times_assoc, times-one, times-plus}

module _ (m : ℕ) (pos : 0 < m) where
  unfoldable pub Zmod : CommRing
  Zmod =
      record {
        Car = Fin m;
        is_set = hedberg (Fin-discrete m);
        zero = fin m pos 0;
        one = fin m pos 1;
        add = plus m pos;
        mul = times m pos;
        neg = minus m pos;
        add_comm = plus_comm m pos;
        add_assoc = plus_assoc m pos;
        add_zero = plus-zero m pos;
        add_neg = plus-minus m pos;
        mul_comm = times_comm m pos;
        mul_assoc = times_assoc m pos;
        mul_one = times-one m pos;
        mul_add = times-plus m pos;
      }

abbrev pub order : ℕ → ℕ
order p = suc (pred p)

pub order_pos : (p : ℕ) → 0 < order p
order_pos p = omega arith

-- Z p is the ring of the numbers below p; so that p = 0 needs no proof against it, Z 0 is the ring of one element.
unfoldable pub Z : ℕ → CommRing
Z p = Zmod (order p) (order_pos p)

unfoldable pub el : (p n : ℕ) → (Z p).Car
unfolding Z Zmod
el p n = fin (order p) (order_pos p) n

unfoldable pub num : (p : ℕ) → (Z p).Car → ℕ
unfolding Z Zmod
num p x = x.0
