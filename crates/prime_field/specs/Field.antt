-- The field of p elements, for a prime p.
--   F p h              the ring Z p with the inverse of crate field
use Rattle.std.specs.Prelude.{ℕ}
use Rattle.std.proofs.Common.{arith}
use Rattle.algebra.specs.Ring.{Field}
use Rattle.prime.specs.Prime.{Prime}
use Rattle.field.specs.Residue.{Z}
use Rattle.field.specs.Inverse.{inverse}
use Rattle.field.proofs.Element.{Z-discrete}
use Rattle.field.proofs.Invert.{prime-large, prime-rest, one_not_zero, inverse-zero, inverse-mul}

-- F p h .ring is Z p by computation.
abbrev pub F : (p : ℕ) → Prime p → Field
F p h =
    record {
      ring = Z p;
      discrete = Z-discrete p;
      nontrivial = one_not_zero p (prime-large p h);
      inv = inverse p;
      inv_zero = inverse-zero p (omega (arith, prime-large p h));
      mul_inv = λ x ne. inverse-mul p (prime-rest p h) x ne (omega (arith, prime-large p h));
    }
