-- The record of a point, by value and in bytes, on an accepted curve.
--   point-value c q        the divisor by value of the pair q: kind 11, −a and −b
--   point-bytes            its bytes are the point's record
--   point-shaped           its numbers are below p
--   point-basis, basis-point   it is a basis exactly if the pair is on the curve
--   point-accepted         … then it is an accepted divisor
--   point-ideal            its ideal is that of the point's record
use mathlib.Core.Path.{◌≡◌, refl, subst}
use mathlib.Core.List.{List}
use Prim.Native.Nat.{ℕ, zero, suc, ◌<◌}
use native.Mathlib.Omega.{arith}
use Rattle.algebra.specs.Ring.{CommRing}
use Rattle.field.specs.Residue.{Z, el, num}
use Rattle.field.proofs.Element.{num-lt, el-num}
use Rattle.field.proofs.Invert.{prime-large}
use Rattle.ideal.specs.Ideal.{SameIdeal}
use Rattle.divisor.specs.Kind.{k11, IdealOf, IsBasis}
use Rattle.vector.specs.Vector.{at}
use Rattle.basis.specs.Divisor.{of_four, numbers_of, residues, Shaped, BasisValue}
use Rattle.basis.specs.declared.Divisor.{Divisor}
use Rattle.record.specs.Curve.{modulus, equation, AcceptedCurve, accepted_prime}
use Rattle.record.specs.Value.{bytes_of}
use Rattle.calls.specs.Class.{Ring, Record, Ideal}
use Rattle.calls.proofs.Values.{value_record, value_ideal}
use Rattle.point.specs.Point.{Pair, OnCurve, point_record}
use Rattle.point.proofs.OnCurve.{value-basis, basis_value}

module _ (c : List ℕ) where
  abbrev p : ℕ
  p = modulus c

  abbrev pub point-value : Pair → Divisor
  point-value (a, b) = of_four k11 (num p ((Z p).neg (el p a))) (num p ((Z p).neg (el p b))) 0 0

  pub point-bytes : (q : Pair) → bytes_of k11 (point-value q) ≡ point_record c q
  unfolding bytes_of
  point-bytes (a, b) = refl

  module _ (A : AcceptedCurve c) where
    large : 1 < p
    large = prime-large p (accepted_prime c A)

    pub point-shaped : (q : Pair) → Shaped p k11 (point-value q)
    point-shaped (a, b) = record { kind = refl; below = below }
      where
        below : (i : ℕ) → at (numbers_of (point-value (a, b))) i < p
        below zero = num-lt p ((Z p).neg (el p a)) (omega (arith, large))
        below (suc zero) = num-lt p ((Z p).neg (el p b)) (omega (arith, large))
        below (suc (suc zero)) = omega (arith, large)
        below (suc (suc (suc zero))) = omega (arith, large)
        below (suc (suc (suc (suc zero)))) = omega (arith, large)
        below (suc (suc (suc (suc (suc zero))))) = omega (arith, large)
        below (suc (suc (suc (suc (suc (suc zero)))))) = omega (arith, large)
        below (suc (suc (suc (suc (suc (suc (suc zero))))))) = omega (arith, large)
        below (suc (suc (suc (suc (suc (suc (suc (suc zero)))))))) = omega (arith, large)
        below (suc (suc (suc (suc (suc (suc (suc (suc (suc i))))))))) = omega (arith, large)

    pub point-basis : (q : Pair) → OnCurve c q → IsBasis (equation c) k11 (residues p (point-value q))
    point-basis (a, b) h =
        value-basis (equation c) (el p a) (el p b) (residues p (point-value (a, b))) (el-num p ((Z p).neg (el p a))) (el-num p ((Z p).neg (el p b))) h

    pub basis-point : (q : Pair) → IsBasis (equation c) k11 (residues p (point-value q)) → OnCurve c q
    basis-point (a, b) h =
        basis_value (equation c) (el p a) (el p b) (residues p (point-value (a, b))) (el-num p ((Z p).neg (el p a))) (el-num p ((Z p).neg (el p b))) h

    pub point-based : (q : Pair) → OnCurve c q → BasisValue p (equation c) k11 (point-value q)
    point-based q h = record { shaped = point-shaped q; basis = point-basis q h }

    pub point-accepted : (q : Pair) → OnCurve c q → Record c (point_record c q)
    point-accepted q h = subst (Record c) (point-bytes q) (value_record c A k11 (point-value q) (point-based q h))

    pub point-ideal : (q : Pair) → SameIdeal (Ring c) (IdealOf (equation c) k11 (residues p (point-value q))) (Ideal c (point_record c q))
    point-ideal q =
        subst (λ (w : List ℕ). SameIdeal (Ring c) (IdealOf (equation c) k11 (residues p (point-value q))) (Ideal c w)) (point-bytes q)
        (value_ideal c A k11 (point-value q) (point-shaped q))
