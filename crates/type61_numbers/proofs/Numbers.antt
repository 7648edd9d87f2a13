-- The numbers of a basis of kind 31 whose polynomials f and g satisfy f·v = u·(κ·g + ν·f) satisfy the equations. The first six come from this
-- identity, the last three from (y + G1)·f − (x + F1 − G2)·g − F2·h = 0, which holds for every basis of kind 31.
--   relation, relation_in  the left side of that; it is in the ideal of the record
--   H2_holds … H0_holds    the last three equations
--   numbers-equations      all nine
use mathlib.Core.Path.{◌≡◌, refl}
use mathlib.Core.List.{List, [], ◌∷◌}
use Prim.Native.Nat.{ℕ}
use lib.Dec.{T}
use lib.ListN.{get_or}
use Rattle.algebra.specs.Ring.{CommRing, ops}
use Rattle.algebra.proofs.Norm.{E, nil, unit, E-ops}
use Rattle.algebra.proofs.Solve.{◌⊠◌, ⊟◌}
use Rattle.algebra.proofs.Sound.{value}
use Rattle.curve.specs.Curve.{Curve, Coordinate, constant}
use Rattle.divisor.specs.Kind.{k31, IdealOf, IsBasis}
use Rattle.type61.proofs.Form.{cubic, quartic, first, second}
use Rattle.expressions.proofs.Letters.{a0, c, n, origin}
use Rattle.expressions.proofs.Value.{numbers, at}
use Rattle.expressions.proofs.Coefficients.{cut, present, cut_zero}
use Rattle.expressions.proofs.Zeros.{from-zeros}
use Rattle.invertible.proofs.Value.{nine}
use Rattle.invertible.proofs.Certificate.{zeros}
use Rattle.invertible.proofs.Relations.{certificate}
use Rattle.invertible.proofs.Vanish.{vanish}
use Rattle.type61_numbers.proofs.Equations.{F2H2-of, F2H1-of, F2H0-of, c-of, Equations}
use Rattle.type61_numbers.proofs.Identity.{u, v, identity-monic, F2-holds, r0-holds, G1-holds, F2G2-holds, F0-holds, G0-holds}

abbrev relation : E
relation = get_or (zeros k31 (certificate k31)) 1 nil

abbrev places : List ℕ
places = 0 ∷ 3 ∷ 4 ∷ []

abbrev coefficient_of : ℕ → E
coefficient_of m = origin (cut m relation)

module _ {k : CommRing} (C : Curve k) (us vs r : ℕ → k.Car) (basis : IsBasis C k31 r) where
  open Coordinate C use {add as ◌⊕◌, mul as ◌⊗◌}

  infixl 60 ◌⊕◌
  infixl 70 ◌⊗◌
  abbrev values : List k.Car
  values = k.zero ∷ k.zero ∷ numbers C (nine r)

  relation_in : IdealOf C k31 r (at C (nine r) relation)
  relation_in = (_, _, (_, _, (_, _, refl, refl), refl), refl)

  relation_zero : (m : ℕ) → T (present m places) → value k (coefficient_of m) values ≡ k.zero
  relation_zero = cut_zero C (nine r) places relation tt (vanish C r k31 relation tt basis relation_in).0

  H2_holds : k.mul (r 2) (r 8) ≡ F2H2-of (ops k) C.a0 (c-of C) us vs r
  H2_holds = from-zeros k values (n 2 ⊠ n 8) (F2H2-of E-ops a0 c u v n) (coefficient_of 4 ∷ []) (⊟ unit ∷ []) tt (relation_zero 4 tt, tt)

  H1_holds : k.mul (r 2) (r 7) ≡ F2H1-of (ops k) C.a0 (c-of C) us vs r
  H1_holds = from-zeros k values (n 2 ⊠ n 7) (F2H1-of E-ops a0 c u v n) (coefficient_of 3 ∷ []) (⊟ unit ∷ []) tt (relation_zero 3 tt, tt)

  H0_holds : k.mul (r 2) (r 6) ≡ F2H0-of (ops k) C.a0 (c-of C) us vs r
  H0_holds = from-zeros k values (n 2 ⊠ n 6) (F2H0-of E-ops a0 c u v n) (coefficient_of 0 ∷ []) (⊟ unit ∷ []) tt (relation_zero 0 tt, tt)

  pub numbers-equations : (κ ν : k.Car) → first C r ⊗ quartic C vs ≡ cubic C us ⊗ (constant C κ ⊗ second C r ⊕ constant C ν ⊗ first C r) → Equations C us vs r
  numbers-equations κ ν e =
      let i = identity-monic C r us vs κ ν e in
      record {
        F2 = F2-holds C r us vs i;
        F1_G2 = r0-holds C r us vs i;
        G1 = G1-holds C r us vs i;
        F2G2 = F2G2-holds C r us vs i;
        F0 = F0-holds C r us vs i;
        G0 = G0-holds C r us vs i;
        F2H2 = H2_holds;
        F2H1 = H1_holds;
        F2H0 = H0_holds;
      }
