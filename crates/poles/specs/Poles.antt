-- The coordinate ring of a curve over a field has pole numbers: the interface on which the theory of ideals rests. What is to be believed is that
-- Below n g means "every monomial of g has a pole number below n" and that mono n is the normal monomial of pole number n; the other fields are laws.
--   poles K C nonzero  the pole numbers of the coordinate ring of C, where a0 ≢ 0
use Rattle.std.specs.Prelude.{◌≡◌}
use Rattle.algebra.specs.Ring.{Field}
use Rattle.ideal.specs.Poles.{Poles}
use Rattle.curve.specs.Curve.{Curve, Coordinate}
use Rattle.curve.specs.Monomial.{Below, mono}
use Rattle.curve.proofs.Filtration.{below_zero, below_add, below_more, below_none, below_gap}
use Rattle.curve.proofs.Product.{product-below}
use Rattle.curve.proofs.Poles.{below_some, below_dec, below_factor, mono_zero, mono-lead, lower}

module _ (K : Field) (C : Curve K.ring) (nonzero : ¬ (C.a0 ≡ K.ring.zero)) where
  unfoldable pub poles : Poles (Coordinate C)
  poles =
      record {
        Below = Below C;
        mono = mono C;
        below_zero = below_zero C;
        below_add = λ b c. below_add C b c;
        below_mono = λ h b. below_more C h b;
        below_none = λ b. below_none C b;
        below_some = below_some K C;
        below_dec = below_dec K C;
        below_gap = λ d b. below_gap C d b;
        below_mul = λ b c. product-below C b c;
        below_factor = λ b c d. below_factor K C nonzero b c d;
        mono_zero = mono_zero K C;
        mono_pole = mono-lead K C;
        lower = λ b c u. lower K C b c u;
      }
