-- Invertible ideals.
--   InvertibleIdeal I      I·I' = (e) for some ideal I' and some e that is not zero
use Rattle.std.specs.Prelude.{◌≡◌}
use Rattle.algebra.specs.Ring.{CommRing}
use Rattle.ideal.specs.Ideal.{IsIdeal, Product, Multiple, SameIdeal}

module _ (R : CommRing) where
  pub record InvertibleIdeal (I : R.Car → Type 0) : Type 1 where
    pub ideal : IsIdeal R I
    pub I' : R.Car → Type 0
    pub ideal' : IsIdeal R I'
    pub e : R.Car
    pub nonzero : ¬ (e ≡ R.zero)
    pub same : SameIdeal R (Product R I I') (Multiple R e)
