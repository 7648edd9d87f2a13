-- Ideals with the same elements.
--   same_refl, same_sym, same_trans    having the same elements is an equivalence
--   ideal-same                         what has the same elements as an ideal is an ideal
use mathlib.Core.Logic.Iff
use Rattle.algebra.specs.Ring.{CommRing}
use Rattle.ideal.specs.Ideal.{IsIdeal, SameIdeal}

module _ (R : CommRing) where
  open R use {Car}

  pub same_refl : (I : Car → Type 0) → SameIdeal R I I
  same_refl I g = Iff.rfl

  pub same_sym : {I J : Car → Type 0} → SameIdeal R I J → SameIdeal R J I
  same_sym e g = Iff.symm (e g)

  pub same_trans : {I J K : Car → Type 0} → SameIdeal R I J → SameIdeal R J K → SameIdeal R I K
  same_trans e e' g = Iff.trans (e g) (e' g)

  pub ideal-same : {I J : Car → Type 0} → SameIdeal R I J → IsIdeal R I → IsIdeal R J
  ideal-same e i = record {
    nil = (e _).0 i.nil;
    sum = λ x y. (e _).0 (i.sum ((e _).1 x) ((e _).1 y));
    times = λ r x. (e _).0 (i.times r ((e _).1 x));
  }
