-- What star requires and ensures.
--   StarAsked, Starred, StarOf   star: the divisor is a basis, and its ideal is the star of the span of the triple
--   LeastOf                      least: the class of the least degree
--   MultiplesAsked               multiples: what y_multiples requires of the member of a class
--   FromAsked                    star_from: the least degree is at hand, and the star is not the zero class
use Rattle.std.specs.Prelude.{◌≡◌, List, ℕ, ◌+◌, ◌%◌, ◌<◌, ◌≤◌}
use Rattle.ideal.specs.Ideal.{IsIdeal}
use Rattle.ideal.specs.Reduced.{IsStar}
use Rattle.divisor.specs.Kind.{Kind, IdealOf}
use Rattle.vector.specs.Vector.{at, row}
use Rattle.multiplication.specs.Contract.{YMultiplesAsked}
use Rattle.triple.specs.Setting.{Setting, ring, poles_of}
use Rattle.triple.specs.Triple.{Full, Spanned}
use Rattle.ground.specs.declared.Ground.{Ground}
use Rattle.ground.specs.Ground.{Grounded}
use Rattle.basis.specs.Divisor.{residues, BasisValue}
use Rattle.basis.specs.declared.Divisor.{Divisor}

-- the least degree is at most 12
pub record StarAsked (g : Ground) (t : List (List ℕ)) (d : List ℕ) : Type 0 where
  pub grounded : Grounded g
  pub full : Full g.p t d
  pub ideal : IsIdeal (ring grounded.ready.setting) (Spanned grounded.ready.setting t)
  pub low : (j : ℕ) × (j < 3) × (at d j ≤ 12)

pub record Starred (p : ℕ) (S : Setting p) (t : List (List ℕ)) (r : Divisor) : Type 0 where
  pub kind : Kind
  pub based : BasisValue p S.curve kind r
  pub star : IsStar (poles_of S) (Spanned S t) (IdealOf S.curve kind (residues p r))

abbrev pub StarOf : (g : Ground) (t : List (List ℕ)) (d : List ℕ) → Divisor → Type 0
StarOf g t d r = (A : StarAsked g t d) → Starred g.p A.grounded.ready.setting t r

pub record LeastOf (d : List ℕ) (j : ℕ) : Type 0 where
  pub inside : j < 3
  pub lowest : (i : ℕ) → i < 3 → at d j ≤ at d i

pub record MultiplesAsked (g : Ground) (t : List (List ℕ)) (j e : ℕ) : Type 0 where
  pub inside : j < 3
  pub low : e ≤ 17
  pub asked : YMultiplesAsked g.p g.cube (row t j) (e + 1)

-- the least degree is that of the class j, and the star is not the zero class
pub record FromAsked (g : Ground) (t : List (List ℕ)) (d : List ℕ) (j : ℕ) : Type 0 where
  pub asked : StarAsked g t d
  pub least : LeastOf d j
  pub some : ¬ (at d ((j + 2) % 3) ≡ at d j + 8)
