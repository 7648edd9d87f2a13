-- How a record is recognised as the record of a colon ideal, and so of a star.
--   Matched J κ d          J has a lead d + 5 − r for each remaining pole number r of the kind
--   colon_recognised       a record whose polynomials lie in (f : J) is a basis, and its ideal is (f : J), if J matches the kind at f's pole number
--   star_recognised        … so it is J* for the least element f of J
use mathlib.Core.Path.{◌≡◌, refl, sym, subst}
use mathlib.Core.Bool.{Bool, true, false, not}
use mathlib.Core.List.{List, [], ◌∷◌}
use Prim.Native.Nat.{ℕ, ◌+◌}
use lib.Dec.{T, eqb, eqb→eq}
use Rattle.algebra.specs.Ring.{Field}
use Rattle.ideal.specs.Ideal.{Colon, SameIdeal}
use Rattle.ideal.specs.Poles.{largest_gap, IsPole, Poles, HasPole}
use Rattle.ideal.specs.Reduced.{Least, IsStar}
use Rattle.ideal.proofs.Same.{same_sym, same_trans}
use Rattle.ideal.proofs.Every.{Every}
use Rattle.ideal.proofs.Leads.{Lead}
use Rattle.ideal.proofs.Colon.{colon_ideal}
use Rattle.ideal.proofs.Recognise.{recognise}
use Rattle.curve.specs.Curve.{Curve, Coordinate, y}
use Rattle.poles.specs.Poles.{poles}
use Rattle.divisor.specs.Kind.{Kind, polynomials, IdealOf, IsBasis}
use Rattle.divisor.proofs.Terms.{absent}
use Rattle.algebra.proofs.Test.{both}
use Rattle.divisor.proofs.Table.{Reached, remaining-poles, absent_reached}
use Rattle.divisor.proofs.Members.{member, Spanned, spanned_space, spanned-based, reached-lead, spanned_in, spanned-each}
use Rattle.divisor.proofs.Basis.{Closed, closed_same, closed-basis}

-- a pole number that the kind does not reach is one of the remaining
remaining_find : (κ : Kind) (Q : ℕ → Type 0) → Every Q (remaining-poles κ) → (m : ℕ) → IsPole m → ¬ Reached κ m → Q m
remaining_find κ Q qs m p h = go (remaining-poles κ) qs (λ t. h (absent_reached κ m p t))
  where
    go : (ps : List ℕ) → Every Q ps → ¬ T (absent m ps) → Q m
    go [] _ u = absurd (u tt)
    go (q ∷ ps) (a, bs) u = at (eqb m q) refl (go ps bs) u
      where
        at : (b : Bool) → eqb m q ≡ b → (¬ T (absent m ps) → Q m) → ¬ T (both (not b) (absent m ps)) → Q m
        at true e f v = subst Q (sym (eqb→eq m q (subst T (sym e) tt))) a
        at false e f v = f v

module _ (K : Field) (C : Curve K.ring) (nonzero : ¬ (C.a0 ≡ K.ring.zero)) where
  open Coordinate C use {Car as El, mul as ◌⊗◌}

  infixl 70 ◌⊗◌
  abbrev P : Poles (Coordinate C)
  P = poles K C nonzero

  abbrev pub Matched : (El → Type 0) → Kind → ℕ → Type 0
  Matched J κ d = Every (λ r. (m : ℕ) × Lead (poles K C nonzero) J m × (r + m ≡ d + largest_gap)) (remaining-poles κ)

  module _ (κ : Kind) (n : ℕ → K.ring.Car) where
    module _ (J : El → Type 0) {f : El} {d : ℕ} (pf : HasPole P f d) (met : Matched J κ d) (ms : Every (Colon (Coordinate C) f J) (polynomials C κ n)) where
      -- the span of the members is the colon ideal, for each pole number that it lacks is met by a lead of J
      spanned_colon : SameIdeal (Coordinate C) (Spanned K C nonzero κ n) (Colon (Coordinate C) f J)
      spanned_colon =
          recognise P pf (spanned_space K C nonzero κ n) (spanned-based K C nonzero κ n) (spanned_in K C nonzero κ n (colon_ideal (Coordinate C) f J) ms)
          (λ m p none. remaining_find κ (λ r. (m : ℕ) × Lead P J m × (r + m ≡ d + largest_gap)) met m p (λ r. none (reached-lead K C nonzero κ n m r)))

      colon_closed : Closed K C nonzero κ n
      colon_closed j l =
          (spanned_colon (y C ⊗ member C κ n j)).1 ((colon_ideal (Coordinate C) f J).times (y C) ((spanned_colon (member C κ n j)).0 (spanned-each K C nonzero κ n j l)))

      pub colon_recognised : IsBasis C κ n × SameIdeal (Coordinate C) (IdealOf C κ n) (Colon (Coordinate C) f J)
      colon_recognised =
          (closed-basis K C nonzero κ n colon_closed, same_trans (Coordinate C) (same_sym (Coordinate C) (closed_same K C nonzero κ n colon_closed)) spanned_colon)

    pub star_recognised : {J : El → Type 0} {f : El} {d : ℕ} → Least P J f → HasPole P f d → Matched J κ d
        → Every (Colon (Coordinate C) f J) (polynomials C κ n) → IsBasis C κ n × IsStar P J (IdealOf C κ n)
    star_recognised {J} {f} l pf met ms = (found.0, record { f = f; least = l; same = found.1 })
      where
        found : IsBasis C κ n × SameIdeal (Coordinate C) (IdealOf C κ n) (Colon (Coordinate C) f J)
        found = colon_recognised J pf met ms
