-- Stars and reduced ideals of based ideals, as the calls use them.
--   star-same, reduced-same    stars and reduced ideals of sets with the same elements
--   star_exists            a based ideal with a nonzero element has a star
--   star_unique            … and only one
--   star-small             the star has a small footprint
use mathlib.Core.Path.{subst}
use Rattle.algebra.specs.Ring.{CommRing}
use Rattle.ideal.specs.Ideal.{IsIdeal, Colon, SameIdeal}
use Rattle.ideal.specs.Poles.{Poles}
use Rattle.ideal.specs.Reduced.{Least, IsStar, IsReduced}
use Rattle.ideal.proofs.Same.{same_refl, same_sym, same_trans}
use Rattle.ideal.proofs.Leads.{ideal_space, least, least-same, least_unique}
use Rattle.ideal.proofs.Colon.{colon_same}
use Rattle.ideal.proofs.Reduced.{SmallFootprint, footprint_same, star_footprint}
use Rattle.ideal.proofs.Finite.{BasedIdeal}

module _ {R : CommRing} (P : Poles R) where
  open R use {Car}

  pub star-same : {J J' K K' : Car → Type 0} → SameIdeal R J J' → SameIdeal R K K' → IsStar P J K → IsStar P J' K'
  star-same e e' s = record {
    f = s.f;
    least = least-same P e s.least;
    same = same_trans R (same_sym R e') (same_trans R s.same (colon_same R s.f e));
  }

  pub reduced-same : {J J' A A' : Car → Type 0} → SameIdeal R J J' → SameIdeal R A A' → IsReduced P J A → IsReduced P J' A'
  reduced-same {J} {J'} e e' r = record {
    f = r.f;
    least = least-same P e r.least;
    f' = r.f';
    least' = least-same P star r.least';
    same = same_trans R (same_sym R e') (same_trans R r.same (colon_same R r.f' star));
  }
    where
      star : SameIdeal R (Colon R r.f J) (Colon R r.f J')
      star = colon_same R r.f e

  pub star_exists : {J : Car → Type 0} → BasedIdeal P J → (f : Car) × IsStar P J (Colon R f J)
  star_exists {J} b = go (least P (ideal_space P b.ideal) b.based b.lead)
    where
      go : (f : Car) × Least P J f → (f : Car) × IsStar P J (Colon R f J)
      go (f, l) = (f, record { f = f; least = l; same = same_refl R (Colon R f J) })

  pub star_unique : {J K K' : Car → Type 0} → IsIdeal R J → IsStar P J K → IsStar P J K' → SameIdeal R K K'
  star_unique {J} {K} {K'} i s s' =
      same_trans R s.same (subst (λ t. SameIdeal R (Colon R t J) K') (least_unique P (ideal_space P i) s'.least s.least) (same_sym R s'.same))

  pub star-small : {J K : Car → Type 0} → BasedIdeal P J → IsStar P J K → SmallFootprint P K
  star-small b s = footprint_same P (same_sym R s.same) (star_footprint P b.ideal b.based s.least)
