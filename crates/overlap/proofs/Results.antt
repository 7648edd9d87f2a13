-- From the functions on divisors by value to the bytes of an accepted curve c and of the divisors on it.
--   road_asked         divisors that are read may be added by the second road: the curve is nonsingular
--   part-made          the common part of the records
--   multiple_made      the common multiple of the records
--   total_made         the sum of the records
use mathlib.Core.Path.{sym, subst}
use mathlib.Core.List.{List}
use Prim.Native.Nat.{ℕ}
use Rattle.ideal.specs.Ideal.{SameIdeal}
use Rattle.ideal.specs.Parts.{IdealSum}
use Rattle.ideal.proofs.Same.{same_sym, same_trans}
use Rattle.ideal.proofs.Product.{product-same}
use Rattle.ideal.proofs.Parts.{sum_same, intersection_same}
use Rattle.ground.specs.declared.Ground.{Ground}
use Rattle.basis.specs.declared.Divisor.{Divisor}
use Rattle.group.specs.Contract.{IsDivisor, ideal}
use Rattle.parts.specs.Contract.{PartOf, MultipleOf}
use Rattle.road.specs.Contract.{RoadAsked, RoadOf}
use Rattle.record.specs.Curve.{accepted_rest, setting_of}
use Rattle.record.specs.Value.{bytes_of}
use Rattle.reader.specs.Reading.{On, GivenOn}
use Rattle.reader.proofs.Ground.{ground-at, ground-is}
use Rattle.calls.specs.Class.{Ring, IsSum, IsCommonPart, IsCommonMultiple}
use Rattle.calls.proofs.Values.{ValueIdeal}
use Rattle.classes.proofs.Values.{given, given_record, read_ideal, reduced-made, two_at}

module _ {c : List ℕ} {g : Ground} (o : On c g) {x y : Divisor} {a b : List ℕ} (v : GivenOn c a x) (v' : GivenOn c b y) where
  abbrev road_at : RoadAsked (ground-at c g) x y
  road_at = record { pair = two_at o v v'; smooth = (accepted_rest c o.accepted).1.1.0 }

  pub road_asked : RoadAsked g x y
  road_asked = subst (λ (h : Ground). RoadAsked h x y) (sym (ground-is o)) road_at

  module _ {r : Divisor} where
    pub part-made : PartOf g x y r → (w : List ℕ) × IsCommonPart c a b w × GivenOn c w r
    part-made h = go (subst (λ (h : Ground). PartOf h x y r) (ground-is o) h (two_at o v v'))
      where
        go : (D : IsDivisor (setting_of c o.accepted) r)
            × SameIdeal (Ring c) (ideal (setting_of c o.accepted) r D)
            (IdealSum (Ring c) (ValueIdeal c o.accepted v.kind x) (ValueIdeal c o.accepted v'.kind y))
            → (w : List ℕ) × IsCommonPart c a b w × GivenOn c w r
        go (D, e) = (
          bytes_of D.kind r,
          record {
            curve = o.accepted;
            accepted = given_record c (bytes_of D.kind r) (given o D);
            same =
                same_trans (Ring c) (same_sym (Ring c) (read_ideal o (given o D)))
                (same_trans (Ring c) e (sum_same (Ring c) (read_ideal o v) (read_ideal o v')));
          },
          given o D,
        )

    pub multiple_made : MultipleOf g x y r → (w : List ℕ) × IsCommonMultiple c a b w × GivenOn c w r
    multiple_made h =
        reduced-made o (intersection_same (Ring c) (read_ideal o v) (read_ideal o v')) (subst (λ (h : Ground). MultipleOf h x y r) (ground-is o) h (two_at o v v'))

    pub total_made : RoadOf g x y r → (w : List ℕ) × IsSum c a b w × GivenOn c w r
    total_made h = reduced-made o (product-same (Ring c) (read_ideal o v) (read_ideal o v')) (subst (λ (h : Ground). RoadOf h x y r) (ground-is o) h road_at)
