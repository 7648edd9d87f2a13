-- Classes of records on an accepted curve. "w is the record of the reduced ideal of J" says that w is a record and its ideal equivalent to J.
--   Accepted c w, AcceptedRow c rs     w is an accepted divisor on the curve c; each of rs is
--   accepted_footprint     the ideal of an accepted divisor has a small footprint
--   accepted-based, accepted-ideal     … so it is a based ideal with a nonzero element
--   all-based, all-ideals  … and so for the records of a list
--   class-reduced          a record whose ideal is equivalent to J is the record of the reduced ideal of J
--   reduced-class          … and back, for a based ideal J with a nonzero element
--   poles-same             the pole numbers do not depend on how the curve was accepted
--   reduced_on, star_on    … so reduced ideals and stars for one proof of that are those for each
--   zero-accepted, zero-ideal    the zero record: its ideal is the whole ring
--   record_same            two records with the same ideal are the same
--   class_same             … and so are two with equivalent ideals
--   reduced-one            an ideal has at most one record of its reduced ideal
--   sum-class              if w is the sum of a and b, its ideal is equivalent to the product of theirs
--   sum_law                … and so to the product of what is equivalent to theirs
--   sum_one, sum_comm      there is one sum, and it does not depend on the order
--   zero_neutral           a is the sum of the zero record and a
--   negative-one           there is one negative
use mathlib.Core.Path.{◌≡◌, refl, sym, ◌∙◌, ap, subst}
use mathlib.Core.List.{List, [], ◌∷◌}
use Prim.Native.Nat.{ℕ}
use native.Mathlib.Omega.{arith}
use Rattle.algebra.specs.Ring.{CommRing}
use Rattle.prime.specs.Prime.{Prime}
use Rattle.prime.proofs.Primes.{prime_prop}
use Rattle.prime_field.specs.Field.{F}
use Rattle.ideal.specs.Ideal.{IsIdeal, Product, SameIdeal, Equivalent}
use Rattle.ideal.specs.Poles.{Poles}
use Rattle.ideal.specs.Reduced.{IsStar, IsReduced}
use Rattle.ideal.proofs.Same.{same_refl, same_sym, same_trans}
use Rattle.ideal.proofs.Every.{Every}
use Rattle.ideal.proofs.Class.{equivalent_same, equivalent_trans}
use Rattle.ideal.proofs.Product.{product_comm, product-unit, product-same, product-ideal, product_equivalent}
use Rattle.ideal.proofs.Reduced.{SmallFootprint, footprint_same, equivalent_reduced, reduced_equivalent, reduced_unique, footprint_class}
use Rattle.ideal.proofs.Star.{star_unique}
use Rattle.ideal.proofs.Finite.{BasedIdeal, footprint_based, product-based}
use Rattle.poles.specs.Poles.{poles}
use Rattle.divisor.specs.Kind.{Kind, k0}
use Rattle.divisor.proofs.Basis.{basis_footprint}
use Rattle.layout.proofs.Bytes.{bytes_record}
use Rattle.record.specs.Curve.{modulus, equation, AcceptedCurve, setting_of, accepted_prime}
use Rattle.record.specs.Divisor.{number_at, AcceptedDivisor}
use Rattle.record.specs.Listed.{AllAccepted}
use Rattle.record.proofs.Accepted.{Reads, accepted_reads, reads_accepted, ideal_reads}
use Rattle.record.proofs.Written.{written_reads, written-ideal}
use Rattle.record.proofs.Unique.{accepted_unique}
use Rattle.calls.specs.Class.{Ring, Record, Ideal, poles_on, zero_record, ReducedOf, IsSum, IsNegative}

-- the divisor w is accepted on the curve c; the divisors rs are
abbrev pub Accepted : (c w : List ℕ) → Type 0
Accepted c w = AcceptedDivisor (modulus c) (equation c) w

abbrev pub AcceptedRow : List ℕ → List (List ℕ) → Type 0
AcceptedRow c rs = AllAccepted (modulus c) (equation c) rs

module _ (c : List ℕ) (A : AcceptedCurve c) where
  pub accepted_footprint : (w : List ℕ) → Accepted c w → SmallFootprint (poles_on c A) (Ideal c w)
  accepted_footprint w a = go (accepted_reads (modulus c) (equation c) w a)
    where
      go : (κ : Kind) × Reads (modulus c) (equation c) κ w → SmallFootprint (poles_on c A) (Ideal c w)
      go (κ, r) =
          footprint_same (poles_on c A) (same_sym (Ring c) (ideal_reads (modulus c) (equation c) κ w r.kind))
          (basis_footprint (F (modulus c) (setting_of c A).prime) (equation c) (setting_of c A).nonzero κ (number_at (modulus c) w) r.basis)

  pub accepted-based : (w : List ℕ) → Accepted c w → BasedIdeal (poles_on c A) (Ideal c w)
  accepted-based w a = footprint_based (poles_on c A) (accepted_footprint w a)

  pub accepted-ideal : (w : List ℕ) → Accepted c w → IsIdeal (Ring c) (Ideal c w)
  accepted-ideal w a = (accepted_footprint w a).ideal

  pub all-based : (rs : List (List ℕ)) → AcceptedRow c rs → Every (λ r. BasedIdeal (poles_on c A) (Ideal c r)) rs
  all-based [] a = tt
  all-based (r ∷ rs) a = (accepted-based r a.0, all-based rs a.1)

  pub all-ideals : (rs : List (List ℕ)) → AcceptedRow c rs → Every (λ r. IsIdeal (Ring c) (Ideal c r)) rs
  all-ideals [] a = tt
  all-ideals (r ∷ rs) a = (accepted-ideal r a.0, all-ideals rs a.1)

pub poles-same : (c : List ℕ) (A A' : AcceptedCurve c) → poles_on c A ≡ poles_on c A'
poles-same c A A' =
    ap (λ (q : Prime (modulus c)). poles (F (modulus c) q) (equation c) (F (modulus c) q).nontrivial)
    (prime_prop (modulus c) (accepted_prime c A) (accepted_prime c A'))

module _ (c : List ℕ) (A : AcceptedCurve c) where
  pub class-reduced : {J : (Ring c).Car → Type 0} (w : List ℕ) → Record c w → Equivalent (Ring c) J (Ideal c w) → ReducedOf c J w
  class-reduced w r e = record { curve = A; accepted = r; reduced = equivalent_reduced (poles_on c A) (accepted_footprint c A w r.1) e }

  pub reduced_on : {J : (Ring c).Car → Type 0} (w : List ℕ) → ReducedOf c J w → IsReduced (poles_on c A) J (Ideal c w)
  reduced_on {J} w h = subst (λ (Q : Poles (Ring c)). IsReduced Q J (Ideal c w)) (poles-same c h.curve A) h.reduced

  pub star_on : (a w : List ℕ) → IsNegative c a w → IsStar (poles_on c A) (Ideal c a) (Ideal c w)
  star_on a w h = subst (λ (Q : Poles (Ring c)). IsStar Q (Ideal c a) (Ideal c w)) (poles-same c h.curve A) h.star

module _ (c : List ℕ) where
  -- The zero record has the one polynomial 1, and no remaining monomial.
  zero_reads : Reads (modulus c) (equation c) k0 zero_record
  zero_reads = written_reads k0 [] refl (modulus c) (equation c) (λ i. omega arith) (λ i h. absurd (omega arith)) (λ h i m. m)

  pub zero-accepted : Record c zero_record
  zero-accepted = (bytes_record 0 [], reads_accepted (modulus c) (equation c) k0 zero_record zero_reads)

  pub zero-ideal : SameIdeal (Ring c) (λ _. Unit) (Ideal c zero_record)
  zero-ideal g = (
    λ _. (written-ideal k0 [] refl (modulus c) (equation c) (λ i. omega arith) g).1 (g, R.zero, refl, sym (R.add_zero (R.mul g R.one) ∙ R.mul_one g)),
    λ _. tt,
  )
    where
      R : CommRing
      R = Ring c

module _ (c : List ℕ) (A : AcceptedCurve c) where
  open Ring c use {Car}

  abbrev P : Poles (Ring c)
  P = poles_on c A

  pub reduced-class : {J : Car → Type 0} (w : List ℕ) → BasedIdeal P J → ReducedOf c J w → Equivalent (Ring c) J (Ideal c w)
  reduced-class w b h = reduced_equivalent P b.ideal b.based (reduced_on c A w h)

  -- Document 01: "The record of a reduced ideal is the accepted record … whose ideal it is; there is only one."
  pub record_same : (w w' : List ℕ) → Record c w → Record c w' → SameIdeal (Ring c) (Ideal c w) (Ideal c w') → w ≡ w'
  record_same w w' r r' e = accepted_unique (setting_of c A) w w' r.0 r'.0 r.1 r'.1 e

  pub class_same : (w w' : List ℕ) → Record c w → Record c w' → Equivalent (Ring c) (Ideal c w) (Ideal c w') → w ≡ w'
  class_same w w' r r' e = record_same w w' r r' (footprint_class P (accepted_footprint c A w r.1) (accepted_footprint c A w' r'.1) e)

  pub reduced-one : {J : Car → Type 0} (w w' : List ℕ) → IsIdeal (Ring c) J → ReducedOf c J w → ReducedOf c J w' → w ≡ w'
  reduced-one w w' i h h' = record_same w w' h.accepted h'.accepted (reduced_unique P i (reduced_on c A w h) (reduced_on c A w' h'))

  -- the sum of a and b
  module _ (a b w : List ℕ) (ra : Accepted c a) (rb : Accepted c b) where
    pub sum-class : IsSum c a b w → Equivalent (Ring c) (Product (Ring c) (Ideal c a) (Ideal c b)) (Ideal c w)
    sum-class h = reduced-class w (product-based P (accepted-based c A a ra) (accepted-based c A b rb)) h

    pub sum_law : {J K : Car → Type 0} → IsSum c a b w → Equivalent (Ring c) J (Ideal c a) → Equivalent (Ring c) K (Ideal c b)
        → Equivalent (Ring c) (Product (Ring c) J K) (Ideal c w)
    sum_law h e e' = equivalent_trans P (product_equivalent P e e') (sum-class h)

    pub sum_one : (w' : List ℕ) → IsSum c a b w → IsSum c a b w' → w ≡ w'
    sum_one w' h h' = reduced-one w w' (product-ideal (Ring c) (accepted-ideal c A a ra)) h h'

    pub sum_comm : IsSum c a b w → IsSum c b a w
    sum_comm h = class-reduced c A w h.accepted (equivalent_trans P (equivalent_same P (product_comm (Ring c))) (sum-class h))

  pub zero_neutral : (a : List ℕ) → Record c a → IsSum c zero_record a a
  zero_neutral a r =
      class-reduced c A a r (equivalent_same P (same_trans (Ring c) whole (product-unit (Ring c) (accepted-ideal c A a r.1))))
    where
      whole : SameIdeal (Ring c) (Product (Ring c) (Ideal c zero_record) (Ideal c a)) (Product (Ring c) (λ _. Unit) (Ideal c a))
      whole = product-same (Ring c) (same_sym (Ring c) (zero-ideal c)) (same_refl (Ring c) (Ideal c a))

  pub negative-one : (a w w' : List ℕ) → Accepted c a → IsNegative c a w → IsNegative c a w' → w ≡ w'
  negative-one a w w' r h h' = record_same w w' h.accepted h'.accepted (star_unique P (accepted-ideal c A a r) (star_on c A a w h) (star_on c A a w' h'))
