-- The demand "that every class has a record of 4 to 40 bytes": on an accepted curve every ideal, given by elements that are not all zero, has
-- exactly one record of its reduced ideal, and this record has 4 to 40 bytes.
--   RecordWith S I w       w is an accepted record whose ideal is I
--   ReducedRecord S J w    w is the record of the reduced ideal of J
--   OneRecord G            exactly one string of bytes has G, and it has 4 to 40 bytes
--   record_with            every based ideal with all leads from 6 on has one record
--   record_reduced         every based ideal with a nonzero element has one record of its reduced ideal
--   record_length_suffices the demand
use mathlib.Core.Path.{◌≡◌}
use mathlib.Core.Logic.Iff
use mathlib.Core.List.{List}
use Prim.Native.Nat.{ℕ, ◌<◌, ◌≤◌}
use native.Mathlib.Omega.{arith}
use lib.ListN.{length}
use Rattle.algebra.specs.Ring.{CommRing}
use Rattle.field.specs.Residue.{Z}
use Rattle.prime_field.specs.Field.{F}
use Rattle.ideal.specs.Ideal.{SameIdeal, Generated, IsIdeal}
use Rattle.ideal.specs.Reduced.{IsReduced}
use Rattle.ideal.proofs.Every.{Every}
use Rattle.ideal.proofs.Finite.{BasedIdeal}
use Rattle.ideal.proofs.Generated.{generated_ideal}
use Rattle.ideal.proofs.Reduced.{SmallFootprint, reduced_unique}
use Rattle.curve.specs.Curve.{Coordinate}
use Rattle.divisor.specs.Kind.{Kind, size, IdealOf, IsBasis}
use Rattle.divisor.proofs.Exists.{RecordOf, record_exists, record_of, record_suffices}
use Rattle.layout.specs.Layout.{Bytes}
use Rattle.triple.specs.Setting.{Setting, ring, poles_of}
use Rattle.record.specs.Curve.{limit, equation, AcceptedCurve, accepted_limit, setting_of}
use Rattle.record.specs.Divisor.{AcceptedDivisor, IdealOfBytes}
use Rattle.divisor.proofs.Codes.{size-least, size-most}
use Rattle.record.proofs.Accepted.{reads_accepted}
use Rattle.record.proofs.Unique.{accepted_unique, residue_record, residue-record_bytes, residue_record_length, residue_record_reads, residue_record_ideal}

pub record OneRecord (G : List ℕ → Type 0) : Type 0 where
  pub bytes : List ℕ
  pub has : G bytes
  pub only : (w : List ℕ) → G w → w ≡ bytes
  pub shortest : 4 ≤ length bytes
  pub longest : length bytes ≤ 40

module _ {p : ℕ} (S : Setting p) where
  pub record RecordWith (I : (ring S).Car → Type 0) (w : List ℕ) : Type 0 where
    pub bytes : Bytes w
    pub accepted : AcceptedDivisor p S.curve w
    pub same : SameIdeal (ring S) I (IdealOfBytes p S.curve w)

  pub record ReducedRecord (J : (ring S).Car → Type 0) (w : List ℕ) : Type 0 where
    pub bytes : Bytes w
    pub accepted : AcceptedDivisor p S.curve w
    pub reduced : IsReduced (poles_of S) J (IdealOfBytes p S.curve w)

  module _ (fits : p ≤ limit) where
    -- the record of a basis, with what makes it the only one
    the_record : (G : List ℕ → Type 0) (κ : Kind) (n : ℕ → (Z p).Car) → IsBasis S.curve κ n
        → (RecordWith (IdealOf S.curve κ n) (residue_record p κ n) → G (residue_record p κ n))
        → ((w : List ℕ) → G w → RecordWith (IdealOf S.curve κ n) w)
        → OneRecord G
    the_record G κ n b make back =
        record {
          bytes = residue_record p κ n;
          has = make (record { bytes = bytes; accepted = accepted; same = ideal });
          only =
              λ w g.
              let r = back w g in
              accepted_unique S w (residue_record p κ n) r.bytes bytes r.accepted accepted (λ h. Iff.trans (Iff.symm (r.same h)) (ideal h));
          shortest = omega (arith, long, size-least κ);
          longest = omega (arith, long, size-most κ);
        }
      where
        pos : 0 < p
        pos = omega (arith, S.prime.two_le)

        small : p ≤ 4294967296
        small = omega arith

        bytes : Bytes (residue_record p κ n)
        bytes = residue-record_bytes p S.curve pos small κ n

        long : length (residue_record p κ n) ≡ size κ
        long = residue_record_length p S.curve pos small κ n

        accepted : AcceptedDivisor p S.curve (residue_record p κ n)
        accepted = reads_accepted p S.curve κ (residue_record p κ n) (residue_record_reads p S.curve pos small κ n b)

        ideal : SameIdeal (ring S) (IdealOf S.curve κ n) (IdealOfBytes p S.curve (residue_record p κ n))
        ideal h = Iff.symm (residue_record_ideal p S.curve pos small κ n h)

    pub record_with : {I : (ring S).Car → Type 0} → SmallFootprint (poles_of S) I → OneRecord (RecordWith I)
    record_with {I} s = go (record_exists (F p S.prime) S.curve S.nonzero s)
      where
        go : (κ : Kind) × (n : ℕ → (Z p).Car) × IsBasis S.curve κ n × SameIdeal (ring S) I (IdealOf S.curve κ n) → OneRecord (RecordWith I)
        go (κ, n, b, e) =
            the_record (RecordWith I) κ n b
            (λ r. record { bytes = r.bytes; accepted = r.accepted; same = λ g. Iff.trans (e g) (r.same g) })
            (λ w r. record { bytes = r.bytes; accepted = r.accepted; same = λ g. Iff.trans (Iff.symm (e g)) (r.same g) })

    from_record : {J : (ring S).Car → Type 0} → IsIdeal (ring S) J → RecordOf (F p S.prime) S.curve S.nonzero J → OneRecord (ReducedRecord J)
    from_record {J} i r =
        the_record (ReducedRecord J) r.kind r.numbers r.basis
        (λ t.
        record {
          bytes = t.bytes;
          accepted = t.accepted;
          reduced = record { f = d.f; least = d.least; f' = d.f'; least' = d.least'; same = λ g. Iff.trans (Iff.symm (t.same g)) (d.same g) };
        })
        (λ w t. record { bytes = t.bytes; accepted = t.accepted; same = reduced_unique (poles_of S) i d t.reduced })
      where
        d : IsReduced (poles_of S) J (IdealOf S.curve r.kind r.numbers)
        d = r.reduced

    pub record_reduced : {J : (ring S).Car → Type 0} → BasedIdeal (poles_of S) J → OneRecord (ReducedRecord J)
    record_reduced j = from_record j.ideal (record_of (F p S.prime) S.curve S.nonzero j)

    generated_reduced : (gs : List (ring S).Car) → ¬ Every (λ g. g ≡ (ring S).zero) gs → OneRecord (ReducedRecord (Generated (ring S) gs))
    generated_reduced gs h = from_record (generated_ideal (ring S) gs) (record_suffices (F p S.prime) S.curve S.nonzero gs h)

-- On an accepted curve c, for all elements gs of its ring that are not all zero, exactly one string of bytes is the record of the reduced ideal
-- of the ideal that gs generate, and it has 4 to 40 bytes.
pub record_length_suffices : (c : List ℕ) (A : AcceptedCurve c) (gs : List (Coordinate (equation c)).Car)
    → ¬ Every (λ g. g ≡ (Coordinate (equation c)).zero) gs
    → OneRecord (ReducedRecord (setting_of c A) (Generated (Coordinate (equation c)) gs))
record_length_suffices c A gs h = generated_reduced (setting_of c A) (accepted_limit c A) gs h
