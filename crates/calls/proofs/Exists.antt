-- Every class has a record, so every call on accepted records has an answer.
--   reduced_record         the reduced ideal of a based ideal with a nonzero element has a record
--   footprint_record       an ideal with a small footprint has a record
--   sum_record, negative_record, list_record, multiple_record, part_record, common_multiple_record     the results of the calls
--   writes_some            a call whose stages are all passed but for the buffer's length has an answer, if there is a result
--   one_passes, two-passes, list-passes    what a call checks before the buffer is passed on an accepted curve with accepted divisors
--   sum-answered, common_part-answered, common_multiple-answered, double-answered, negative-answered, multiple-answered, list-answered,
--   reduce_answered        each call has an answer
use mathlib.Core.Path.{refl}
use mathlib.Core.List.{List, [], ◌∷◌, ◌++◌}
use Prim.Native.Nat.{ℕ, suc, ◌≤◌}
use native.Mathlib.Omega.{arith}
use native.Mathlib.Decide.{dec_le}
use lib.ListN.{length, drop, replicate}
use lib.IntN.{ℤ, pos, negsuc}
use Rattle.ideal.specs.Ideal.{Colon, SameIdeal}
use Rattle.ideal.specs.Poles.{Poles}
use Rattle.ideal.specs.Reduced.{IsStar}
use Rattle.ideal.specs.Parts.{IdealSum}
use Rattle.ideal.proofs.Same.{same_sym, same_trans}
use Rattle.ideal.proofs.Reduced.{SmallFootprint}
use Rattle.ideal.proofs.Star.{star_exists, star-small}
use Rattle.ideal.proofs.Finite.{BasedIdeal, product-based, productof_based}
use Rattle.ideal.proofs.Swap.{sum_footprint, meet_based}
use Rattle.record.specs.Cause.{Stage, Passes}
use Rattle.record.specs.Curve.{modulus, equation, curve_stages, AcceptedCurve, setting_of, accepted_limit}
use Rattle.record.specs.Listed.{Listed, list_limit}
use Rattle.record.specs.Fractions.{fractions_stages}
use Rattle.record.proofs.Cause.{passes_append}
use Rattle.record.proofs.Suffices.{OneRecord, RecordWith, ReducedRecord, record_with, record_reduced}
use Rattle.calls.specs.Answer.{minus, Writes}
use Rattle.calls.specs.Class.{Ring, Record, Ideal, poles_on, zero_record, ReducedOf, IsSum, IsNegative, IsListSum, IsMultiple, IsCommonPart, IsCommonMultiple}
use Rattle.calls.specs.Call.{Sum, Double, Negative, Multiple, ListSum, ReduceCurve, CommonPart, CommonMultiple, divisor_of, list_of}
use Rattle.calls.proofs.Class.{Accepted, AcceptedRow, accepted_footprint, accepted-based, all-based}
use Rattle.calls.proofs.Multiples.{list-class, copies-accepted}
use Rattle.calls.proofs.Answers.{writes_short, writes_enough}

module _ (c : List ℕ) (A : AcceptedCurve c) where
  abbrev P : Poles (Ring c)
  P = poles_on c A

  pub reduced_record : {J : (Ring c).Car → Type 0} → BasedIdeal P J → (w : List ℕ) × ReducedOf c J w
  reduced_record {J} b = go (record_reduced (setting_of c A) (accepted_limit c A) b)
    where
      go : OneRecord (ReducedRecord (setting_of c A) J) → (w : List ℕ) × ReducedOf c J w
      go o = (o.bytes, record { curve = A; accepted = (o.has.bytes, o.has.accepted); reduced = o.has.reduced })

  pub footprint_record : {I : (Ring c).Car → Type 0} → SmallFootprint P I → (w : List ℕ) × Record c w × SameIdeal (Ring c) (Ideal c w) I
  footprint_record {I} s = go (record_with (setting_of c A) (accepted_limit c A) s)
    where
      go : OneRecord (RecordWith (setting_of c A) I) → (w : List ℕ) × Record c w × SameIdeal (Ring c) (Ideal c w) I
      go o = (o.bytes, (o.has.bytes, o.has.accepted), same_sym (Ring c) o.has.same)

  pub sum_record : (a b : List ℕ) → Accepted c a → Accepted c b → (w : List ℕ) × IsSum c a b w
  sum_record a b h k = reduced_record (product-based P (accepted-based c A a h) (accepted-based c A b k))

  pub negative_record : (a : List ℕ) → Accepted c a → (w : List ℕ) × IsNegative c a w
  negative_record a h = go (star_exists P (accepted-based c A a h))
    where
      go : (f : (Ring c).Car) × IsStar P (Ideal c a) (Colon (Ring c) f (Ideal c a)) → (w : List ℕ) × IsNegative c a w
      go (f, s) = at (footprint_record (star-small P (accepted-based c A a h) s))
        where
          at : (w : List ℕ) × Record c w × SameIdeal (Ring c) (Ideal c w) (Colon (Ring c) f (Ideal c a)) → (w : List ℕ) × IsNegative c a w
          at (w, r, e) =
              (w, record { curve = A; accepted = r; star = record { f = s.f; least = s.least; same = same_trans (Ring c) e s.same } })

  pub list_record : (rs : List (List ℕ)) → AcceptedRow c rs → (w : List ℕ) × IsListSum c rs w
  list_record [] a = (zero_record, refl)
  list_record (r ∷ rs) a = reduced_record (productof_based P (Ideal c) (r ∷ rs) (all-based c A (r ∷ rs) a))

  pub multiple_record : (a : List ℕ) → Accepted c a → (n : ℤ) → (w : List ℕ) × IsMultiple c a n w
  multiple_record a h (pos n) = list_record (replicate n a) (copies-accepted c n a h)
  multiple_record a h (negsuc n) = go (list_record (replicate (suc n) a) (copies-accepted c (suc n) a h))
    where
      go : (m : List ℕ) × IsListSum c (replicate (suc n) a) m → (w : List ℕ) × IsMultiple c a (negsuc n) w
      go (m, s) = at (negative_record m (list-class c A (replicate (suc n) a) m (copies-accepted c (suc n) a h) s).accepted.1)
        where
          at : (w : List ℕ) × IsNegative c m w → (w : List ℕ) × IsMultiple c a (negsuc n) w
          at (w, t) = (w, (m, s, t))

  pub part_record : (a b : List ℕ) → Accepted c a → Accepted c b → (w : List ℕ) × IsCommonPart c a b w
  part_record a b h k = go (footprint_record (sum_footprint P (accepted-based c A a h) (accepted_footprint c A b k)))
    where
      go : (w : List ℕ) × Record c w × SameIdeal (Ring c) (Ideal c w) (IdealSum (Ring c) (Ideal c a) (Ideal c b)) → (w : List ℕ) × IsCommonPart c a b w
      go (w, r, e) = (w, record { curve = A; accepted = r; same = e })

  pub common_multiple_record : (a b : List ℕ) → Accepted c a → Accepted c b → (w : List ℕ) × IsCommonMultiple c a b w
  common_multiple_record a b h k = reduced_record (meet_based P (accepted-based c A a h) (accepted-based c A b k))

pub writes_some : {least : ℕ} (ss : List Stage) → Passes ss → {Good : List ℕ → Type 0} → (w : List ℕ) × Good w → (out : List ℕ)
    → (r : ℤ) × (out' : List ℕ) × Writes least ss Good out r out'
writes_some {least} ss p {Good} (w, g) out = go (dec_le least (length out))
  where
    go : Dec (least ≤ length out) → (r : ℤ) × (out' : List ℕ) × Writes least ss Good out r out'
    go (yes l) = (pos (length w), w ++ drop (length w) out, writes_enough ss p w l g refl refl)
    go (no l) = (minus 10, out, writes_short ss p (omega (arith, l)) refl refl)

module _ (c : List ℕ) (A : AcceptedCurve c) where
  pub one_passes : (a : List ℕ) → Accepted c a → Passes (curve_stages c ++ divisor_of c a)
  one_passes a h = (passes_append (curve_stages c) (divisor_of c a)).1 (A, h)

  pub two-passes : (a b : List ℕ) → Accepted c a → Accepted c b
      → Passes (curve_stages c ++ divisor_of c a ++ divisor_of c b)
  two-passes a b h k =
      (passes_append (curve_stages c) (divisor_of c a ++ divisor_of c b)).1 (A, (passes_append (divisor_of c a) (divisor_of c b)).1 (h, k))

  pub list-passes : (s : List ℕ) (rs : List (List ℕ)) → length s ≤ list_limit → Listed (modulus c) (equation c) s rs
      → Passes (curve_stages c ++ list_of c s)
  list-passes s rs few l = (passes_append (curve_stages c) (list_of c s)).1 (A, (few, ((rs, l), tt)))

  module _ (a b : List ℕ) (h : Accepted c a) (k : Accepted c b) (out : List ℕ) where
    pub sum-answered : (r : ℤ) × (out' : List ℕ) × Sum c a b out r out'
    sum-answered = writes_some (curve_stages c ++ divisor_of c a ++ divisor_of c b) (two-passes a b h k) (sum_record c A a b h k) out

    pub common_part-answered : (r : ℤ) × (out' : List ℕ) × CommonPart c a b out r out'
    common_part-answered = writes_some (curve_stages c ++ divisor_of c a ++ divisor_of c b) (two-passes a b h k) (part_record c A a b h k) out

    pub common_multiple-answered : (r : ℤ) × (out' : List ℕ) × CommonMultiple c a b out r out'
    common_multiple-answered = writes_some (curve_stages c ++ divisor_of c a ++ divisor_of c b) (two-passes a b h k) (common_multiple_record c A a b h k) out

  module _ (a : List ℕ) (h : Accepted c a) (out : List ℕ) where
    pub double-answered : (r : ℤ) × (out' : List ℕ) × Double c a out r out'
    double-answered = writes_some (curve_stages c ++ divisor_of c a) (one_passes a h) (sum_record c A a a h h) out

    pub negative-answered : (r : ℤ) × (out' : List ℕ) × Negative c a out r out'
    negative-answered = writes_some (curve_stages c ++ divisor_of c a) (one_passes a h) (negative_record c A a h) out

    pub multiple-answered : (n : ℤ) → (r : ℤ) × (out' : List ℕ) × Multiple c a n out r out'
    multiple-answered n = writes_some (curve_stages c ++ divisor_of c a) (one_passes a h) (multiple_record c A a h n) out

  pub list-answered : (s : List ℕ) (rs : List (List ℕ)) → length s ≤ list_limit → Listed (modulus c) (equation c) s rs → (out : List ℕ)
      → (r : ℤ) × (out' : List ℕ) × ListSum c s out r out'
  list-answered s rs few l out = writes_some (curve_stages c ++ list_of c s) (list-passes s rs few l) (go (list_record c A rs l.accepted)) out
    where
      go : (w : List ℕ) × IsListSum c rs w → (w : List ℕ) × ((ts : List (List ℕ)) × Listed (modulus c) (equation c) s ts × IsListSum c ts w)
      go (w, t) = (w, (rs, l, t))

pub reduce_answered : (s : List ℕ) (p : ℕ) → Passes (fractions_stages s p) → (out : List ℕ) → (r : ℤ) × (out' : List ℕ) × ReduceCurve s p out r out'
reduce_answered s p h out = writes_some (fractions_stages s p) h h.1.1.1.0 out
