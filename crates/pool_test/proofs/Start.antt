-- The pool of the test, and what its calls and the list call return.
--   holds s rs             the test that the slots of s hold the records rs; holds_sound: then they do
--   given                  the slots at the start hold the records of an accepted list on E
--   asked                  so valid calls can be carried out on them
--   few-left               they leave five records at most
--   Returned a             a call returned a length of 40 at most; returned-fits, returned-small: as an unsigned number
--   list-returned          the list call over the records did
use mathlib.Core.Path.{◌≡◌, refl, sym, ◌∙◌, ap, subst}
use mathlib.Core.Bool.{Bool}
use mathlib.Core.List.{List, ◌++◌}
use Prim.Native.Nat.{ℕ, ◌+◌, ◌≤◌}
use native.Mathlib.Omega.{arith}
use lib.Dec.{T, leb, eqb, leb→le, eqb→eq}
use lib.IntN.{ℤ, pos, nat_abs}
use lib.Signed.{non_neg}
use lib.ListN.{length, get_or}
use mir.Val.{Fits}
use mir.Syntax.{w64}
use Rattle.algebra.proofs.Test.{both, all_below, all_below-at, both_left, both_right}
use Rattle.layout.specs.Layout.{bytes2, bytes4, all_bytes4, record_bytes}
use Rattle.record.specs.Curve.{modulus, equation, curve_stages, AcceptedCurve}
use Rattle.record.specs.Listed.{joined, list_limit, AllAccepted, Listed}
use Rattle.calls.specs.Class.{IsListSum}
use Rattle.calls.specs.Call.{ListSum, list_of, room}
use Rattle.calls.specs.Pool.{entry}
use Rattle.calls.proofs.Class.{zero-accepted}
use Rattle.calls.proofs.Answers.{Answered, short, enough, answer, list_of_sound, record_fits}
use Rattle.calls.proofs.Exists.{list-passes}
use Rattle.calls.proofs.Multiples.{list-class}
use Rattle.worked.specs.Table.{E}
use Rattle.worked.proofs.Tests.{bytes_sound}
use Rattle.worked.proofs.Worked.{worked}
use Rattle.slots.specs.Held.{slot, Held}
use Rattle.pool.specs.Run.{Valid, Holding, RunAsked, RunMade}
use Rattle.pool_test.specs.Start.{records, slots, start}

-- the record at place m is 40 bytes at most, and its bytes stand at slot m
abbrev at_place : List ℕ → List (List ℕ) → ℕ → Bool
at_place s rs m =
    both (leb (length (entry rs m)) room)
    (all_below (λ k. eqb (get_or s (slot m + k) 0) (get_or (entry rs m) k 0)) (length (entry rs m)))

abbrev holds : List ℕ → List (List ℕ) → Bool
holds s rs = both (leb (slot (length rs)) (length s)) (all_below (at_place s rs) (length rs))

holds_sound : (s : List ℕ) (rs : List (List ℕ)) → T (holds s rs) → Held s rs
holds_sound s rs t =
    let all = both_right (leb (slot (length rs)) (length s)) _ t in
    record {
      fits = leb→le (slot (length rs)) (length s) (both_left (leb (slot (length rs)) (length s)) _ t);
      short = λ m h. leb→le (length (entry rs m)) room (both_left (leb (length (entry rs m)) room) _ (all_below-at (at_place s rs) (length rs) all m h));
      bytes =
          λ m k h l. eqb→eq (get_or s (slot m + k) 0) (get_or (entry rs m) k 0)
          (all_below-at (λ k. eqb (get_or s (slot m + k) 0) (get_or (entry rs m) k 0)) (length (entry rs m))
          (both_right (leb (length (entry rs m)) room) _ (all_below-at (at_place s rs) (length rs) all m h)) k l);
    }

-- The rows of (1, 2), (2, 2), (3, 2) and P in the table of worked sums say that these records are accepted on E, and that E is accepted.
on_E : AcceptedCurve E
on_E = worked.0.0.0

all_accepted : AllAccepted (modulus E) (equation E) records
all_accepted =
    (worked.0.0.1.1, (worked.1.0.0.1.1, (worked.1.1.0.0.1.1, (worked.1.1.1.1.0.0.1.1, ((zero-accepted E).1, tt)))))

given : Holding E start 5 (joined records) records
unfolding start bytes2 bytes4 all_bytes4 record_bytes
given =
    record {
      bytes = bytes_sound (joined records) tt;
      few = leb→le (length (joined records)) list_limit tt;
      listed = record { is = refl; accepted = all_accepted };
      count = refl;
      held = holds_sound (slots records) records tt;
    }

module _ (c s : List ℕ) (is-E : c ≡ E) (is-start : s ≡ start) where
  given-here : Holding c s 5 (joined records) records
  given-here = subst (λ d. Holding d s 5 (joined records) records) (sym is-E) (subst (λ t. Holding E t 5 (joined records) records) (sym is-start) given)

  pub asked : (cs : List ℕ) → Valid 5 64 cs → RunAsked c s 5 cs 64
  asked cs v = record { curve = subst AcceptedCurve (sym is-E) on_E; list = joined records; records = records; given = given-here; valid = v }

  pub few-left : (cs s' : List ℕ) (r : ℕ) → RunMade c s 5 cs s' r → r ≤ 5
  few-left cs s' r made = let (ran, end) = made (joined records) records given-here in omega (arith, ran.left, end.left)

pub record Returned (a : ℤ) : Type 0 where
  pub n : ℕ
  pub is : a ≡ pos n
  pub small : n ≤ room

pub list-returned : (c t out : List ℕ) (a : ℤ) (out' : List ℕ) → c ≡ E → t ≡ joined records → room ≤ length out → ListSum c t out a out' → Returned a
list-returned c t out a out' is-E is-list long sum =
    go (answer (curve_stages E ++ list_of E (joined records)) (list_of_sound E (joined records))
    (list-passes E on_E (joined records) records given.few given.listed)
    (subst (λ d. ListSum d (joined records) out a out') is-E (subst (λ u. ListSum c u out a out') is-list sum)))
  where
    go : Answered (λ w. (rs : List (List ℕ)) × Listed (modulus E) (equation E) (joined records) rs × IsListSum E rs w) out a out' → Returned a
    go (short l e q) = absurd (omega arith)
    go (enough w l (rs, is, s) e q) =
        record { n = length w; is = e; small = (record_fits E w (list-class E on_E rs w is.accepted s).accepted).1 }

pub returned-fits : (a y : ℤ) → y ≡ a → Returned a → T (non_neg y) × Fits w64 (nat_abs y)
returned-fits a y e r = subst (λ (z : ℤ). T (non_neg z) × Fits w64 (nat_abs z)) (sym (e ∙ r.is)) (tt, omega (arith, r.small))

pub returned-small : (a y : ℤ) → y ≡ a → Returned a → nat_abs y ≤ 40
returned-small a y e r = omega (arith, r.small, ap nat_abs (e ∙ r.is))
