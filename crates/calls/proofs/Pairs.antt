-- Demand 3, adding by pairs: what every list of sum calls on the records of an accepted list leaves.
-- The plan: (1) at the start each record is equivalent to the product over its group, itself alone; (2) each call keeps this (Step), so it
-- holds after all of them, and an accepted record that is equivalent to a product is the record of its reduced ideal; (3) the list sum is
-- equivalent to the product of all given records, as the last record of the pool is, and two equivalent records are the same bytes.
--   parts_bytes            the records of a list of bytes are bytes
--   start                  what is kept holds at the start
--   Ended c rs gs p ks     what holds after the calls ks
--   run                    it holds after every list of calls
--   list_answer            the list call over the given records
--   adding_by_pairs        the claim of document 01
use mathlib.Core.Path.{◌≡◌, refl, sym, ◌∙◌, ap, subst}
use mathlib.Core.List.{List, [], ◌∷◌, ◌++◌}
use Prim.Native.Nat.{ℕ, suc, ◌+◌, ◌<◌, ◌≤◌}
use native.Mathlib.Omega.{arith}
use lib.ListN.{length, drop}
use lib.Seq.{take-append_seam, drop-append_seam}
use lib.IntN.{ℤ, pos}
use Rattle.ideal.specs.Ideal.{IsIdeal, ProductOf, Equivalent}
use Rattle.ideal.specs.Poles.{Poles}
use Rattle.ideal.proofs.Every.{Every}
use Rattle.ideal.proofs.Class.{equivalent_refl, equivalent_same, equivalent_sym, equivalent_trans}
use Rattle.ideal.proofs.Product.{productof_one}
use Rattle.layout.specs.Layout.{Bytes}
use Rattle.layout.proofs.Bytes.{bytes_take, bytes_drop}
use Rattle.record.specs.Curve.{modulus, equation, curve_stages, AcceptedCurve}
use Rattle.record.specs.Listed.{joined, Listed, list_limit}
use Rattle.record.proofs.Lists.{listed_once}
use Rattle.calls.specs.Class.{Ring, Record, Ideal, poles_on, IsListSum}
use Rattle.calls.specs.Call.{ListSum, list_of, room}
use Rattle.calls.specs.Pool.{PoolCall, entry, pool_after, groups_after, pool_of, groups_of, Made, alone_from, alone, served, CallAnswers, ListAnswer, PoolEnd}
use Rattle.calls.proofs.Together.{Together, together_length, together-entry, together_every}
use Rattle.calls.proofs.Class.{AcceptedRow, accepted-ideal, class-reduced}
use Rattle.calls.proofs.Multiples.{Stands, stands_one, list-class}
use Rattle.calls.proofs.Answers.{Answered, short, enough, answer, list_of_sound}
use Rattle.calls.proofs.Exists.{list-passes}
use Rattle.calls.proofs.Step.{Good, Kept, Stepped, step}

pub parts_bytes : (rs : List (List ℕ)) → Bytes (joined rs) → Every Bytes rs
parts_bytes [] b = tt
parts_bytes (r ∷ rs) b = (
  subst Bytes (take-append_seam r (joined rs)) (bytes_take (length r) (r ++ joined rs) b),
  parts_bytes rs (subst Bytes (drop-append_seam r (joined rs)) (bytes_drop (length r) (r ++ joined rs) b)),
)

-- "at the start, the group of the record at place i is i alone": for the records ts from place n on
start-from : (c : List ℕ) (A : AcceptedCurve c) (rs ts : List (List ℕ)) (n : ℕ) → ((k : ℕ) → k < length ts → entry rs (n + k) ≡ entry ts k)
    → Every Bytes ts → AcceptedRow c ts → Together (Good c rs) (alone_from n (length ts)) ts
start-from c A rs [] n same b a = tt
start-from c A rs (t ∷ ts) n same b a =
    (one, start-from c A rs ts (suc n) (λ k l. ap (entry rs) (omega arith) ∙ same (suc k) (omega arith)) b.1 a.1)
  where
    P : Poles (Ring c)
    P = poles_on c A

    here : entry rs n ≡ t
    here = ap (entry rs) (omega arith) ∙ same 0 (omega arith)

    ideal : IsIdeal (Ring c) (Ideal c (entry rs n))
    ideal = subst (λ (w : List ℕ). IsIdeal (Ring c) (Ideal c w)) (sym here) (accepted-ideal c A t a.0)

    one : Good c rs (n ∷ []) t
    one = record {
      accepted = (b.0, a.0);
      ideals = (ideal, tt);
      class =
          subst (λ (w : List ℕ). Equivalent (Ring c) (ProductOf (Ring c) (λ i. Ideal c (entry rs i)) (n ∷ [])) (Ideal c w)) here
          (equivalent_same P (productof_one (Ring c) (λ i. Ideal c (entry rs i)) n ideal));
    }

pub record Ended (c : List ℕ) (rs gs p : List (List ℕ)) (ks : List PoolCall) : Type 0 where
  pub answers : CallAnswers ks
  pub kept : Kept c rs (groups_of ks gs) (pool_of ks p)
  pub left : length (pool_of ks p) + served ks ≡ length p

module _ (c : List ℕ) (A : AcceptedCurve c) (rs : List (List ℕ)) where
  abbrev P : Poles (Ring c)
  P = poles_on c A

  pub start : Every Bytes rs → AcceptedRow c rs → Kept c rs (alone (length rs)) rs
  start b a = record {
    together = start-from c A rs rs 0 (λ k l. ap (entry rs) (omega arith)) b a;
    whole = equivalent_refl P (ProductOf (Ring c) (Ideal c) rs);
  }

  -- one call, and then the others
  more : (k : PoolCall) (ks : List PoolCall) (gs p : List (List ℕ)) → Stepped c rs gs p k → Ended c rs (groups_after k gs) (pool_after k p) ks
      → Ended c rs gs p (k ∷ ks)
  more k ks gs p s e = record { answers = (s.answers, e.answers); kept = e.kept; left = omega (arith, s.left, e.left) }

  pub run : (ks : List PoolCall) (gs p : List (List ℕ)) → Kept c rs gs p → Made c p ks → Ended c rs gs p ks
  run [] gs p kept m = record { answers = tt; kept = kept; left = omega arith }
  run (k ∷ ks) gs p kept (call, m) =
      more k ks gs p (step c A rs gs p kept k call) (run ks (groups_after k gs) (pool_after k p) (step c A rs gs p kept k call).kept m)

  module _ (listed : Listed (modulus c) (equation c) (joined rs) rs) (few : length (joined rs) ≤ list_limit) where
    -- the record that is alone in the pool stands for all given records
    last_stands : (gs p : List (List ℕ)) (w : List ℕ) → Kept c rs gs p → p ≡ w ∷ [] → Stands c rs w
    last_stands gs p w kept e =
        go (subst (λ (t : List (List ℕ)). Every (Record c) t) e records)
        (subst (λ (t : List (List ℕ)). Equivalent (Ring c) (ProductOf (Ring c) (Ideal c) t) (ProductOf (Ring c) (Ideal c) rs)) e kept.whole)
      where
        records : Every (Record c) p
        records = together_every (Good c rs) (Record c) (λ g v h. h.accepted) gs p kept.together

        go : Every (Record c) (w ∷ []) → Equivalent (Ring c) (ProductOf (Ring c) (Ideal c) (w ∷ [])) (ProductOf (Ring c) (Ideal c) rs) → Stands c rs w
        go (r, _) q = record {
          accepted = r;
          class = equivalent_trans P (equivalent_sym P q) (equivalent_same P (productof_one (Ring c) (Ideal c) w (accepted-ideal c A w r.1)));
        }

    pub list_answer : (gs p : List (List ℕ)) → Kept c rs gs p → (out : List ℕ) (r : ℤ) (out' : List ℕ) → room ≤ length out
        → ListSum c (joined rs) out r out'
        → ListAnswer c rs p out r out'
    list_answer gs p kept out r out' l h =
        go (answer (curve_stages c ++ list_of c (joined rs)) (list_of_sound c (joined rs)) (list-passes c A (joined rs) rs few listed) h)
      where
        at : (w : List ℕ) → r ≡ pos (length w) → out' ≡ w ++ drop (length w) out → IsListSum c rs w → ListAnswer c rs p out r out'
        at w e q s = record {
          sum = w;
          given = (e, q);
          all = class-reduced c A w stands.accepted stands.class;
          one_left = λ v u. stands_one c A rs w v stands (last_stands gs p v kept u);
          none_given = λ u. subst (λ (ts : List (List ℕ)). IsListSum c ts w) u s;
        }
          where
            stands : Stands c rs w
            stands = list-class c A rs w listed.accepted s

        go : Answered (λ w. (ts : List (List ℕ)) × Listed (modulus c) (equation c) (joined rs) ts × IsListSum c ts w) out r out'
            → ListAnswer c rs p out r out'
        go (short m e q) = absurd (omega arith)
        go (enough w m (ts, lt, s) e q) =
            at w e q (subst (λ (us : List (List ℕ)). IsListSum c us w) (listed_once (modulus c) (equation c) (joined rs) ts rs lt listed) s)

-- The claim of document 01, "Adding by pairs", for every accepted curve c, every accepted list s of the records rs and every list ks of calls.
pub adding_by_pairs : (c s : List ℕ) (rs : List (List ℕ)) → AcceptedCurve c → Bytes s → length s ≤ list_limit → Listed (modulus c) (equation c) s rs
    → (ks : List PoolCall) → Made c rs ks → PoolEnd c rs ks
adding_by_pairs c s rs A b few listed ks made = go (run c A rs ks (alone (length rs)) rs (start c A rs parts listed.accepted) made)
  where
    parts : Every Bytes rs
    parts = parts_bytes rs (subst Bytes listed.is b)

    go : Ended c rs (alone (length rs)) rs ks → PoolEnd c rs ks
    go h = record {
      curve = A;
      answers = h.answers;
      each =
          λ m l. let g =
          together-entry (Good c rs) (groups_of ks (alone (length rs))) (pool_of ks rs) h.kept.together m l in class-reduced c A
          (entry (pool_of ks rs) m) g.accepted g.class;
      groups = together_length (Good c rs) (groups_of ks (alone (length rs))) (pool_of ks rs) h.kept.together;
      left = h.left;
      list_call =
          list_answer c A rs (record { is = refl; accepted = listed.accepted }) (subst (λ (t : List ℕ). length t ≤ list_limit) listed.is few)
          (groups_of ks (alone (length rs))) (pool_of ks rs) h.kept;
    }
