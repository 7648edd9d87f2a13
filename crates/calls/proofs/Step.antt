-- One call on a pool, and what it keeps: every record of the pool is accepted, its ideal is equivalent to the product of the ideals of its
-- group, and the product of the ideals of all records of the pool is equivalent to that of the given records rs.
--   Good c rs g w          w is a record, and its ideal is equivalent to the product of the ideals of the given records in the group g
--   Kept c rs gs p         what the calls keep of a pool p with the groups gs
--   good-sum               the sum of two records has the two groups together
--   Stepped c rs gs p k    what holds after the call k
--   short_step, enough_step    a call with a short buffer changes nothing; another one keeps what is kept
--   step                   every call does
use mathlib.Core.Path.{◌≡◌, sym, ◌∙◌, ap, ap₂, subst}
use mathlib.Core.List.{List, [], ◌∷◌, ◌++◌, Permᴰ}
use Prim.Native.Nat.{ℕ, ◌+◌, ◌<◌, ◌≤◌}
use native.Mathlib.Omega.{arith}
use lib.ListN.{length, take, drop, length-append}
use lib.Seq.{take-append_seam}
use lib.IntN.{ℤ, pos}
use lib.Dec.{leb}
use Rattle.ideal.specs.Ideal.{IsIdeal, Product, ProductOf, Equivalent}
use Rattle.ideal.specs.Poles.{Poles}
use Rattle.ideal.proofs.Every.{Every, every_append}
use Rattle.ideal.proofs.Class.{equivalent_sym, equivalent_trans}
use Rattle.ideal.proofs.Product.{productof_join}
use Rattle.record.specs.Curve.{curve_stages, AcceptedCurve}
use Rattle.calls.specs.Answer.{minus}
use Rattle.calls.specs.Class.{Ring, Record, Ideal, poles_on, IsSum}
use Rattle.calls.specs.Call.{divisor_of, one_if, room}
use Rattle.calls.specs.Pool.{PoolCall, entry, without, amount, written_by, pool_after, groups_after, IsCall, CallAnswer}
use Rattle.calls.proofs.Places.{long-enough, too_short, tally-yes, tally-no, without_both, perm_length}
use Rattle.calls.proofs.Together.{Together, together-entry, together_every, together-without, together-more, productof_merge}
use Rattle.calls.proofs.Class.{accepted-ideal, sum-class}
use Rattle.calls.proofs.Exists.{two-passes}
use Rattle.calls.proofs.Answers.{Answered, short, enough, answer, two_sound}

pub record Good (c : List ℕ) (rs : List (List ℕ)) (g w : List ℕ) : Type 0 where
  pub accepted : Record c w
  pub ideals : Every (λ i. IsIdeal (Ring c) (Ideal c (entry rs i))) g
  pub class : Equivalent (Ring c) (ProductOf (Ring c) (λ i. Ideal c (entry rs i)) g) (Ideal c w)

pub record Kept (c : List ℕ) (rs gs p : List (List ℕ)) : Type 0 where
  pub together : Together (Good c rs) gs p
  pub whole : Equivalent (Ring c) (ProductOf (Ring c) (Ideal c) p) (ProductOf (Ring c) (Ideal c) rs)

pub record Stepped (c : List ℕ) (rs gs p : List (List ℕ)) (k : PoolCall) : Type 0 where
  pub answers : CallAnswer k
  pub kept : Kept c rs (groups_after k gs) (pool_after k p)
  pub left : length (pool_after k p) + one_if (leb room (length k.before)) ≡ length p

module _ (c : List ℕ) (A : AcceptedCurve c) (rs : List (List ℕ)) where
  abbrev P : Poles (Ring c)
  P = poles_on c A

  pub good-sum : (g h a b w : List ℕ) → Good c rs g a → Good c rs h b → IsSum c a b w → Good c rs (g ++ h) w
  good-sum g h a b w x y s = record {
    accepted = s.accepted;
    ideals = every_append (λ i. IsIdeal (Ring c) (Ideal c (entry rs i))) g h x.ideals y.ideals;
    class =
        equivalent_trans P
        (equivalent_sym P (productof_join P (λ i. Ideal c (entry rs i)) g h x.ideals y.ideals (equivalent_sym P x.class) (equivalent_sym P y.class)))
        (sum-class c A a b w x.accepted.1 y.accepted.1 s);
  }

  module _ (gs p : List (List ℕ)) (kept : Kept c rs gs p) (k : PoolCall) (call : IsCall c p k) where
    first : Good c rs (entry gs k.i) (entry p k.i)
    first = together-entry (Good c rs) gs p kept.together k.i call.i_below

    second : Good c rs (entry gs k.j) (entry p k.j)
    second = together-entry (Good c rs) gs p kept.together k.j call.j_below

    moved : Permᴰ p (entry p k.i ∷ entry p k.j ∷ without k.i k.j p)
    moved = without_both p k.i k.j [] call.i_below call.j_below call.apart

    -- "Buffer under 40 bytes: the call returns refusal 10. Buffer, pool and groups stay."
    short_step : length k.before < room → k.returned ≡ minus 10 → k.after ≡ k.before → Stepped c rs gs p k
    short_step l e q = record {
      answers = record { short = λ _. (e, q); enough = λ m. absurd (omega arith) };
      kept =
          subst (λ (t : List (List ℕ)). Kept c rs t (pool_after k p)) (sym (too_short room (length k.before) _ gs l))
          (subst (λ (t : List (List ℕ)). Kept c rs gs t) (sym stays) kept);
      left = omega (arith, ap length stays, tally-no room (length k.before) l);
    }
      where
        stays : pool_after k p ≡ p
        stays = too_short room (length k.before) _ p l

    module _ (w : List ℕ) (l : room ≤ length k.before) (e : k.returned ≡ pos (length w)) (q : k.after ≡ w ++ drop (length w) k.before) where
      wrote : written_by k ≡ w
      wrote = ap₂ (λ (r : ℤ) (t : List ℕ). take (amount r) t) e q ∙ take-append_seam w (drop (length w) k.before)

      enough-answer : CallAnswer k
      enough-answer = record {
        short = λ m. absurd (omega arith);
        enough = λ _. (e ∙ ap (λ (v : List ℕ). pos (length v)) (sym wrote), q ∙ ap (λ (v : List ℕ). v ++ drop (length v) k.before) (sym wrote));
      }

      comes : pool_after k p ≡ without k.i k.j p ++ w ∷ []
      comes = long-enough room (length k.before) _ p l ∙ ap (λ (v : List ℕ). without k.i k.j p ++ v ∷ []) wrote

      module _ (s : IsSum c (entry p k.i) (entry p k.j) w) where
        product : Equivalent (Ring c) (Product (Ring c) (Ideal c (entry p k.i)) (Ideal c (entry p k.j))) (Ideal c w)
        product = sum-class c A (entry p k.i) (entry p k.j) w first.accepted.1 second.accepted.1 s

        enough-kept : Kept c rs (without k.i k.j gs ++ (entry gs k.i ++ entry gs k.j) ∷ []) (without k.i k.j p ++ w ∷ [])
        enough-kept = record {
          together =
              together-more (Good c rs) (without k.i k.j gs) (without k.i k.j p) (entry gs k.i ++ entry gs k.j) w
              (together-without (Good c rs) gs p 0 k.i k.j kept.together)
              (good-sum (entry gs k.i) (entry gs k.j) (entry p k.i) (entry p k.j) w first second s);
          whole =
              equivalent_trans P (equivalent_sym P (productof_merge P (Ideal c) moved ideals (accepted-ideal c A w s.accepted.1) product)) kept.whole;
        }
          where
            ideals : Every (λ r. IsIdeal (Ring c) (Ideal c r)) p
            ideals =
                together_every (Good c rs) (λ r. IsIdeal (Ring c) (Ideal c r)) (λ g r h. accepted-ideal c A r h.accepted.1) gs p kept.together

        -- "Its two records leave the pool, the rest close up, and the bytes written come in at the end. The new record's group is the two
        -- groups together."
        enough_step : Stepped c rs gs p k
        enough_step = record {
          answers = enough-answer;
          kept =
              subst (λ (t : List (List ℕ)). Kept c rs t (pool_after k p)) (sym (long-enough room (length k.before) _ gs l))
              (subst (λ (t : List (List ℕ)). Kept c rs (without k.i k.j gs ++ (entry gs k.i ++ entry gs k.j) ∷ []) t) (sym comes) enough-kept);
          left =
              omega
              (arith, ap length comes, length-append (without k.i k.j p) (w ∷ []), perm_length moved, tally-yes room (length k.before) l);
        }

    pub step : Stepped c rs gs p k
    step =
        go
        (answer (curve_stages c ++ divisor_of c a ++ divisor_of c b) (two_sound c a b) (two-passes c A a b first.accepted.1 second.accepted.1) call.sum)
      where
        a : List ℕ
        a = entry p k.i

        b : List ℕ
        b = entry p k.j

        go : Answered (IsSum c a b) k.before k.returned k.after → Stepped c rs gs p k
        go (short l e q) = short_step l e q
        go (enough w l s e q) = enough_step w l e q s
