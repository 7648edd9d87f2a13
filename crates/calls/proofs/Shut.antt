-- Document 01, "Strength of the contracts" (c): versions that the definitions of the calls shut out.
--   curve_accepted, divisor_accepted   an accepted input is not refused: a check of it returns 1
--   plus-zero              a plus the zero record writes a: sums are not always zero, and the buffer is written
--   compare_self           a record and itself: the comparison says yes
--   words_self, words_kinds    document 02, 2026-03: a record and itself, all words are compared; records of different kinds, one pair
--   list-pair              the list call on two records gives what the sum call gives: no record is skipped
--   count-all              a count is the number of the list's records of that kind
--   no_call                with one record or none, no call can be made
--   refused-reduced, refused-negative, refused-pool    on a refused curve no record is a result, and nothing is claimed of a pool
use mathlib.Core.Path.{◌≡◌, refl, sym, ◌∙◌, ap, subst}
use mathlib.Core.Logic.{◌⊎◌, inl, inr}
use mathlib.Core.List.{List, [], ◌∷◌, ◌++◌}
use Prim.Native.Nat.{ℕ, ◌/◌, ◌<◌, ◌≤◌}
use native.Mathlib.Omega.{arith}
use lib.ListN.{length, drop, length-append}
use lib.IntN.{ℤ, pos}
use Rattle.layout.specs.Layout.{number2}
use Rattle.words.specs.Words.{words}
use Rattle.words.proofs.Compared.{length_words, compared_self, compared_kinds}
use Rattle.record.specs.Cause.{Stage, Passes}
use Rattle.record.specs.Curve.{modulus, equation, curve_stages, AcceptedCurve}
use Rattle.record.specs.Listed.{joined, Listed, list_limit}
use Rattle.record.proofs.Cause.{AllSound, passes_refuses}
use Rattle.record.proofs.Lists.{curve_sound, listed_once}
use Rattle.calls.specs.Answer.{Gives, Returns, refused, answered}
use Rattle.calls.specs.Class.{Ring, Record, zero_record, ReducedOf, IsSum, IsNegative, IsListSum}
use Rattle.calls.specs.Call.{CheckCurve, CheckDivisor, Sum, ListSum, Compare, Count, CompareWords, divisor_of, list_of, room, tally}
use Rattle.calls.specs.Pool.{PoolCall, IsCall, PoolEnd}
use Rattle.calls.proofs.Class.{Accepted, zero-accepted, sum_one, sum_comm, zero_neutral}
use Rattle.calls.proofs.Multiples.{list-one, list_append, list-single}
use Rattle.calls.proofs.Exists.{one_passes, two-passes, list-passes}
use Rattle.calls.proofs.Answers.{Answered, short, enough, answer, one_sound, two_sound, list_of_sound, record_fits}

-- what a call without a cause of refusal returns
returned : (ss : List Stage) → AllSound ss → Passes ss → {Good : ℤ → Type 0} {r : ℤ} → Returns ss Good r → Good r
returned ss sound p (refused n f e) = absurd (passes_refuses ss sound p n f)
returned ss sound p (answered q g) = g

module _ (c : List ℕ) (A : AcceptedCurve c) where
  pub curve_accepted : (r : ℤ) → CheckCurve c r → r ≡ pos 1
  curve_accepted r h = returned (curve_stages c) (curve_sound c) A h

  pub divisor_accepted : (a : List ℕ) (r : ℤ) → Accepted c a → CheckDivisor c a r → r ≡ pos 1
  divisor_accepted a r p h = returned (curve_stages c ++ divisor_of c a) (one_sound c a) (one_passes c A a p) h

  pub plus-zero : (a out : List ℕ) (r : ℤ) (out' : List ℕ) → Record c a → room ≤ length out → Sum c a zero_record out r out'
      → Gives a out r out'
  plus-zero a out r out' ra l h =
      go
      (answer (curve_stages c ++ divisor_of c a ++ divisor_of c zero_record) (two_sound c a zero_record) (two-passes c A a zero_record ra.1 (zero-accepted c).1) h)
    where
      go : Answered (IsSum c a zero_record) out r out' → Gives a out r out'
      go (short m e q) = absurd (omega arith)
      go (enough w m s e q) = (e ∙ ap (λ (v : List ℕ). pos (length v)) same, q ∙ ap (λ (v : List ℕ). v ++ drop (length v) out) same)
        where
          same : w ≡ a
          same =
              sum_one c A a zero_record w ra.1 (zero-accepted c).1 a s
              (sum_comm c A zero_record a a (zero-accepted c).1 ra.1 (zero_neutral c A a ra))

  pub compare_self : (a : List ℕ) (r : ℤ) → Accepted c a → Compare c a a r → r ≡ pos 1
  compare_self a r p h = go (returned (curve_stages c ++ divisor_of c a ++ divisor_of c a) (two_sound c a a) (two-passes c A a a p p) h)
    where
      go : ((a ≡ a) × (r ≡ pos 1)) ⊎ ((¬ (a ≡ a)) × (r ≡ pos 0)) → r ≡ pos 1
      go (inl (e, q)) = q
      go (inr (n, q)) = absurd (n refl)

  pub words_self : (a : List ℕ) (r : ℤ) → Accepted c a → CompareWords c a a r → r ≡ pos (length a / 4)
  words_self a r p h =
      returned (curve_stages c ++ divisor_of c a ++ divisor_of c a) (two_sound c a a) (two-passes c A a a p p) h
      ∙ ap pos (compared_self (words a) ∙ length_words a)

  pub words_kinds : (a b : List ℕ) (r : ℤ) → Record c a → Record c b → ¬ (number2 a 2 ≡ number2 b 2) → CompareWords c a b r → r ≡ pos 1
  words_kinds a b r (f, p) (g, q) d h =
      returned (curve_stages c ++ divisor_of c a ++ divisor_of c b) (two_sound c a b) (two-passes c A a b p q) h
      ∙ ap pos (compared_kinds a b f p.0.0 g q.0.0 d)

  pub count-all : (s : List ℕ) (rs : List (List ℕ)) (kind : ℕ) (r : ℤ) → length s ≤ list_limit → Listed (modulus c) (equation c) s rs
      → Count c s kind r
      → r ≡ pos (tally kind rs)
  count-all s rs kind r few l h = go (returned (curve_stages c ++ list_of c s) (list_of_sound c s) (list-passes c A s rs few l) h)
    where
      go : (ts : List (List ℕ)) × Listed (modulus c) (equation c) s ts × (r ≡ pos (tally kind ts)) → r ≡ pos (tally kind rs)
      go (ts, lt, e) = e ∙ ap (λ (us : List (List ℕ)). pos (tally kind us)) (listed_once (modulus c) (equation c) s ts rs lt l)

  module _ (a b : List ℕ) (ra : Record c a) (rb : Record c b) where
    pair : Listed (modulus c) (equation c) (joined (a ∷ b ∷ [])) (a ∷ b ∷ [])
    pair = record { is = refl; accepted = (ra.1, (rb.1, tt)) }

    few : length (joined (a ∷ b ∷ [])) ≤ list_limit
    few = omega (arith, length-append a (b ++ []), length-append b [], (record_fits c a ra).1, (record_fits c b rb).1)

    pub list-pair : (out : List ℕ) (r s : ℤ) (out' out'' : List ℕ) → ListSum c (joined (a ∷ b ∷ [])) out r out' → Sum c a b out s out''
        → (r ≡ s) × (out' ≡ out'')
    list-pair out r s out' out'' h k =
        go
        (answer (curve_stages c ++ list_of c (joined (a ∷ b ∷ []))) (list_of_sound c (joined (a ∷ b ∷ []))) (list-passes c A (joined (a ∷ b ∷ [])) (a ∷ b ∷ []) few pair) h)
        (answer (curve_stages c ++ divisor_of c a ++ divisor_of c b) (two_sound c a b) (two-passes c A a b ra.1 rb.1) k)
      where
        go : Answered (λ w. (ts : List (List ℕ)) × Listed (modulus c) (equation c) (joined (a ∷ b ∷ [])) ts × IsListSum c ts w) out r out'
            → Answered (IsSum c a b) out s out'' → (r ≡ s) × (out' ≡ out'')
        go (short m e q) (short m' e' q') = (e ∙ sym e', q ∙ sym q')
        go (short m e q) (enough w m' g e' q') = absurd (omega arith)
        go (enough w m g e q) (short m' e' q') = absurd (omega arith)
        go (enough w m (ts, l, g) e q) (enough w' m' g' e' q') =
            (e ∙ ap (λ (v : List ℕ). pos (length v)) same ∙ sym e', q ∙ ap (λ (v : List ℕ). v ++ drop (length v) out) same ∙ sym q')
          where
            same : w ≡ w'
            same =
                list-one c A (a ∷ b ∷ []) w w' pair.accepted
                (subst (λ (us : List (List ℕ)). IsListSum c us w) (listed_once (modulus c) (equation c) (joined (a ∷ b ∷ [])) ts (a ∷ b ∷ []) l pair) g)
                (list_append c A (a ∷ []) (b ∷ []) a b w' (ra.1, tt) (rb.1, tt) (list-single c A a ra) (list-single c A b rb) g')

-- "With one record or none, no call can be made."
pub no_call : (c : List ℕ) (p : List (List ℕ)) (k : PoolCall) → length p < 2 → ¬ IsCall c p k
no_call c p k l h = h.apart (omega (arith, h.i_below, h.j_below))

module _ (c : List ℕ) (n : ¬ AcceptedCurve c) where
  pub refused-reduced : (J : (Ring c).Car → Type 0) (w : List ℕ) → ¬ ReducedOf c J w
  refused-reduced J w h = n h.curve

  pub refused-negative : (a w : List ℕ) → ¬ IsNegative c a w
  refused-negative a w h = n h.curve

  pub refused-pool : (rs : List (List ℕ)) (ks : List PoolCall) → ¬ PoolEnd c rs ks
  refused-pool rs ks h = n h.curve
