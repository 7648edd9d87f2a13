-- Each input of a call has at most one answer: what it returns and the bytes that it leaves.
--   check_curve_determined, check_divisor_determined, compare_determined, words_determined, quick_serves_determined, count_determined   calls that write nothing
--   sum_determined, common_part_determined, common_multiple_determined, double_determined, negative_determined, multiple_determined,
--   list_determined, reduce_determined     calls that write
use mathlib.Core.Path.{◌≡◌, sym, ◌∙◌, ap, subst}
use mathlib.Core.Logic.{◌⊎◌, inl, inr}
use mathlib.Core.List.{List, ◌++◌}
use Prim.Native.Nat.{ℕ}
use lib.IntN.{ℤ, pos}
use Rattle.record.specs.Cause.{Passes}
use Rattle.record.specs.Curve.{curve_size, modulus, equation, curve_stages, AcceptedCurve}
use Rattle.record.specs.Listed.{Listed}
use Rattle.record.specs.Fractions.{fractions_stages}
use Rattle.record.proofs.Cause.{passes_append}
use Rattle.record.proofs.Lists.{curve_sound, listed_once}
use Rattle.record.proofs.Fractions.{fractions_sound, reduced-one}
use Rattle.calls.specs.Answer.{Writes}
use Rattle.calls.specs.Class.{IsListSum}
use Rattle.calls.specs.Quick.{Serves}
use Rattle.calls.specs.Call.{CheckCurve, CheckDivisor, Sum, Double, Negative, Multiple, ListSum, Compare, Count, ReduceCurve, CompareWords, QuickServes, CommonPart, CommonMultiple, divisor_of, list_of, room, tally}
use Rattle.calls.proofs.Class.{Accepted, sum_one, negative-one}
use Rattle.calls.proofs.Multiples.{list-one, multiple-one}
use Rattle.calls.proofs.Parts.{part-one, common_multiple-one}
use Rattle.calls.proofs.Answers.{one_sound, two_sound, list_of_sound, writes_one, returns_one}

pub check_curve_determined : (c : List ℕ) (r s : ℤ) → CheckCurve c r → CheckCurve c s → r ≡ s
check_curve_determined c r s h k = returns_one (curve_stages c) (curve_sound c) (λ r s p e e'. e ∙ sym e') h k

pub check_divisor_determined : (c a : List ℕ) (r s : ℤ) → CheckDivisor c a r → CheckDivisor c a s → r ≡ s
check_divisor_determined c a r s h k = returns_one (curve_stages c ++ divisor_of c a) (one_sound c a) (λ r s p e e'. e ∙ sym e') h k

-- 1 for what holds and 0 for what does not exclude each other
yes_or_no : (A : Type 0) (r s : ℤ) → (A × (r ≡ pos 1)) ⊎ ((¬ A) × (r ≡ pos 0)) → (A × (s ≡ pos 1)) ⊎ ((¬ A) × (s ≡ pos 0)) → r ≡ s
yes_or_no A r s (inl (e, q)) (inl (e', q')) = q ∙ sym q'
yes_or_no A r s (inl (e, q)) (inr (n, q')) = absurd (n e)
yes_or_no A r s (inr (n, q)) (inl (e, q')) = absurd (n e)
yes_or_no A r s (inr (n, q)) (inr (n', q')) = q ∙ sym q'

pub compare_determined : (c a b : List ℕ) (r s : ℤ) → Compare c a b r → Compare c a b s → r ≡ s
compare_determined c a b r s h k =
    returns_one (curve_stages c ++ divisor_of c a ++ divisor_of c b) (two_sound c a b) (λ r s p. yes_or_no (a ≡ b) r s) h k

pub quick_serves_determined : (c a b : List ℕ) (r s : ℤ) → QuickServes c a b r → QuickServes c a b s → r ≡ s
quick_serves_determined c a b r s h k =
    returns_one (curve_stages c ++ divisor_of c a ++ divisor_of c b) (two_sound c a b) (λ r s p. yes_or_no (Serves c a b) r s) h k

pub words_determined : (c a b : List ℕ) (r s : ℤ) → CompareWords c a b r → CompareWords c a b s → r ≡ s
words_determined c a b r s h k =
    returns_one (curve_stages c ++ divisor_of c a ++ divisor_of c b) (two_sound c a b) (λ r s p e e'. e ∙ sym e') h k

pub count_determined : (c s : List ℕ) (kind : ℕ) (r t : ℤ) → Count c s kind r → Count c s kind t → r ≡ t
count_determined c s kind r t h k = returns_one (curve_stages c ++ list_of c s) (list_of_sound c s) (λ r t p. one r t) h k
  where
    one : (r t : ℤ) → (rs : List (List ℕ)) × Listed (modulus c) (equation c) s rs × (r ≡ pos (tally kind rs))
        → (rs : List (List ℕ)) × Listed (modulus c) (equation c) s rs × (t ≡ pos (tally kind rs)) → r ≡ t
    one r t (rs, l, e) (rs', l', e') =
        e ∙ ap (λ (ws : List (List ℕ)). pos (tally kind ws)) (listed_once (modulus c) (equation c) s rs rs' l l') ∙ sym e'

module _ (c out : List ℕ) where
  -- What a call that writes has checked before the buffer: the curve and one divisor, the curve and two divisors, the curve and a list.
  one-passed : (a : List ℕ) → Passes (curve_stages c ++ divisor_of c a) → AcceptedCurve c × Accepted c a
  one-passed a p = (passes_append (curve_stages c) (divisor_of c a)).0 p

  two-passed : (a b : List ℕ) → Passes (curve_stages c ++ divisor_of c a ++ divisor_of c b) → AcceptedCurve c × Accepted c a × Accepted c b
  two-passed a b p =
      let q = (passes_append (curve_stages c) (divisor_of c a ++ divisor_of c b)).0 p in
      let t = (passes_append (divisor_of c a) (divisor_of c b)).0 q.1 in
      (q.0, t.0, t.1)

  list-passed : (s : List ℕ) → Passes (curve_stages c ++ list_of c s) → AcceptedCurve c
  list-passed s p = ((passes_append (curve_stages c) (list_of c s)).0 p).0

  -- the calls on two divisors
  module _ (a b : List ℕ) (r s : ℤ) (out' out'' : List ℕ) where
    two_determined : {Good : List ℕ → Type 0} → (AcceptedCurve c → Accepted c a → Accepted c b → (w w' : List ℕ) → Good w → Good w' → w ≡ w')
        → Writes room (curve_stages c ++ divisor_of c a ++ divisor_of c b) Good out r out'
        → Writes room (curve_stages c ++ divisor_of c a ++ divisor_of c b) Good out s out'' → (r ≡ s) × (out' ≡ out'')
    two_determined one =
        writes_one (curve_stages c ++ divisor_of c a ++ divisor_of c b) (two_sound c a b) room out
        (λ w w' p. let q = two-passed a b p in one q.0 q.1 q.2 w w')

    pub sum_determined : Sum c a b out r out' → Sum c a b out s out'' → (r ≡ s) × (out' ≡ out'')
    sum_determined = two_determined (λ A h k w w'. sum_one c A a b w h k w')

    pub common_part_determined : CommonPart c a b out r out' → CommonPart c a b out s out'' → (r ≡ s) × (out' ≡ out'')
    common_part_determined = two_determined (λ A h k. part-one c A a b h k)

    pub common_multiple_determined : CommonMultiple c a b out r out' → CommonMultiple c a b out s out'' → (r ≡ s) × (out' ≡ out'')
    common_multiple_determined = two_determined (λ A h k. common_multiple-one c A a b h k)

  pub double_determined : (a : List ℕ) (r s : ℤ) (out' out'' : List ℕ) → Double c a out r out' → Double c a out s out'' → (r ≡ s) × (out' ≡ out'')
  double_determined a r s out' out'' =
      writes_one (curve_stages c ++ divisor_of c a) (one_sound c a) room out
      (λ w w' p. let q = one-passed a p in sum_one c q.0 a a w q.1 q.1 w')

  pub negative_determined : (a : List ℕ) (r s : ℤ) (out' out'' : List ℕ) → Negative c a out r out' → Negative c a out s out'' → (r ≡ s) × (out' ≡ out'')
  negative_determined a r s out' out'' =
      writes_one (curve_stages c ++ divisor_of c a) (one_sound c a) room out
      (λ w w' p. let q = one-passed a p in negative-one c q.0 a w w' q.1)

  pub multiple_determined : (a : List ℕ) (n r s : ℤ) (out' out'' : List ℕ) → Multiple c a n out r out' → Multiple c a n out s out''
      → (r ≡ s) × (out' ≡ out'')
  multiple_determined a n r s out' out'' =
      writes_one (curve_stages c ++ divisor_of c a) (one_sound c a) room out
      (λ w w' p. let q = one-passed a p in multiple-one c q.0 a q.1 n w w')

  pub list_determined : (s : List ℕ) (r t : ℤ) (out' out'' : List ℕ) → ListSum c s out r out' → ListSum c s out t out'' → (r ≡ t) × (out' ≡ out'')
  list_determined s r t out' out'' =
      writes_one (curve_stages c ++ list_of c s) (list_of_sound c s) room out (λ w w' p. one (list-passed s p) w w')
    where
      one : AcceptedCurve c → (w w' : List ℕ) → (rs : List (List ℕ)) × Listed (modulus c) (equation c) s rs × IsListSum c rs w
          → (rs : List (List ℕ)) × Listed (modulus c) (equation c) s rs × IsListSum c rs w' → w ≡ w'
      one A w w' (rs, l, h) (rs', l', h') =
          list-one c A rs w w' l.accepted h
          (subst (λ (ws : List (List ℕ)). IsListSum c ws w') (listed_once (modulus c) (equation c) s rs' rs l' l) h')

pub reduce_determined : (s : List ℕ) (p : ℕ) (out : List ℕ) (r t : ℤ) (out' out'' : List ℕ) → ReduceCurve s p out r out' → ReduceCurve s p out t out''
    → (r ≡ t) × (out' ≡ out'')
reduce_determined s p out r t out' out'' =
    writes_one (fractions_stages s p) (fractions_sound s p) curve_size out
    (λ w w' q g g'. reduced-one p q.1.0.0 s w w' q.1.1.0 g.0 g'.0)
