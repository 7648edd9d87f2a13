-- The test of a worked sum, and what it shows.
--   Certificate r          what the test of the row r is given
--   Step                   of a multiple: the record of one copy more, its certificate, and how it is the sum of the one before and a
--   test r k               the test; means_sound: what it accepts holds
--   answer                 what holds by the definitions, the call returns
--   tests rs ks            the tests of all rows; shown: then each row holds, and its call answers accordingly
use mathlib.Core.Path.{◌≡◌, refl, sym, subst}
use mathlib.Core.Bool.{Bool, true}
use mathlib.Core.List.{List, [], ◌∷◌, ◌++◌}
use Prim.Native.Nat.{ℕ, suc, ◌+◌}
use native.Mathlib.Omega.{arith}
use lib.Dec.{T, eqb, eqb→eq}
use lib.ListN.{length, drop, replicate}
use lib.IntN.{pos}
use Rattle.algebra.proofs.Norm.{E}
use Rattle.algebra.proofs.Test.{both, both_left, both_right}
use Rattle.prime.specs.Prime.{Prime}
use Rattle.ideal.proofs.Every.{Every}
use Rattle.record.specs.Cause.{FirstCause}
use Rattle.record.specs.Curve.{modulus, curve_stages, AcceptedCurve, accepted_prime}
use Rattle.calls.specs.Answer.{minus, refused, answered}
use Rattle.calls.specs.Class.{IsSum, IsListSum}
use Rattle.calls.specs.Call.{divisor_of}
use Rattle.calls.proofs.Answers.{writes_enough}
use Rattle.calls.proofs.Multiples.{list-single, multiple-add}
use Rattle.calls.proofs.Exists.{one_passes, two-passes}
use Rattle.calls.proofs.Determined.{check_curve_determined, check_divisor_determined, sum_determined, double_determined, negative_determined, multiple_determined}
use Rattle.worked.specs.Table.{Row, point, sum, double, negative, multiple, divisor_refused, divisor_accepted, curve_refused, curve_accepted, Means, Answer}
use Rattle.worked.proofs.Accepted.{Smooth, smooth, curve_sound, Singular, singular, singular_sound, Known, known, known_reads, known_record, Spoilt, spoilt, spoilt_sound}
use Rattle.worked.proofs.Link.{Link, link, sum_sound}
use Rattle.worked.proofs.Negative.{negated, negative_sound, located, point_sound}

pub record Step : Type 0 where
  pub result : List ℕ
  pub kept : Known
  pub made : Link

abbrev pub Certificate : Row → Type 0
Certificate (point c a b w) = Smooth × Known
Certificate (sum c a b w) = Smooth × Known × Known × Known × Link
Certificate (double c a w) = Smooth × Known × Known × Link
Certificate (negative c a w) = Smooth × Known × Known × List E
Certificate (multiple c a n w) = Smooth × Known × List Step × Known × Link
Certificate (divisor_refused c a n) = Smooth × Spoilt
Certificate (divisor_accepted c a) = Smooth × Known
Certificate (curve_refused c n) = Singular
Certificate (curve_accepted c) = Smooth

-- w is a record, and the sum of a and b
abbrev added : (c a b w : List ℕ) → Known → Known → Known → Link → Bool
added c a b w ka kb kw k = both (known c w kw) (link c a b w ka.kind kb.kind kw.kind k)

-- from u, by adding a once for each step and once more, to w
abbrev chain : (c a u : List ℕ) → Known → Known → List Step → (w : List ℕ) → Known → Link → Bool
chain c a u ka ku [] w kw k = added c u a w ku ka kw k
chain c a u ka ku (s ∷ ss) w kw k = both (added c u a s.result ku ka s.kept s.made) (chain c a s.result ka s.kept ss w kw k)

abbrev pub test : (r : Row) → Certificate r → Bool
test (point c a b w) k = both (smooth c k.0) (both (known c w k.1) (located c a b k.1.kind w))
test (sum c a b w) k = both (smooth c k.0) (both (known c a k.1) (both (known c b k.2) (added c a b w k.1 k.2 k.3 k.4)))
test (double c a w) k = both (smooth c k.0) (both (known c a k.1) (added c a a w k.1 k.1 k.2 k.3))
test (negative c a w) k = both (smooth c k.0) (both (known c a k.1) (both (known c w k.2) (negated c a w k.1.kind k.2.kind k.3)))
test (multiple c a n w) k =
    both (smooth c k.0) (both (known c a k.1) (both (eqb n (2 + length k.2)) (chain c a a k.1 k.1 k.2 w k.3 k.4)))
test (divisor_refused c a n) k = both (smooth c k.0) (spoilt c a n k.1)
test (divisor_accepted c a) k = both (smooth c k.0) (known c a k.1)
test (curve_refused c n) k = both (eqb n 5) (singular c k)
test (curve_accepted c) k = smooth c k

module _ (c : List ℕ) (A : AcceptedCurve c) where
  abbrev h : Prime (modulus c)
  h = accepted_prime c A

  added_sound : (a b w : List ℕ) (ka kb kw : Known) (k : Link) → T (known c a ka) → T (known c b kb) → T (added c a b w ka kb kw k)
      → IsSum c a b w
  added_sound a b w ka kb kw k ta tb t =
      let tw = both_left (known c w kw) _ t in
      sum_sound c A a b w ka.kind kb.kind kw.kind
      (known_reads c h a ka ta).kind (known_reads c h b kb tb).kind (known_reads c h w kw tw).kind
      (known_record c h w kw tw) k (both_right (known c w kw) _ t)

  one_more : (a : List ℕ) (ka : Known) → T (known c a ka) → (m : ℕ) (u : List ℕ) (ku : Known) (w : List ℕ) (kw : Known) (k : Link)
      → T (known c u ku) → IsListSum c (replicate m a) u → T (added c u a w ku ka kw k) → IsListSum c (replicate (m + 1) a) w
  one_more a ka ta m u ku w kw k tu s t =
      let ra = known_record c h a ka ta in
      multiple-add c A a ra.1 m 1 u a w s (list-single c A a ra) (added_sound u a w ku ka kw k tu ta t)

  chain_sound : (a : List ℕ) (ka : Known) → T (known c a ka) → (m : ℕ) (u : List ℕ) (ku : Known) (ss : List Step) (w : List ℕ) (kw : Known) (k : Link)
      → T (known c u ku) → IsListSum c (replicate m a) u → T (chain c a u ka ku ss w kw k) → IsListSum c (replicate (m + 1 + length ss) a) w
  chain_sound a ka ta m u ku [] w kw k tu s t =
      let e : m + 1 ≡ m + 1 + 0 = omega arith in
      subst (λ (i : ℕ). IsListSum c (replicate i a) w) e (one_more a ka ta m u ku w kw k tu s t)
  chain_sound a ka ta m u ku (v ∷ ss) w kw k tu s t =
      let t₁ = both_left (added c u a v.result ku ka v.kept v.made) _ t in
      let e : m + 1 + 1 + length ss ≡ m + 1 + suc (length ss) = omega arith in
      subst (λ (i : ℕ). IsListSum c (replicate i a) w) e
      (chain_sound a ka ta (m + 1) v.result v.kept ss w kw k (both_left (known c v.result v.kept) _ t₁)
      (one_more a ka ta m u ku v.result v.kept v.made tu s t₁)
      (both_right (added c u a v.result ku ka v.kept v.made) _ t))

pub means_sound : (r : Row) (k : Certificate r) → T (test r k) → Means r
means_sound (point c a b w) k t =
    let A = curve_sound c k.0 (both_left (smooth c k.0) _ t) in
    let t₁ = both_right (smooth c k.0) _ t in
    let tw = both_left (known c w k.1) _ t₁ in
    let kind = (known_reads c (h c A) w k.1 tw).kind in
    (A, known_record c (h c A) w k.1 tw, point_sound c a b k.1.kind w kind (both_right (known c w k.1) _ t₁))
means_sound (sum c a b w) k t =
    let A = curve_sound c k.0 (both_left (smooth c k.0) _ t) in
    let t₁ = both_right (smooth c k.0) _ t in
    let ta = both_left (known c a k.1) _ t₁ in
    let t₂ = both_right (known c a k.1) _ t₁ in
    let tb = both_left (known c b k.2) _ t₂ in
    let s = added_sound c A a b w k.1 k.2 k.3 k.4 ta tb (both_right (known c b k.2) _ t₂) in
    (A, known_record c (h c A) a k.1 ta, known_record c (h c A) b k.2 tb, s)
means_sound (double c a w) k t =
    let A = curve_sound c k.0 (both_left (smooth c k.0) _ t) in
    let t₁ = both_right (smooth c k.0) _ t in
    let ta = both_left (known c a k.1) _ t₁ in
    (A, known_record c (h c A) a k.1 ta, added_sound c A a a w k.1 k.1 k.2 k.3 ta ta (both_right (known c a k.1) _ t₁))
means_sound (negative c a w) k t =
    let A = curve_sound c k.0 (both_left (smooth c k.0) _ t) in
    let t₁ = both_right (smooth c k.0) _ t in
    let ta = both_left (known c a k.1) _ t₁ in
    let t₂ = both_right (known c a k.1) _ t₁ in
    let tw = both_left (known c w k.2) _ t₂ in
    let reads = known_reads c (h c A) a k.1 ta in
    let kind = (known_reads c (h c A) w k.2 tw).kind in
    let record-w = known_record c (h c A) w k.2 tw in
    let s = negative_sound c A a w k.1.kind k.2.kind reads kind record-w k.3 (both_right (known c w k.2) _ t₂) in
    (A, known_record c (h c A) a k.1 ta, s)
means_sound (multiple c a n w) k t =
    let A = curve_sound c k.0 (both_left (smooth c k.0) _ t) in
    let t₁ = both_right (smooth c k.0) _ t in
    let ta = both_left (known c a k.1) _ t₁ in
    let t₂ = both_right (known c a k.1) _ t₁ in
    let e : n ≡ 2 + length k.2 = eqb→eq n (2 + length k.2) (both_left (eqb n (2 + length k.2)) _ t₂) in
    let e' : 1 + 1 + length k.2 ≡ n = omega arith in
    let r = known_record c (h c A) a k.1 ta in
    let t₃ = both_right (eqb n (2 + length k.2)) _ t₂ in
    let s = chain_sound c A a k.1 ta 1 a k.1 k.2 w k.3 k.4 ta (list-single c A a r) t₃ in
    (A, r, subst (λ (i : ℕ). IsListSum c (replicate i a) w) e' s)
means_sound (divisor_refused c a n) k t =
    let A = curve_sound c k.0 (both_left (smooth c k.0) _ t) in
    spoilt_sound c (h c A) a n k.1 A (both_right (smooth c k.0) _ t)
means_sound (divisor_accepted c a) k t =
    let A = curve_sound c k.0 (both_left (smooth c k.0) _ t) in
    (A, known_record c (h c A) a k.1 (both_right (smooth c k.0) _ t))
means_sound (curve_refused c n) k t =
    subst (FirstCause (curve_stages c)) (sym (eqb→eq n 5 (both_left (eqb n 5) _ t))) (singular_sound c k (both_right (eqb n 5) _ t))
means_sound (curve_accepted c) k t = curve_sound c k t

pub answer : (r : Row) → Means r → Answer r
answer (point c a b w) (A, ra, i) = λ r e. check_divisor_determined c w r (pos 1) e (answered (one_passes c A w ra.1) refl)
answer (sum c a b w) (A, ra, rb, s) =
    λ out r out' l e.
    sum_determined c out a b r (pos (length w)) out' (w ++ drop (length w) out) e (writes_enough (curve_stages c ++ divisor_of c a ++ divisor_of c b) (two-passes c A a b ra.1 rb.1) w l s refl refl)
answer (double c a w) (A, ra, s) =
    λ out r out' l e.
    double_determined c out a r (pos (length w)) out' (w ++ drop (length w) out) e (writes_enough (curve_stages c ++ divisor_of c a) (one_passes c A a ra.1) w l s refl refl)
answer (negative c a w) (A, ra, s) =
    λ out r out' l e.
    negative_determined c out a r (pos (length w)) out' (w ++ drop (length w) out) e (writes_enough (curve_stages c ++ divisor_of c a) (one_passes c A a ra.1) w l s refl refl)
answer (multiple c a n w) (A, ra, s) =
    λ out r out' l e.
    multiple_determined c out a (pos n) r (pos (length w)) out' (w ++ drop (length w) out) e (writes_enough (curve_stages c ++ divisor_of c a) (one_passes c A a ra.1) w l s refl refl)
answer (divisor_refused c a n) f = λ r e. check_divisor_determined c a r (minus n) e (refused n f refl)
answer (divisor_accepted c a) (A, ra) = λ r e. check_divisor_determined c a r (pos 1) e (answered (one_passes c A a ra.1) refl)
answer (curve_refused c n) f = λ r e. check_curve_determined c r (minus n) e (refused n f refl)
answer (curve_accepted c) A = λ r e. check_curve_determined c r (pos 1) e (answered A refl)

abbrev pub tests : (rs : List Row) → Every Certificate rs → Bool
tests [] ks = true
tests (r ∷ rs) ks = both (test r ks.0) (tests rs ks.1)

pub shown : (rs : List Row) (ks : Every Certificate rs) → T (tests rs ks) → Every (λ r. Means r × Answer r) rs
shown [] ks t = tt
shown (r ∷ rs) ks t =
    let m = means_sound r ks.0 (both_left (test r ks.0) _ t) in
    ((m, answer r m), shown rs ks.1 (both_right (test r ks.0) _ t))
