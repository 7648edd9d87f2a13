-- The rest of a vector by a triple tells whether it is in the span; the members of a triple tell whether its span is inside.
--   member_test            v is in the span exactly if its rest is 0
--   Within, within-start, within_more, within_stop, within_end    the loop of inside: the members before j are in the span
--   small-inside           a span that holds the span of a triple with small degrees has small degrees
use mathlib.Core.Path.{◌≡◌, refl, sym, ◌∙◌, ap, subst}
use mathlib.Core.Bool.{Bool, true, false, not, true≢false, false≢true}
use mathlib.Core.List.{List}
use Prim.Native.Nat.{ℕ, zero, suc, ◌+◌, ◌<◌, ◌≤◌}
use native.Mathlib.Omega.{arith}
use native.Mathlib.Decide.{ℕ_discrete}
use lib.ListN.{get_or-eq_default}
use borrow.Author.Tests.{not-true, not-false}
use Rattle.algebra.proofs.Laws as L
use Rattle.ideal.proofs.Degree.{monic-pole}
use Rattle.ideal.proofs.Leads.{space_neg}
use Rattle.ideal.proofs.Span.{span_space, span_sum, span_within}
use Rattle.ideal.proofs.Rules.{move}
use Rattle.powers.specs.Power.{Inside}
use Rattle.vector.specs.Vector.{Top, at, row, element}
use Rattle.vector.specs.Contract.{ZeroAsked, ZeroTest}
use Rattle.triple.specs.Setting.{Setting, ring, poles_of}
use Rattle.triple.specs.Triple.{Triple, Full, Spanned, elements}
use Rattle.triple.proofs.Element.{element-zero, element-pole, present-monic}
use Rattle.triple.proofs.Turns.{top-less}
use Rattle.triple.proofs.Members.{spanned-row, each_row}
use Rattle.triple.proofs.Leads.{spanned-lead}
use Rattle.span.specs.Contract.{ReduceAsked, Rest, Small}
use Rattle.span.proofs.Reduction.{rest-normal}
use Rattle.multiplicity.specs.Contract.{MemberAsked, MemberTest, InsideAsked, InsideTest}

pub reduce_asked : {p top : ℕ} {v : List ℕ} {s : List (List ℕ)} {e : List ℕ} → MemberAsked p v top s e → ReduceAsked p s e v top
reduce_asked h = record { triple = h.triple; vec = h.vec; v_top = h.v_top; room = h.room }

pub zero_asked : {p : ℕ} {s : List (List ℕ)} {e v w : List ℕ} → Rest p s e v w → ZeroAsked w 26
zero_asked {w = w} r = record { len = r.vec.len; v_top = λ i l. get_or-eq_default w 0 (omega (arith, r.vec.len)); room = omega arith }

-- w is the rest of v by the triple (s, e)
module _ {p : ℕ} {s : List (List ℕ)} {e v w : List ℕ} (h : Triple p s e) (r : Rest p s e v w) where
  rest-zero : (S : Setting p) → Top w 0 → Spanned S s (element p S.curve v)
  rest-zero S z = go (r.coset S)
    where
      go : (u : (ring S).Car) × Spanned S s u × (element p S.curve v ≡ (ring S).add (element p S.curve w) u) → Spanned S s (element p S.curve v)
      go (u, i, q) = subst (Spanned S s) (sym (q ∙ ap (λ g. (ring S).add g u) (element-zero S r.vec z) ∙ L.zero-add (ring S) u)) i

  -- the highest place with a number
  highest : (k n : ℕ) → Top w k → 0 < at w n → (m : ℕ) × Top w (suc m) × (0 < at w m)
  highest zero n t l = absurd (omega (arith, t n (omega arith)))
  highest (suc k) n t l = go (λ t'. highest k n t' l) (ℕ_discrete (at w k) 0)
    where
      go : (Top w k → (m : ℕ) × Top w (suc m) × (0 < at w m)) → Dec (at w k ≡ 0) → (m : ℕ) × Top w (suc m) × (0 < at w m)
      go lower (yes z) = lower (top-less w t z)
      go lower (no z) = (k, t, omega arith)

  -- the lead of a rest in the span would be a lead of the span, where the rest has no number
  rest-nonzero : (S : Setting p) (n : ℕ) → 0 < at w n → ¬ Spanned S s (element p S.curve v)
  rest-nonzero S n k i = lead (highest 26 n (zero_asked r).v_top k)
    where
      spanned : Spanned S s (element p S.curve w)
      spanned = go (r.coset S)
        where
          go : (u : (ring S).Car) × Spanned S s u × (element p S.curve v ≡ (ring S).add (element p S.curve w) u) → Spanned S s (element p S.curve w)
          go (u, j, q) =
              subst (Spanned S s) (sym (move (ring S) (sym q)))
              (span_sum (poles_of S) (elements S s) _ _ i (space_neg (poles_of S) (span_space (poles_of S) (elements S s)) j))

      lead : (m : ℕ) × Top w (suc m) × (0 < at w m) → ⊥
      lead (m, t, l) = omega (arith, rest-normal r m (spanned-lead S h spanned (element-pole S r.vec t l)).0)

  pub member_test : {b : Bool} → ZeroTest w b → MemberTest p v s b
  member_test z = record { answer = λ S. record { holds = λ e. rest-zero S (z.zero_vector e); fails = λ e. let m = z.nonzero e in rest-nonzero S m.0 m.2 } }

-- The members of t before j are in the span of s.
pub record Within (p : ℕ) (t : List (List ℕ)) (d : List ℕ) (s : List (List ℕ)) (e : List ℕ) (j : ℕ) : Type 0 where
  pub asked : InsideAsked p t d s e
  pub bound : j ≤ 3
  pub members : (S : Setting p) (i : ℕ) → i < j → Spanned S s (element p S.curve (row t i))

module _ {p : ℕ} {t : List (List ℕ)} {d : List ℕ} {s : List (List ℕ)} {e : List ℕ} where
  pub within-start : InsideAsked p t d s e → Within p t d s e 0
  within-start h = record { asked = h; bound = omega arith; members = λ S i l. absurd (omega arith) }

  module _ {j : ℕ} (h : Within p t d s e j) where
    pub within-asked : j < 3 → MemberAsked p (row t j) (at d j + 1) s e
    within-asked l =
        record {
          triple = h.asked.triple;
          vec = (h.asked.full.triple.member j l).vec;
          v_top = λ i k. (h.asked.full.present j l).top i (omega arith);
          room = omega (arith, (h.asked.full.present j l).inside);
        }

    pub within_more : {b : Bool} → j < 3 → MemberTest p (row t j) s b → (not b ≡ false) → Within p t d s e (j + 1)
    within_more {b} l m q = record { asked = h.asked; bound = omega arith; members = λ S i k. go S i k (ℕ_discrete i j) }
      where
        go : (S : Setting p) (i : ℕ) → i < j + 1 → Dec (i ≡ j) → Spanned S s (element p S.curve (row t i))
        go S i k (yes e') = subst (λ (u : ℕ). Spanned S s (element p S.curve (row t u))) (sym e') ((m.answer S).holds (not-false _ q))
        go S i k (no e') = h.members S i (omega arith)

    pub within_stop : {b : Bool} → j < 3 → MemberTest p (row t j) s b → not b ≡ true → InsideTest p t s false
    within_stop l m q =
        record {
          answer =
              λ S.
              record {
                holds = λ e'. absurd (false≢true e');
                fails = λ _ i. (m.answer S).fails (not-true _ q) (i _ (spanned-row S t j (omega (arith, h.asked.full.triple.len_t))));
              };
        }

    pub within_end : 3 ≤ j → InsideTest p t s true
    within_end l = record { answer = λ S. record { holds = λ _. inside S; fails = λ e'. absurd (true≢false e') } }
      where
        inside : (S : Setting p) → Inside (ring S) (Spanned S t) (Spanned S s)
        inside S =
            span_within (poles_of S) (elements S t) (elements S s)
            (each_row S (Spanned S s) t (λ i k. h.members S i (omega (arith, h.asked.full.triple.len_t))))

-- The degree of the member of t in a class is a lead of the greater span, so its own degree there is no higher.
pub small-inside : {p : ℕ} {t : List (List ℕ)} {d : List ℕ} {s : List (List ℕ)} {e : List ℕ} → Setting p → Full p t d → Small d → Triple p s e
    → InsideTest p t s true → Small e
small-inside {p} {t} {d} {s} {e} S f small h i j l =
    let q = f.present j l in
    let low = (spanned-lead S h ((i.answer S).holds refl _ (spanned-row S t j (omega (arith, f.triple.len_t)))) (monic-pole (poles_of S) (present-monic S (f.triple.member j l).vec q))).0 in
    omega (arith, small j l, subst (λ (c : ℕ). at e c ≤ at d j) q.class low)
