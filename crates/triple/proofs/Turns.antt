-- One turn of insert: what it asks of vector's functions, and what each of its four ends gives.
--   top-less               a vector below m + 1 with 0 at m is below m
--   monic_asked, clear_asked, swap_asked    what the calls of a turn require
--   turn_none              v[m] is 0: nothing is done
--   turn_clear             v less a multiple of the member of its class
--   turn_swap, turn_fill   v takes the member's place; the old member less its multiple goes on, or there was none
use mathlib.Core.Path.{◌≡◌, refl, sym, ◌∙◌, ap}
use mathlib.Core.Logic.{◌⊎◌, inl, inr}
use mathlib.Core.List.{List, [], ◌∷◌}
use Prim.Native.Nat.{ℕ, zero, suc, ◌+◌, ◌-◌, ◌/◌, ◌%◌, ◌<◌, ◌≤◌}
use native.Mathlib.Omega.{arith}
use native.Mathlib.Decide.{ℕ_discrete}
use lib.ListN.{length, set, length-set}
use lib.Seq.{get_or-set_same, get_or-set_other}
use Rattle.ideal.specs.Ideal.{SameIdeal}
use Rattle.ideal.proofs.Same.{same_trans}
use Rattle.ideal.proofs.Span.{Span, inx_mul, span_times}
use Rattle.vector.specs.Vector.{Top, at, row, element, width}
use Rattle.vector.specs.Contract.{ClearAsked, Cleared, MonicAsked, MadeMonic}
use Rattle.triple.specs.Setting.{Setting, ring, poles_of}
use Rattle.triple.specs.Triple.{Present, Absent, Member, Triple, elements}
use Rattle.triple.specs.Contract.{TurnAsked, Turned, degrees}
use Rattle.triple.proofs.Element.{constant_in, x_to_in}
use Rattle.triple.proofs.Members.{span_shift, spanned-row, swap_same}
use Rattle.triple.proofs.Leads.{present-of}

pub top-less : (v : List ℕ) {m : ℕ} → Top v (suc m) → at v m ≡ 0 → Top v m
top-less v {m} t e i l = go (ℕ_discrete i m)
  where
    go : Dec (i ≡ m) → at v i ≡ 0
    go (yes q) = ap (at v) q ∙ e
    go (no q) = t i (omega arith)

pub turn_none : {p m : ℕ} {t : List (List ℕ)} {d v : List ℕ} → TurnAsked p t d v m → at v m ≡ 0 → Turned p t d v m t d v m
turn_none {v = v} h e =
    record {
      triple = h.triple;
      vec = h.vec;
      v_top = top-less v h.v_top e;
      room = omega (arith, h.inside);
      falls = omega arith;
      same = λ S g. (λ q. q, λ q. q);
    }

-- v less a multiple of a member
cleared_same :
    {p n d : ℕ} (t : List (List ℕ)) (j : ℕ) {v v' : List ℕ} → j < length t → Cleared p v n (row t j) d v' → (S : Setting p) →
    SameIdeal (ring S) (Span (poles_of S) (element p S.curve v' ∷ elements S t)) (Span (poles_of S) (element p S.curve v ∷ elements S t))
cleared_same {p} {n} {d} t j {v} {v'} h c S =
    span_shift (poles_of S) (elements S t)
    (span_times (poles_of S) (elements S t) (inx_mul (poles_of S) (constant_in S _) (x_to_in S ((n - d) / 3))) (element p S.curve (row t j)) (spanned-row S t j h))
    (c.value S.curve)

module _ {p m : ℕ} {t : List (List ℕ)} {d v : List ℕ} (h : TurnAsked p t d v m) where
  abbrev j : ℕ
  j = m % 3

  present : at d j < width → Present (row t j) j (at d j)
  present = present-of h.triple j (omega arith)

  long : j < length t
  long = omega (arith, h.triple.len_t)

  long-d : j < length d
  long-d = omega (arith, h.triple.len_d)

  pub clear_asked : at d j ≤ m → ClearAsked p v m (row t j) (at d j)
  clear_asked l =
      let q : Present (row t j) j (at d j) = present (omega (arith, h.inside)) in
      record { v_vec = h.vec; b_vec = (h.triple.member j (omega arith)).vec; inside = h.inside; fits = l; class = sym q.class; monic = q.monic; b_top = q.top }

  pub turn_clear : {v' : List ℕ} → at d j ≤ m → Cleared p v m (row t j) (at d j) v' → Turned p t d v m t d v' m
  turn_clear {v'} l c =
      record {
        triple = h.triple;
        vec = c.vec;
        v_top = c.top h.v_top;
        room = omega (arith, h.inside);
        falls = omega arith;
        same = λ S. cleared_same t j long c S;
      }

  pub monic_asked : 0 < at v m → MonicAsked p v m
  monic_asked l = record { prime = h.prime; vec = h.vec; inside = h.inside; lead = l; top = h.v_top }

  module _ {u : List ℕ} (q : MadeMonic p v m u) where
    new-member : Member p u j m
    new-member = record { vec = q.vec; shape = inl (record { inside = h.inside; class = refl; monic = q.monic; top = q.top }) }

    set_triple : Triple p (set t j u) (set d j m)
    set_triple = record { len_t = length-set t j u ∙ h.triple.len_t; len_d = length-set d j m ∙ h.triple.len_d; member = λ i l. go i l (ℕ_discrete i j) }
      where
        go : (i : ℕ) → i < 3 → Dec (i ≡ j) → Member p (row (set t j u) i) i (at (set d j m) i)
        go i l (yes e) = rw (e, get_or-set_same t j u [] long, get_or-set_same d j m 0 long-d) new-member
        go i l (no e) = rw (get_or-set_other t j i u [] e, get_or-set_other d j i m 0 e) (h.triple.member i l)

    swapped : (S : Setting p) → SameIdeal (ring S) (Span (poles_of S) (element p S.curve (row t j) ∷ elements S (set t j u))) (Span (poles_of S) (element p S.curve v ∷ elements S t))
    swapped S = swap_same S t j long u v (constant_in S _) (constant_in S _) (q.value S.curve) (q.back S.curve)

    -- the sum of the degrees changes by that of the class j
    exchanged : degrees (set d j m) + at d j ≡ degrees d + m
    exchanged = go j (omega arith) long-d
      where
        go : (i : ℕ) → i < 3 → i < length d → degrees (set d i m) + at d i ≡ degrees d + m
        go zero l k = rw (get_or-set_same d 0 m 0 k, get_or-set_other d 0 1 m 0 (omega arith), get_or-set_other d 0 2 m 0 (omega arith)) (omega arith)
        go (suc zero) l k = rw (get_or-set_same d 1 m 0 k, get_or-set_other d 1 0 m 0 (omega arith), get_or-set_other d 1 2 m 0 (omega arith)) (omega arith)
        go (suc (suc zero)) l k = rw (get_or-set_same d 2 m 0 k, get_or-set_other d 2 0 m 0 (omega arith), get_or-set_other d 2 1 m 0 (omega arith)) (omega arith)
        go (suc (suc (suc i))) l k = absurd (omega arith)

    pub swap_asked : m < at d j → at d j < width → ClearAsked p (row t j) (at d j) (row (set t j u) j) m
    swap_asked l k =
        let o : Present (row t j) j (at d j) = present k in
        rw (get_or-set_same t j u [] long) (record { v_vec = (h.triple.member j (omega arith)).vec; b_vec = q.vec; inside = k; fits = omega arith; class = o.class; monic = q.monic; b_top = q.top })

    pub turn_swap : {v' : List ℕ} → at d j < width → Cleared p (row t j) (at d j) (row (set t j u) j) m v' → Turned p t d v m (set t j u) (set d j m) v' (at d j)
    turn_swap {v'} k c =
        record {
          triple = set_triple;
          vec = c.vec;
          v_top = c.top (present k).top;
          room = omega arith;
          falls = omega (arith, exchanged);
          same = λ S. same_trans (ring S) (cleared_same (set t j u) j (omega (arith, long, length-set t j u)) c S) (swapped S);
        }

    pub turn_fill : width ≤ at d j → Turned p t d v m (set t j u) (set d j m) (row t j) 0
    turn_fill k =
        record {
          triple = set_triple;
          vec = (h.triple.member j (omega arith)).vec;
          v_top = none (h.triple.member j (omega arith)).shape;
          room = omega arith;
          falls = omega (arith, exchanged);
          same = swapped;
        }
      where
        none : Present (row t j) j (at d j) ⊎ Absent (row t j) (at d j) → Top (row t j) 0
        none (inl o) = absurd (omega (arith, o.inside))
        none (inr o) = o.nought
