-- The loop of insert: v goes down to zero while the span of the triple and v stays.
--   Inserting              the loop's invariant: v is below n
--   insert_start, insert_asked, insert_more, insert_end
use mathlib.Core.Path.{◌≡◌, sym, subst}
use mathlib.Core.Logic.{◌⊎◌, inl, inr}
use mathlib.Core.List.{List, ◌∷◌}
use Prim.Native.Nat.{ℕ, suc, ◌-◌, ◌%◌, ◌<◌, ◌≤◌}
use native.Mathlib.Omega.{arith}
use Rattle.prime.specs.Prime.{Prime}
use Rattle.ideal.specs.Ideal.{SameIdeal}
use Rattle.ideal.proofs.Degree.{monic-pole}
use Rattle.ideal.proofs.Every.{Every, every_map}
use Rattle.ideal.proofs.Same.{same_trans}
use Rattle.ideal.proofs.Span.{Span, span_each, span_first, span_nil, span_rest, span_same}
use Rattle.vector.specs.Vector.{Vec, Top, at, row, element, width}
use Rattle.triple.specs.Setting.{Setting, ring, poles_of}
use Rattle.triple.specs.Triple.{Present, Absent, Triple, elements, Spanned}
use Rattle.triple.specs.Contract.{InsertAsked, Inserted, TurnAsked, Turned}
use Rattle.triple.proofs.Element.{element-zero, element-pole, present-monic}
use Rattle.triple.proofs.Members.{beside_row, setting_of}
use Rattle.triple.proofs.Leads.{degree_most, spanned-lead}

pub record Inserting (p : ℕ) (t : List (List ℕ)) (d v : List ℕ) (t' : List (List ℕ)) (d' v' : List ℕ) (n : ℕ) : Type 0 where
  pub prime : Prime p
  pub old : Triple p t d
  pub old_vec : Vec p v
  pub triple : Triple p t' d'
  pub vec : Vec p v'
  pub v_top : Top v' n
  pub room : n ≤ width
  pub same : (S : Setting p) → SameIdeal (ring S) (Span (poles_of S) (element p S.curve v' ∷ elements S t')) (Span (poles_of S) (element p S.curve v ∷ elements S t))

pub insert_start : {p top : ℕ} {t : List (List ℕ)} {d v : List ℕ} → InsertAsked p t d v top → Inserting p t d v t d v top
insert_start h =
    record {
      prime = h.prime;
      old = h.triple;
      old_vec = h.vec;
      triple = h.triple;
      vec = h.vec;
      v_top = h.v_top;
      room = h.room;
      same = λ S g. (λ q. q, λ q. q);
    }

module _ {p n : ℕ} {t : List (List ℕ)} {d v : List ℕ} {t' : List (List ℕ)} {d' v' : List ℕ} (h : Inserting p t d v t' d' v' n) where
  pub insert_asked : 0 < n → TurnAsked p t' d' v' (n - 1)
  insert_asked l = record { prime = h.prime; triple = h.triple; vec = h.vec; inside = omega (arith, h.room); v_top = λ i k. h.v_top i (omega arith) }

  pub insert_more : {m : ℕ} {t'' : List (List ℕ)} {d'' v'' : List ℕ} → Turned p t' d' v' (n - 1) t'' d'' v'' m → Inserting p t d v t'' d'' v'' m
  insert_more q =
      record {
        prime = h.prime;
        old = h.old;
        old_vec = h.old_vec;
        triple = q.triple;
        vec = q.vec;
        v_top = q.v_top;
        room = q.room;
        same = λ S. same_trans (ring S) (q.same S) (h.same S);
      }

  -- without v, which is zero
  spanned : n ≡ 0 → (S : Setting p) → SameIdeal (ring S) (Spanned S t') (Span (poles_of S) (element p S.curve v ∷ elements S t))
  spanned e S =
      same_trans (ring S)
      (span_same (poles_of S) (elements S t') (element p S.curve v' ∷ elements S t') (every_map (span_rest (poles_of S) _ (elements S t')) (elements S t') each)
      (subst (Spanned S t') (sym gone) (span_nil (poles_of S) (elements S t')), each))
      (h.same S)
    where
      each : Every (Spanned S t') (elements S t')
      each = span_each (poles_of S) (elements S t')

      gone : element p S.curve v' ≡ (ring S).zero
      gone = element-zero S h.vec (subst (Top v') e h.v_top)

  pub insert_end : n ≡ 0 → Inserted p t d v t' d'
  insert_end e = record { triple = h.triple; lower = lower; fills = fills; same = spanned e }
    where
      S : Setting p
      S = setting_of h.prime

      fills : (m : ℕ) → m < width → 0 < at v m → Top v (suc m) → at d' (m % 3) ≤ m
      fills m l k c = (spanned-lead S h.triple ((spanned e S _).1 (span_first (poles_of S) (element p S.curve v) (elements S t))) (element-pole S h.old_vec c k)).0

      lower : (j : ℕ) → j < 3 → at d' j ≤ at d j
      lower j l = go (h.old.member j l).shape
        where
          go : Present (row t j) j (at d j) ⊎ Absent (row t j) (at d j) → at d' j ≤ at d j
          go (inr q) = omega (arith, degree_most h.triple j l, q.none)
          go (inl q) =
              subst (λ i. at d' i ≤ at d j) q.class
              (spanned-lead S h.triple ((spanned e S _).1 (beside_row S (element p S.curve v) t j (omega (arith, h.old.len_t))))
              (monic-pole (poles_of S) (present-monic S (h.old.member j l).vec q))).0
