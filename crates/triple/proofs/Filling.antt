-- The loop of insert_all.
--   Filling                insert_all's invariant: j of the vectors have been put in
--   fill_start, fill_asked, fill_more, fill_end
--   fill_stop              the triple is that of the whole ring already
use mathlib.Core.Path.{sym, subst}
use mathlib.Core.List.{List, ◌++◌}
use Prim.Native.Nat.{ℕ, suc, ◌+◌, ◌*◌, ◌<◌, ◌≤◌}
use native.Mathlib.Omega.{arith}
use native.Mathlib.Numerals.{add-one}
use Rattle.ideal.specs.Ideal.{SameIdeal}
use Rattle.ideal.proofs.Every.{Every, every_append, every_left, every_right}
use Rattle.ideal.proofs.Same.{same_trans}
use Rattle.ideal.proofs.Span.{Span, span_each, span_same, span_within}
use Rattle.vector.specs.Vector.{row, element}
use Rattle.triple.specs.Setting.{Setting, ring, poles_of}
use Rattle.triple.specs.Triple.{Triple, elements, Spanned, listed}
use Rattle.triple.specs.Contract.{InsertAsked, Inserted, AllAsked, AllInserted, Whole}
use Rattle.triple.proofs.Members.{each_row, row-each}
use Rattle.triple.proofs.Leads.{whole-all}
use Rattle.triple.proofs.Listed.{listed-each, listed_at, listed-rest, span_cons}

pub record Filling (p : ℕ) (t ys t' : List (List ℕ)) (d' : List ℕ) (j : ℕ) : Type 0 where
  pub bound : j ≤ 3
  pub triple : Triple p t' d'
  pub same : (S : Setting p) → SameIdeal (ring S) (Spanned S t') (Span (poles_of S) (listed (λ i. element p S.curve (row ys i)) j (elements S t)))

module _ {p top : ℕ} {t : List (List ℕ)} {d : List ℕ} {ys : List (List ℕ)} (h : AllAsked p t d ys top) where
  pub fill_start : Filling p t ys t d 0
  fill_start = record { bound = omega arith; triple = h.triple; same = λ S g. (λ q. q, λ q. q) }

  module _ {t' : List (List ℕ)} {d' : List ℕ} {j : ℕ} (q : Filling p t ys t' d' j) where
    pub fill_asked : j < 3 → InsertAsked p t' d' (row ys j) (top + 4 * j)
    fill_asked l = record { prime = h.prime; triple = q.triple; vec = h.rows.vec j l; v_top = h.rows.tops j l; room = omega (arith, h.room) }

    pub fill_more : {t'' : List (List ℕ)} {d'' : List ℕ} → j < 3 → Inserted p t' d' (row ys j) t'' d'' → Filling p t ys t'' d'' (j + 1)
    fill_more {t''} {d''} l r = subst (Filling p t ys t'' d'') (sym (add-one j)) (record { bound = l; triple = r.triple; same = same })
      where
        same : (S : Setting p) → SameIdeal (ring S) (Spanned S t'') (Span (poles_of S) (listed (λ i. element p S.curve (row ys i)) (suc j) (elements S t)))
        same S = same_trans (ring S) (r.same S) (span_cons (poles_of S) (elements S t') (listed (λ i. element p S.curve (row ys i)) j (elements S t)) (element p S.curve (row ys j)) (q.same S))

    module _ (S : Setting p) where
      abbrev part : List (ring S).Car
      part = listed (λ i. element p S.curve (row ys i)) j (elements S t)

      abbrev all : List (ring S).Car
      all = elements S ys ++ elements S t

      there : Every (Span (poles_of S) all) part
      there =
          listed-each (Span (poles_of S) all) (λ i. element p S.curve (row ys i)) j (elements S t)
          (λ i l. row-each S (Span (poles_of S) all) ys (every_left (Span (poles_of S) all) (elements S ys) (elements S t) (span_each (poles_of S) all)) i (omega (arith, h.rows.len, q.bound)))
          (every_right (Span (poles_of S) all) (elements S ys) (elements S t) (span_each (poles_of S) all))

      back : 3 ≤ j → Every (Span (poles_of S) part) all
      back k =
          every_append (Span (poles_of S) part) (elements S ys) (elements S t)
          (each_row S (Span (poles_of S) part) ys (λ i l. listed_at (Span (poles_of S) part) (λ i. element p S.curve (row ys i)) j (elements S t) (span_each (poles_of S) part) i
          (omega (arith, h.rows.len))))
          (listed-rest (Span (poles_of S) part) (λ i. element p S.curve (row ys i)) j (elements S t) (span_each (poles_of S) part))

    pub fill_end : 3 ≤ j → AllInserted p t d ys t' d'
    fill_end k = record { triple = q.triple; same = λ S. same_trans (ring S) (q.same S) (span_same (poles_of S) (part S) (all S) (there S) (back S k)) }

    pub fill_stop : Whole d' → AllInserted p t d ys t' d'
    fill_stop w = record { triple = q.triple; same = λ S g. (λ m. span_within (poles_of S) (part S) (all S) (there S) g ((q.same S g).0 m), λ m. whole-all S q.triple w g) }
