-- Spans of lists of elements, by their members.
--   every_at, at_every     what holds of each element of a list, by number
--   spanned-row            the span of t holds each member
--   each_row               what holds of each member holds of each element
--   span_shift             u − s for u, with s in the span of the others
--   row-each, beside_row   the rows of a triple, and one vector beside them
--   swap_same              a member of t is exchanged for a multiple of v by a constant, and v for the member
--   setting_of             a setting, for every prime
use mathlib.Core.Path.{◌≡◌, sym, ◌∙◌, ap, subst}
use mathlib.Core.List.{List, [], ◌∷◌}
use Prim.Native.Nat.{ℕ, zero, suc, ◌<◌}
use native.Mathlib.Omega.{arith}
use native.Mathlib.Nat.{le_of_suc-le-suc}
use native.Mathlib.Decide.{ℕ_discrete}
use lib.ListN.{length, get_or, set, length-set}
use lib.Seq.{get_or-set_same, get_or-set_other}
use Rattle.algebra.specs.Ring.{CommRing}
use Rattle.algebra.proofs.Laws.{ring}
use Rattle.prime.specs.Prime.{Prime}
use Rattle.field.specs.Residue.{Z}
use Rattle.prime_field.specs.Field.{F}
use Rattle.ideal.specs.Ideal.{SameIdeal}
use Rattle.ideal.specs.Poles.{Poles}
use Rattle.ideal.proofs.Every.{Every, every_map, every_source, every_image}
use Rattle.ideal.proofs.Leads.{space_neg}
use Rattle.ideal.proofs.Span.{InX, inx_one, Span, span_each, span_first, span_rest, span_same, span_space, span_times}
use Rattle.vector.specs.Vector.{row, element}
use Rattle.triple.specs.Setting as setting
use Rattle.triple.specs.Setting.{Setting, poles_of}
use Rattle.triple.specs.Triple.{elements, Spanned}

module _ {X : Type 0} (d : X) (Q : X → Type 0) where
  pub every_at : (xs : List X) → Every Q xs → (j : ℕ) → j < length xs → Q (get_or xs j d)
  every_at [] _ j h = absurd (omega arith)
  every_at (x ∷ xs) (q, qs) zero h = q
  every_at (x ∷ xs) (q, qs) (suc j) h = every_at xs qs j (le_of_suc-le-suc h)

  pub at_every : (xs : List X) → ((j : ℕ) → j < length xs → Q (get_or xs j d)) → Every Q xs
  at_every [] f = tt
  at_every (x ∷ xs) f = (f 0 (omega arith), at_every xs (λ j h. f (suc j) (omega arith)))

module _ {R : CommRing} (P : Poles R) where
  open R use {Car, one, add as ◌⊕◌, mul as ◌⊗◌, neg as ⊖◌}

  infixl 60 ◌⊕◌
  infixl 70 ◌⊗◌
  infix 80 ⊖◌
  plus-form : (u s : Car) → u ⊕ s ≡ one ⊗ u ⊕ s
  plus-form u s = simp ring

  less-form : (u s : Car) → u ≡ one ⊗ (u ⊕ s) ⊕ ⊖ s
  less-form u s = simp ring

  pub span_shift : (bs : List Car) {u u' s : Car} → Span P bs s → u ≡ u' ⊕ s → SameIdeal R (Span P (u' ∷ bs)) (Span P (u ∷ bs))
  span_shift bs {u} {u'} {s} m e = span_same P (u' ∷ bs) (u ∷ bs) (less, every_map (span_rest P u bs) bs (span_each P bs)) (more, every_map (span_rest P u' bs) bs (span_each P bs))
    where
      less : Span P (u ∷ bs) u'
      less = (one, ⊖ s, inx_one P, space_neg P (span_space P bs) m, less-form u' s ∙ ap (λ t. one ⊗ t ⊕ ⊖ s) (sym e))

      more : Span P (u' ∷ bs) u
      more = (one, s, inx_one P, m, e ∙ plus-form u' s)

  -- c·u is in a span with u
  span_multiple : (bs : List Car) {c u w : Car} → InX P c → w ≡ c ⊗ u → Span P bs u → Span P bs w
  span_multiple bs {c} {u} i e m = subst (Span P bs) (sym e) (span_times P bs i u m)

-- y³ = −x⁴
pub setting_of : {p : ℕ} → Prime p → Setting p
setting_of {p} h =
    record {
      prime = h;
      curve = record { a0 = (Z p).one; c0 = (Z p).zero; c1 = (Z p).zero; c2 = (Z p).zero; c3 = (Z p).zero; c4 = (Z p).zero; c5 = (Z p).zero; c6 = (Z p).zero; c7 = (Z p).zero; c8 = (Z p).zero };
      nonzero = (F p h).nontrivial;
    }

module _ {p : ℕ} (S : Setting p) where
  abbrev Car : Type 0
  Car = (setting.ring S).Car

  abbrev P : Poles (setting.ring S)
  P = poles_of S

  abbrev el : List ℕ → Car
  el v = element p S.curve v

  pub each_row : (U : Car → Type 0) (t : List (List ℕ)) → ((j : ℕ) → j < length t → U (el (row t j))) → Every U (elements S t)
  each_row U t f = every_image U el t (at_every [] (λ v. U (el v)) t f)

  pub row-each : (U : Car → Type 0) (t : List (List ℕ)) → Every U (elements S t) → (j : ℕ) → j < length t → U (el (row t j))
  row-each U t q j h = every_at [] (λ v. U (el v)) t (every_source U el t q) j h

  pub spanned-row : (t : List (List ℕ)) (j : ℕ) → j < length t → Spanned S t (el (row t j))
  spanned-row t = row-each (Spanned S t) t (span_each P (elements S t))

  pub beside_row : (u : Car) (t : List (List ℕ)) (j : ℕ) → j < length t → Span P (u ∷ elements S t) (el (row t j))
  beside_row u t j h = span_rest P u (elements S t) (el (row t j)) (spanned-row t j h)

  module _ (t : List (List ℕ)) (j : ℕ) (inside : j < length t) (u v : List ℕ) where
    set_row : (U : Car → Type 0) (i : ℕ) → (i ≡ j → U (el u)) → (¬ (i ≡ j) → U (el (row t i))) → U (el (row (set t j u) i))
    set_row U i f g = go (ℕ_discrete i j)
      where
        go : Dec (i ≡ j) → U (el (row (set t j u) i))
        go (yes e) = rw (e, get_or-set_same t j u [] inside) (f e)
        go (no e) = rw (get_or-set_other t j i u [] e) (g e)

    row_set : (U : Car → Type 0) (i : ℕ) → (i ≡ j → U (el (row t j))) → (¬ (i ≡ j) → U (el (row (set t j u) i))) → U (el (row t i))
    row_set U i f g = go (ℕ_discrete i j)
      where
        go : Dec (i ≡ j) → U (el (row t i))
        go (yes e) = rw e (f e)
        go (no e) = subst (λ w. U (el w)) (get_or-set_other t j i u [] e) (g e)

    long : (i : ℕ) → i < length t → i < length (set t j u)
    long i h = omega (arith, length-set t j u)

    short : (i : ℕ) → i < length (set t j u) → i < length t
    short i h = omega (arith, length-set t j u)

    pub swap_same :
        {c c' : Car} → InX P c → InX P c' → el u ≡ (setting.ring S).mul c (el v) → el v ≡ (setting.ring S).mul c' (el u) →
        SameIdeal (setting.ring S) (Span P (el (row t j) ∷ elements S (set t j u))) (Span P (el v ∷ elements S t))
    swap_same i i' e e' = span_same P new old (beside_row (el v) t j inside, each_row (Span P old) (set t j u) there) (lead, each_row (Span P new) t back)
      where
        new : List Car
        new = el (row t j) ∷ elements S (set t j u)

        old : List Car
        old = el v ∷ elements S t

        there : (k : ℕ) → k < length (set t j u) → Span P old (el (row (set t j u) k))
        there k h = set_row (Span P old) k (λ _. span_multiple P old i e (span_first P (el v) (elements S t))) (λ _. beside_row (el v) t k (short k h))

        lead : Span P new (el v)
        lead = span_multiple P new i' e' (subst (λ w. Span P new (el w)) (get_or-set_same t j u [] inside) (beside_row (el (row t j)) (set t j u) j (long j inside)))

        back : (k : ℕ) → k < length t → Span P new (el (row t k))
        back k h = row_set (Span P new) k (λ _. span_first P (el (row t j)) (elements S (set t j u))) (λ _. beside_row (el (row t j)) (set t j u) k (long k h))
