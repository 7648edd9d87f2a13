-- The span over k[x] of products with one element, and of further elements.
--   put_same               the span of the products of three vectors with u and of further vectors is u·(the span of the three) + (that of the others)
use mathlib.Core.Path.{◌≡◌, refl, sym, ◌∙◌, ap, subst}
use mathlib.Core.List.{List}
use Prim.Native.Nat.{ℕ, suc, ◌<◌}
use native.Mathlib.Omega.{arith}
use lib.ListN.{length}
use Rattle.algebra.specs.Ring.{CommRing}
use Rattle.algebra.proofs.Laws as laws
use Rattle.ideal.specs.Ideal.{SameIdeal}
use Rattle.ideal.specs.Poles.{Poles}
use Rattle.ideal.specs.Parts.{IdealSum}
use Rattle.ideal.proofs.Every.{Every}
use Rattle.ideal.proofs.Leads.{IsSpace}
use Rattle.ideal.proofs.Invertible.{Scaled}
use Rattle.ideal.proofs.Rules.{ring}
use Rattle.ideal.proofs.Span.{Span, x, span_nil, span_sum, span_times, span_space, span_x, span_each, span_in, span_within}
use Rattle.vector.specs.Vector.{row, element}
use Rattle.triple.specs.Setting as setting
use Rattle.triple.specs.Setting.{Setting, poles_of}
use Rattle.triple.specs.Triple.{elements, Spanned, listed}
use Rattle.triple.proofs.Listed.{listed_at, listed-rest}
use Rattle.triple.proofs.Members.{each_row, spanned-row}

module _ {R : CommRing} (P : Poles R) where
  open R use {Car, zero, add as ◌⊕◌, mul as ◌⊗◌}

  infixl 60 ◌⊕◌
  infixl 70 ◌⊗◌
  -- q·(f·u) + (u·w + b) = u·(q·f + w) + b
  more-form : {h q f u s i w b : Car} → h ≡ q ⊗ (f ⊗ u) ⊕ s → s ≡ i ⊕ b → i ≡ u ⊗ w → h ≡ u ⊗ (q ⊗ f ⊕ w) ⊕ b
  more-form e e' e'' = rw (e, e', e'') (simp ring)

  module _ (gs bs : List Car) (u : Car) where
    -- the span of the products f i·u and of bs lies in u·Span gs + Span bs, if each f i is in Span gs
    put-within : (f : ℕ → Car) (n : ℕ) → ((i : ℕ) → i < n → Span P gs (f i)) → (h : Car) → Span P (listed (λ i. f i ⊗ u) n bs) h
        → IdealSum R (Scaled R u (Span P gs)) (Span P bs) h
    put-within f ℕ.zero g h m = (zero, h, (zero, span_nil P gs, sym (laws.mul-zero R u)), m, sym (laws.zero-add R h))
    put-within f (suc n) g h (q, s, i, m, e) = go (put-within f n (λ i l. g i (omega arith)) s m)
      where
        go : IdealSum R (Scaled R u (Span P gs)) (Span P bs) s → IdealSum R (Scaled R u (Span P gs)) (Span P bs) h
        go (a, b, (w, mw, e''), mb, e') =
            (u ⊗ (q ⊗ f n ⊕ w), b, (q ⊗ f n ⊕ w, span_sum P gs (q ⊗ f n) w (span_times P gs i (f n) (g n (omega arith))) mw, refl), mb, more-form e e' e'')

    -- a span that holds each product u·g and each b holds u·Span gs + Span bs
    sum-within : (cs : List Car) → Every (λ g. Span P cs (u ⊗ g)) gs → Every (Span P cs) bs → (h : Car) → IdealSum R (Scaled R u (Span P gs)) (Span P bs) h → Span P cs h
    sum-within cs ms ns h (a, b, (w, mw, e), mb, e') =
        subst (Span P cs) (sym (e' ∙ ap (λ t. t ⊕ b) e)) (span_sum P cs (u ⊗ w) b (span_in P taken taken_x gs ms w mw) (span_within P bs cs ns b mb))
      where
        taken : IsSpace P (λ g. Span P cs (u ⊗ g))
        taken = record {
          nil = subst (Span P cs) (sym (laws.mul-zero R u)) (span_nil P cs);
          sum = λ {a} {b} m n. subst (Span P cs) (sym (R.mul_add u a b)) (span_sum P cs (u ⊗ a) (u ⊗ b) m n);
          scale = λ {c} {a} k m. subst (Span P cs) (laws.mul_left_comm R c u a) ((span_space P cs).scale k m);
        }

        taken_x : (g : Car) → Span P cs (u ⊗ g) → Span P cs (u ⊗ (x P ⊗ g))
        taken_x g m = subst (Span P cs) (laws.mul_left_comm R (x P) u g) (span_x P cs (u ⊗ g) m)

module _ {p : ℕ} (S : Setting p) (t₁ t : List (List ℕ)) (len : length t₁ ≡ 3) (u : (setting.ring S).Car) where
  abbrev put : List (setting.ring S).Car
  put = listed (λ i. (setting.ring S).mul (element p S.curve (row t₁ i)) u) 3 (elements S t)

  pub put_same : SameIdeal (setting.ring S) (Span (poles_of S) put) (IdealSum (setting.ring S) (Scaled (setting.ring S) u (Spanned S t₁)) (Spanned S t))
  put_same h = (
    put-within (poles_of S) (elements S t₁) (elements S t) u (λ i. element p S.curve (row t₁ i)) 3 (λ i l. spanned-row S t₁ i (omega arith)) h,
    sum-within (poles_of S) (elements S t₁) (elements S t) u put (each_row S (λ g. Span (poles_of S) put ((setting.ring S).mul u g)) t₁ each) rest h,
  )
    where
      each : (i : ℕ) → i < length t₁ → Span (poles_of S) put ((setting.ring S).mul u (element p S.curve (row t₁ i)))
      each i l =
          subst (Span (poles_of S) put) ((setting.ring S).mul_comm _ u)
          (listed_at (Span (poles_of S) put) (λ i. (setting.ring S).mul (element p S.curve (row t₁ i)) u) 3 (elements S t) (span_each (poles_of S) put) i (omega arith))

      rest : Every (Span (poles_of S) put) (elements S t)
      rest = listed-rest (Span (poles_of S) put) (λ i. (setting.ring S).mul (element p S.curve (row t₁ i)) u) 3 (elements S t) (span_each (poles_of S) put)
