-- The loops of product and insert_products: the span of the triple is that of the elements put in so far.
--   Putting                insert_products' invariant: i members of the first triple have been put in
--   put-start, times_asked, put_asked, put-more, put-end
--   Multiplying            product's invariant: all products with the first j members of the second triple have been put in
--   multiples_asked, products_asked, put_degree    what the calls require
--   multiply_start, multiply_more, multiply_end
use mathlib.Core.Path.{◌≡◌, sym, subst}
use mathlib.Core.List.{List, [], ◌∷◌, map}
use Prim.Native.Nat.{ℕ, zero, suc, ◌+◌, ◌<◌, ◌≤◌}
use native.Mathlib.Omega.{arith}
use native.Mathlib.Decide.{ℕ_discrete}
use native.Mathlib.Numerals.{add-one}
use lib.ListN.{length}
use Rattle.algebra.specs.Ring.{CommRing}
use Rattle.prime.specs.Prime.{Prime}
use Rattle.ideal.specs.Ideal.{SameIdeal, Product}
use Rattle.ideal.specs.Poles.{Poles, HasPole}
use Rattle.ideal.proofs.Degree.{monic-pole, pole-mul}
use Rattle.ideal.proofs.Every.{Every, every_append, every_image}
use Rattle.ideal.proofs.Generated.{products, products_source}
use Rattle.ideal.proofs.Same.{same_sym, same_trans}
use Rattle.ideal.proofs.Span.{Span, span_each, span_product, span_same}
use Rattle.vector.specs.Vector.{at, row, element, width}
use Rattle.terms.specs.Contract.{RowsOf}
use Rattle.multiplication.specs.Contract.{YMultiplesAsked, YMultiples}
use Rattle.triple.specs.Setting.{Setting, ring, poles_of, Ready}
use Rattle.triple.specs.Triple.{Triple, elements, Spanned, listed}
use Rattle.triple.specs.Contract.{InsertAsked, Inserted}
use Rattle.triple.proofs.Element.{present-monic}
use Rattle.triple.proofs.Members.{each_row, row-each}
use Rattle.triple.proofs.Leads.{full-of, spanned-lead}
use Rattle.triple.proofs.Listed.{listed-each, listed_at, listed-rest, span_cons, listed_same}
use Rattle.triple.proofs.Empty.{no_rows, no-degrees, empty_triple, empty_same}
use Rattle.product.specs.Contract.{ProductAsked, Multiplied, PutAsked, ProductsPut}
use Rattle.terms.specs.Contract.{TimesAsked, Times}

module _ {R : CommRing} (P : Poles R) where
  every_products : (Q : R.Car → Type 0) (gs hs : List R.Car) → Every (λ g. Every (λ h. Q (R.mul g h)) hs) gs → Every Q (products R gs hs)
  every_products Q [] hs _ = tt
  every_products Q (g ∷ gs) hs (m, ms) = every_append Q (map (λ h. R.mul g h) hs) (products R gs hs) (every_image Q (λ h. R.mul g h) hs m) (every_products Q gs hs ms)

-- the products of i members of the first triple have been put in
pub record Putting (p : ℕ) (t₁ ys t t' : List (List ℕ)) (d' : List ℕ) (i : ℕ) : Type 0 where
  pub bound : i ≤ 3
  pub triple : Triple p t' d'
  pub same :
      (S : Setting p) (g : (ring S).Car) → RowsOf p S.curve ys g →
      SameIdeal (ring S) (Spanned S t') (Span (poles_of S) (listed (λ i. (ring S).mul (element p S.curve (row t₁ i)) g) i (elements S t)))

module _ {p top : ℕ} {t₁ : List (List ℕ)} {d₁ : List ℕ} {ys t : List (List ℕ)} {d : List ℕ} (h : PutAsked p t₁ d₁ ys top t d) where
  pub put-start : Putting p t₁ ys t t d 0
  put-start = record { bound = omega arith; triple = h.triple; same = λ S g r u. (λ q. q, λ q. q) }

  module _ {i : ℕ} (l : i < 3) where
    pub put_degree : at d₁ i ≤ 8
    put_degree = h.small i l

    pub times_asked : TimesAsked p (row t₁ i) (at d₁ i + 1) ys top
    times_asked =
        record {
          b_vec = (h.full.triple.member i l).vec;
          b_top = λ n k. (h.full.present i l).top n (omega arith);
          rows = h.rows;
          room = omega (arith, put_degree, h.low);
          inside = omega (arith, put_degree);
        }

    module _ {t' : List (List ℕ)} {d' v : List ℕ} (q : Putting p t₁ ys t t' d' i) (m : Times p (row t₁ i) (at d₁ i + 1) ys top v) where
      pub put_asked : InsertAsked p t' d' v (at d₁ i + top)
      put_asked = record { prime = h.prime; triple = q.triple; vec = m.vec; v_top = λ n k. m.top_out n (omega arith); room = omega (arith, put_degree, h.low) }

      pub put-more : {t'' : List (List ℕ)} {d'' : List ℕ} → Inserted p t' d' v t'' d'' → Putting p t₁ ys t t'' d'' (i + 1)
      put-more {t''} {d''} r = subst (Putting p t₁ ys t t'' d'') (sym (add-one i)) (record { bound = l; triple = r.triple; same = same })
        where
          same :
              (S : Setting p) (g : (ring S).Car) → RowsOf p S.curve ys g →
              SameIdeal (ring S) (Spanned S t'') (Span (poles_of S) (listed (λ i. (ring S).mul (element p S.curve (row t₁ i)) g) (suc i) (elements S t)))
          same S g o =
              subst (λ u. SameIdeal (ring S) (Spanned S t'') (Span (poles_of S) (u ∷ listed (λ i. (ring S).mul (element p S.curve (row t₁ i)) g) i (elements S t)))) (m.value S.curve g o)
              (same_trans (ring S) (r.same S) (span_cons (poles_of S) (elements S t') (listed (λ i. (ring S).mul (element p S.curve (row t₁ i)) g) i (elements S t))
              (element p S.curve v) (q.same S g o)))

pub put-end : {p i : ℕ} {t₁ ys t t' : List (List ℕ)} {d' : List ℕ} → Putting p t₁ ys t t' d' i → 3 ≤ i → ProductsPut p t₁ ys t t' d'
put-end {p} {i} {t₁} {ys} {t} {t'} {d'} q l = record { triple = q.triple; same = (subst (Putting p t₁ ys t t' d') {x = i} {y = 3} (omega (arith, q.bound)) q).same }

-- the products of all members of the first triple with the first j of the second, the last one first
abbrev outer : {p : ℕ} (S : Setting p) (t₁ t₂ : List (List ℕ)) → ℕ → List (ring S).Car
outer {p} S t₁ t₂ zero = []
outer {p} S t₁ t₂ (suc j) = listed (λ i. (ring S).mul (element p S.curve (row t₁ i)) (element p S.curve (row t₂ j))) 3 (outer S t₁ t₂ j)

pub record Multiplying (p : ℕ) (y3 : List ℕ) (t₁ t₂ t : List (List ℕ)) (d : List ℕ) (j : ℕ) : Type 0 where
  pub bound : j ≤ 3
  pub triple : Triple p t d
  pub same : (R : Ready p y3) → SameIdeal (ring R.setting) (Spanned R.setting t) (Span (poles_of R.setting) (outer R.setting t₁ t₂ j))

module _ {p : ℕ} {y3 : List ℕ} {t₁ : List (List ℕ)} {d₁ : List ℕ} {t₂ : List (List ℕ)} {d₂ : List ℕ} (h : ProductAsked p y3 t₁ d₁ t₂ d₂) where
  prime : Prime p
  prime = h.ready.setting.prime

  positive : 0 < p
  positive = omega (arith, prime.two_le)

  pub multiply_start : Multiplying p y3 t₁ t₂ no_rows no-degrees 0
  multiply_start = record { bound = omega arith; triple = empty_triple positive; same = λ R. empty_same positive R.setting }

  module _ {j : ℕ} (l : j < 3) where
    pub multiples_asked : YMultiplesAsked p y3 (row t₂ j) (at d₂ j + 1)
    multiples_asked =
        record {
          y3_vec = h.ready.y3_vec;
          y3_top = h.ready.y3_top;
          v_vec = (h.full₂.triple.member j l).vec;
          v_top = λ i k. (h.full₂.present j l).top i (omega arith);
          room = omega (arith, h.small₂ j l);
        }

    module _ {t : List (List ℕ)} {d : List ℕ} {ys : List (List ℕ)} (q : Multiplying p y3 t₁ t₂ t d j) (m : YMultiples p y3 (row t₂ j) (at d₂ j + 1) ys) where
      pub products_asked : PutAsked p t₁ d₁ ys (at d₂ j + 1) t d
      products_asked = record { prime = prime; full = h.full₁; small = h.small₁; rows = m.rows; low = omega (arith, h.small₂ j l); triple = q.triple }

      pub multiply_more : {t' : List (List ℕ)} {d' : List ℕ} → ProductsPut p t₁ ys t t' d' → Multiplying p y3 t₁ t₂ t' d' (j + 1)
      multiply_more {t'} {d'} r = subst (Multiplying p y3 t₁ t₂ t' d') (sym (add-one j)) (record { bound = l; triple = r.triple; same = same })
        where
          same : (R : Ready p y3) → SameIdeal (ring R.setting) (Spanned R.setting t') (Span (poles_of R.setting) (outer R.setting t₁ t₂ (suc j)))
          same R =
              same_trans (ring S) (r.same S (element p S.curve (row t₂ j)) (m.value S.curve R.cube))
              (listed_same (poles_of S) (λ i. (ring S).mul (element p S.curve (row t₁ i)) (element p S.curve (row t₂ j))) 3 (elements S t) (outer S t₁ t₂ j) (q.same R))
            where
              S : Setting p
              S = R.setting

module _ {p : ℕ} (S : Setting p) (t₁ t₂ : List (List ℕ)) (Q : (ring S).Car → Type 0) where
  abbrev pair : ℕ → ℕ → (ring S).Car
  pair j i = (ring S).mul (element p S.curve (row t₁ i)) (element p S.curve (row t₂ j))

  outer_each : (n : ℕ) → ((j i : ℕ) → j < n → i < 3 → Q (pair j i)) → Every Q (outer S t₁ t₂ n)
  outer_each zero g = tt
  outer_each (suc n) g = listed-each Q (pair n) 3 (outer S t₁ t₂ n) (λ i l. g n i (omega arith) l) (outer_each n (λ j i k l. g j i (omega arith) l))

  outer_at : (n : ℕ) → Every Q (outer S t₁ t₂ n) → (j i : ℕ) → j < n → i < 3 → Q (pair j i)
  outer_at zero q j i k l = absurd (omega arith)
  outer_at (suc n) q j i k l = go (outer_at n (listed-rest Q (pair n) 3 (outer S t₁ t₂ n) q) j i) (ℕ_discrete j n)
    where
      go : (j < n → i < 3 → Q (pair j i)) → Dec (j ≡ n) → Q (pair j i)
      go r (yes e) = subst (λ j. Q (pair j i)) (sym e) (listed_at Q (pair n) 3 (outer S t₁ t₂ n) q i l)
      go r (no e) = r (omega arith) l

module _ {p : ℕ} (S : Setting p) (t₁ t₂ : List (List ℕ)) (len₁ : length t₁ ≡ 3) (len₂ : length t₂ ≡ 3) where
  outer_product : SameIdeal (ring S) (Span (poles_of S) (outer S t₁ t₂ 3)) (Product (ring S) (Spanned S t₁) (Spanned S t₂))
  outer_product = same_trans (ring S) (span_same (poles_of S) (outer S t₁ t₂ 3) all there back) (same_sym (ring S) (span_product (poles_of S) (elements S t₁) (elements S t₂)))
    where
      all : List (ring S).Car
      all = products (ring S) (elements S t₁) (elements S t₂)

      each : Every (λ a. Every (λ b. Span (poles_of S) all ((ring S).mul a b)) (elements S t₂)) (elements S t₁)
      each = products_source (ring S) (Span (poles_of S) all) (elements S t₁) (elements S t₂) (span_each (poles_of S) all)

      there : Every (Span (poles_of S) all) (outer S t₁ t₂ 3)
      there =
          outer_each S t₁ t₂ (Span (poles_of S) all) 3
          (λ j i k l. row-each S (λ b. Span (poles_of S) all ((ring S).mul (element p S.curve (row t₁ i)) b)) t₂
          (row-each S (λ a. Every (λ b. Span (poles_of S) all ((ring S).mul a b)) (elements S t₂)) t₁ each i (omega arith)) j (omega arith))

      back : Every (Span (poles_of S) (outer S t₁ t₂ 3)) all
      back =
          every_products (poles_of S) (Span (poles_of S) (outer S t₁ t₂ 3)) (elements S t₁) (elements S t₂)
          (each_row S (λ a. Every (λ b. Span (poles_of S) (outer S t₁ t₂ 3) ((ring S).mul a b)) (elements S t₂)) t₁
          (λ i l. each_row S (λ b. Span (poles_of S) (outer S t₁ t₂ 3) ((ring S).mul (element p S.curve (row t₁ i)) b)) t₂
          (λ j k. outer_at S t₁ t₂ (Span (poles_of S) (outer S t₁ t₂ 3)) 3 (span_each (poles_of S) (outer S t₁ t₂ 3)) j i (omega arith) (omega arith))))

module _ {p j : ℕ} {y3 : List ℕ} {t₁ : List (List ℕ)} {d₁ : List ℕ} {t₂ : List (List ℕ)} {d₂ : List ℕ} {t : List (List ℕ)} {d : List ℕ}
    (h : ProductAsked p y3 t₁ d₁ t₂ d₂) (q : Multiplying p y3 t₁ t₂ t d j) (end : 3 ≤ j) where
  done : Multiplying p y3 t₁ t₂ t d 3
  done = subst (Multiplying p y3 t₁ t₂ t d) {x = j} {y = 3} (omega (arith, q.bound)) q

  -- the product of the i-th member and the second triple's member of class 0 fills the class i
  filled : (i : ℕ) → i < 3 → at d i < width
  filled i l = subst (λ k. at d k < width) (omega (arith, (h.full₁.present i l).class, (h.full₂.present 0 (omega arith)).class)) (spanned-lead S q.triple inside pole).1
    where
      S : Setting p
      S = h.ready.setting

      pole : HasPole (poles_of S) ((ring S).mul (element p S.curve (row t₁ i)) (element p S.curve (row t₂ 0))) (at d₁ i + at d₂ 0)
      pole =
          pole-mul (poles_of S) (monic-pole (poles_of S) (present-monic S (h.full₁.triple.member i l).vec (h.full₁.present i l)))
          (monic-pole (poles_of S) (present-monic S (h.full₂.triple.member 0 (omega arith)).vec (h.full₂.present 0 (omega arith))))

      inside : Spanned S t ((ring S).mul (element p S.curve (row t₁ i)) (element p S.curve (row t₂ 0)))
      inside = (done.same h.ready _).1 (outer_at S t₁ t₂ (Span (poles_of S) (outer S t₁ t₂ 3)) 3 (span_each (poles_of S) (outer S t₁ t₂ 3)) 0 i (omega arith) l)

  pub multiply_end : Multiplied p y3 t₁ t₂ t d
  multiply_end =
      record
      { full = full-of q.triple filled; same = λ R. same_trans (ring R.setting) (done.same R) (outer_product R.setting t₁ t₂ h.full₁.triple.len_t h.full₂.triple.len_t) }
