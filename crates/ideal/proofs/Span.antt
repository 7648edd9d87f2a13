-- Spans over k[x], where x is the monomial of pole number 3, y that of pole number 4, and k the constants.
--   InX p                  p is a polynomial in x: zero, or c + x·q with a constant c and q in k[x]
--   inx_sum, inx_scale, inx_x, inx_mul, inx_constant, inx_one    k[x] is closed under sums, products and constants
--   three-pole, four_pole  3 and 4 are pole numbers
--   inx_pole               the pole number of p is a multiple of 3
--   Span bs                p₁·b₁ + … + pₙ·bₙ with the pᵢ in k[x]
--   span_nil, span_sum, span_times, span_x, span_space    it is a space, closed under multiples from k[x]
--   span_first, span_rest, span_each    it holds each b
--   inx_in, span_in        a space that is closed under x and holds each b holds the span
--   span_within, span_same the span of bs is in that of cs if each b is; two lists with the same span
--   x-lead                 a set that is closed under x has the leads d + 3·i if it has d
--   InXY r                 r is a polynomial in x and y; inxy_all: so is every element of R
--   xy_times, xy_ideal     a space that is closed under x and y is an ideal
--   span_ideal             Span bs is an ideal if it holds y·b for each b
--   span_product           the product of Span bs and Span cs is the span of the products
use mathlib.Core.Path.{◌≡◌, refl, sym, ◌∙◌, ap, subst}
use mathlib.Core.Logic.{◌⊎◌, inl, inr}
use mathlib.Core.List.{List, [], ◌∷◌}
use Prim.Native.Nat.{ℕ, suc, ◌+◌, ◌*◌, ◌-◌, ◌/◌, ◌%◌}
use native.Mathlib.Decide.{ℕ_discrete}
use native.Mathlib.Omega.{arith}
use Rattle.algebra.specs.Ring.{CommRing}
use Rattle.algebra.proofs.Laws as laws
use Rattle.ideal.specs.Ideal.{IsIdeal, Product, none, more, SameIdeal}
use Rattle.ideal.specs.Poles.{IsPole, Poles, HasPole}
use Rattle.ideal.proofs.Gaps.{pole-apart, pole_intro}
use Rattle.ideal.proofs.Degree.{below-scale, degree, mono-has, one-pole, pole-add, pole-at, pole-below, pole_cong, pole-mul, pole-nonzero, pole-number, pole_unique}
use Rattle.ideal.proofs.Every.{Every, every_map}
use Rattle.ideal.proofs.Leads.{IsSpace, Lead, lowering}
use Rattle.ideal.proofs.Product.{product-sum, product-times}
use Rattle.ideal.proofs.Generated.{products, products-each, products_source}
use Rattle.ideal.proofs.Rules.{ring}

module _ {R : CommRing} (P : Poles R) where
  open R use {Car, zero, one, add as ◌⊕◌, mul as ◌⊗◌}
  open P use {Below, mono, below_zero, below_add, below_mono}

  infixl 60 ◌⊕◌
  infixl 70 ◌⊗◌
  abbrev pub x : Car
  x = mono 3

  abbrev pub y : Car
  y = mono 4

  pub data InX : Car → Type 0 where
    nought : {p : Car} → p ≡ zero → InX p
    horner : {c q p : Car} → Below 1 c → InX q → p ≡ c ⊕ x ⊗ q → InX p

  add-form : {p q c c' s s' : Car} → p ≡ c ⊕ x ⊗ s → q ≡ c' ⊕ x ⊗ s' → p ⊕ q ≡ c ⊕ c' ⊕ x ⊗ (s ⊕ s')
  add-form e e' = rw (e, e') (simp ring)

  mul-form : {a p c s : Car} → p ≡ c ⊕ x ⊗ s → a ⊗ p ≡ a ⊗ c ⊕ x ⊗ (a ⊗ s)
  mul-form e = rw e (simp ring)

  product-form : {p q c s : Car} → p ≡ c ⊕ x ⊗ s → p ⊗ q ≡ c ⊗ q ⊕ x ⊗ (s ⊗ q)
  product-form e = rw e (simp ring)

  pub inx_sum : {p q : Car} → InX p → InX q → InX (p ⊕ q)
  inx_sum {q = q} (nought e) k = subst InX (sym (ap (λ t. t ⊕ q) e ∙ laws.zero-add R q)) k
  inx_sum {p} (horner a i e) (nought e') = horner a i (ap (λ t. p ⊕ t) e' ∙ R.add_zero p ∙ e)
  inx_sum {p} {q} (horner {c} {q = s} a i e) (horner {c = c'} {q = s'} a' i' e') = horner {p = p ⊕ q} (below_add a a') (inx_sum i i') (add-form e e')

  pub inx_scale : {a p : Car} → Below 1 a → InX p → InX (a ⊗ p)
  inx_scale {a} c (nought e) = nought (ap (λ t. a ⊗ t) e ∙ laws.mul-zero R a)
  inx_scale {a} {p} c (horner b i e) = horner {p = a ⊗ p} (below-scale P c b) (inx_scale c i) (mul-form e)

  pub inx_x : {p : Car} → InX p → InX (x ⊗ p)
  inx_x {p} i = horner (below_zero 1) i (sym (laws.zero-add R (x ⊗ p)))

  pub inx_constant : {c : Car} → Below 1 c → InX c
  inx_constant {c} b = horner {q = zero} {p = c} b (nought refl) (simp ring)

  pub inx_mul : {p q : Car} → InX p → InX q → InX (p ⊗ q)
  inx_mul {q = q} (nought e) k = nought (ap (λ t. t ⊗ q) e ∙ laws.zero-mul R q)
  inx_mul {p} {q} (horner {c} {q = s} b i e) k = subst InX (sym (product-form e)) (inx_sum (inx_scale b k) (inx_x (inx_mul i k)))

  pub three-pole : IsPole 3
  three-pole = pole_intro (omega arith) (omega arith) (omega arith)

  pub four_pole : IsPole 4
  four_pole = pole_intro (omega arith) (omega arith) (omega arith)

  pub inx_pole : {p : Car} {n : ℕ} → InX p → HasPole P p n → (i : ℕ) × (n ≡ 3 * i)
  inx_pole (nought e) ph = absurd (pole-nonzero P ph e)
  inx_pole {p} {n} (horner {c} {q} b i e) ph = go (λ m. inx_pole i) (degree P q)
    where
      next : {m : ℕ} → HasPole P q m → (j : ℕ) × (m ≡ 3 * j) → (j : ℕ) × (n ≡ 3 * j)
      next {m} pq (j, e') =
          (suc j, omega (arith, pole_unique P ph (pole_cong P (laws.plus_comm R (x ⊗ q) c ∙ sym e) (pole-add P (pole-mul P (mono-has P three-pole) pq) (below_mono (omega arith) b)))))

      go : ((m : ℕ) → HasPole P q m → (j : ℕ) × (m ≡ 3 * j)) → (q ≡ zero) ⊎ ((m : ℕ) × HasPole P q m) → (j : ℕ) × (n ≡ 3 * j)
      go ih (inl z) = (0, omega (arith, pole-below P (pole_cong P (e ∙ rw z (simp ring)) ph) b))
      go ih (inr (m, pq)) = next pq (ih m pq)

  abbrev pub Span : List Car → Car → Type 0
  Span [] h = h ≡ zero
  Span (b ∷ bs) h = (p s : Car) × InX p × Span bs s × (h ≡ p ⊗ b ⊕ s)

  pub span_nil : (bs : List Car) → Span bs zero
  span_nil [] = refl
  span_nil (b ∷ bs) = (zero, zero, nought refl, span_nil bs, simp ring)

  sum-form : {g h p q s t b : Car} → g ≡ p ⊗ b ⊕ s → h ≡ q ⊗ b ⊕ t → g ⊕ h ≡ (p ⊕ q) ⊗ b ⊕ (s ⊕ t)
  sum-form e e' = rw (e, e') (simp ring)

  times-form : {r h p s b : Car} → h ≡ p ⊗ b ⊕ s → r ⊗ h ≡ (r ⊗ p) ⊗ b ⊕ r ⊗ s
  times-form e = rw e (simp ring)

  pub span_sum : (bs : List Car) (g h : Car) → Span bs g → Span bs h → Span bs (g ⊕ h)
  span_sum [] g h e e' = ap (λ t. t ⊕ h) e ∙ laws.zero-add R h ∙ e'
  span_sum (b ∷ bs) g h (p, s, i, m, e) (q, t, j, n, e') = (p ⊕ q, s ⊕ t, inx_sum i j, span_sum bs s t m n, sum-form e e')

  pub span_times : (bs : List Car) {r : Car} → InX r → (h : Car) → Span bs h → Span bs (r ⊗ h)
  span_times [] {r} k h e = ap (λ t. r ⊗ t) e ∙ laws.mul-zero R r
  span_times (b ∷ bs) {r} k h (p, s, i, m, e) = (r ⊗ p, r ⊗ s, inx_mul k i, span_times bs k s m, times-form e)

  pub span_space : (bs : List Car) → IsSpace P (Span bs)
  span_space bs = record { nil = span_nil bs; sum = λ {a} {b} m n. span_sum bs a b m n; scale = λ {c} {a} k m. span_times bs (inx_constant k) a m }

  pub inx_one : InX one
  inx_one = inx_constant (one-pole P).upper

  pub span_x : (bs : List Car) (h : Car) → Span bs h → Span bs (x ⊗ h)
  span_x bs h m = span_times bs (subst InX (R.mul_one x) (inx_x inx_one)) h m

  pub span_first : (b : Car) (bs : List Car) → Span (b ∷ bs) b
  span_first b bs = (one, zero, inx_one, span_nil bs, simp ring)

  pub span_rest : (b : Car) (bs : List Car) (h : Car) → Span bs h → Span (b ∷ bs) h
  span_rest b bs h m = (zero, h, nought refl, m, simp ring)

  pub span_each : (bs : List Car) → Every (Span bs) bs
  span_each [] = tt
  span_each (b ∷ bs) = (span_first b bs, every_map (span_rest b bs) bs (span_each bs))

  module _ {U : Car → Type 0} (s : IsSpace P U) (times_x : (u : Car) → U u → U (x ⊗ u)) where
    pub inx_in : {p : Car} → InX p → (u : Car) → U u → U (p ⊗ u)
    inx_in (nought e) u m = subst U (sym (ap (λ t. t ⊗ u) e ∙ laws.zero-mul R u)) s.nil
    inx_in (horner {c} {q} b i e) u m = subst U (sym (product-form e)) (s.sum (s.scale b m) (times_x (q ⊗ u) (inx_in i u m)))

    pub span_in : (bs : List Car) → Every U bs → (h : Car) → Span bs h → U h
    span_in [] _ h e = subst U (sym e) s.nil
    span_in (b ∷ bs) (m, ms) h (p, t, i, n, e) = subst U (sym e) (s.sum (inx_in i b m) (span_in bs ms t n))

  pub span_within : (bs cs : List Car) → Every (Span cs) bs → (h : Car) → Span bs h → Span cs h
  span_within bs cs ms = span_in (span_space cs) (span_x cs) bs ms

  pub span_same : (bs cs : List Car) → Every (Span cs) bs → Every (Span bs) cs → SameIdeal R (Span bs) (Span cs)
  span_same bs cs ms ns h = (span_within bs cs ms h, span_within cs bs ns h)

  pub data InXY : Car → Type 0 where
    constant : {c : Car} → Below 1 c → InXY c
    plus : {p q r : Car} → InXY p → InXY q → r ≡ p ⊕ q → InXY r
    times_x : {p r : Car} → InXY p → r ≡ x ⊗ p → InXY r
    times_y : {p r : Car} → InXY p → r ≡ y ⊗ p → InXY r

  inxy_scale : {a p : Car} → Below 1 a → InXY p → InXY (a ⊗ p)
  inxy_scale c (constant b) = constant (below-scale P c b)
  inxy_scale {a} c (plus {p} {q} m n e) = plus (inxy_scale c m) (inxy_scale c n) (ap (λ t. a ⊗ t) e ∙ R.mul_add a p q)
  inxy_scale {a} c (times_x {p} m e) = times_x (inxy_scale c m) (ap (λ t. a ⊗ t) e ∙ laws.mul_left_comm R a x p)
  inxy_scale {a} c (times_y {p} m e) = times_y (inxy_scale c m) (ap (λ t. a ⊗ t) e ∙ laws.mul_left_comm R a y p)

  inxy_space : IsSpace P InXY
  inxy_space = record { nil = constant (below_zero 1); sum = λ m n. plus m n refl; scale = inxy_scale }

  -- Multiples by powers of x.
  pub x-lead : {U : Car → Type 0} {d : ℕ} → ((u : Car) → U u → U (x ⊗ u)) → (i : ℕ) → Lead P U d → Lead P U (d + 3 * i)
  x-lead {U} f ℕ.zero (u, m, p) = (u, m, pole-at P (omega arith) p)
  x-lead {U} {d} f (suc i) l = go (x-lead f i l)
    where
      go : Lead P U (d + 3 * i) → Lead P U (d + 3 * suc i)
      go (v, n, q) = (x ⊗ v, f v n, pole-at P (omega arith) (pole-mul P (mono-has P three-pole) q))

  inxy_lead : (n : ℕ) → IsPole n → Lead P InXY n
  inxy_lead n pn = go (ℕ_discrete (n % 3) 0) (ℕ_discrete (n % 3) 1)
    where
      up : (d : ℕ) → Lead P InXY d → n ≡ d + 3 * ((n - d) / 3) → Lead P InXY n
      up d l e = subst (Lead P InXY) (sym e) (x-lead (λ u m. times_x m refl) ((n - d) / 3) l)

      y-lead : (d : ℕ) → Lead P InXY d → Lead P InXY (4 + d)
      y-lead d (u, m, p) = (y ⊗ u, times_y m refl, pole-mul P (mono-has P four_pole) p)

      unit : Lead P InXY 0
      unit = (one, constant (one-pole P).upper, one-pole P)

      go : Dec (n % 3 ≡ 0) → Dec (n % 3 ≡ 1) → Lead P InXY n
      go (yes e) b = up 0 unit (omega arith)
      go (no a) (yes e) = up 4 (y-lead 0 unit) (omega (arith, pole-apart pn))
      go (no a) (no b) = up 8 (y-lead 4 (y-lead 0 unit)) (omega (arith, pole-apart pn))

  pub inxy_all : (r : Car) → InXY r
  inxy_all r =
      lowering P {I' = λ _. Unit} inxy_space (record { nil = tt; sum = λ m n. tt; scale = λ k m. tt }) (λ g m. tt)
      (λ n (u, m, p). inxy_lead n (pole-number P p)) r tt

  pub xy_times : {U : Car → Type 0} → IsSpace P U → ((u : Car) → U u → U (x ⊗ u)) → ((u : Car) → U u → U (y ⊗ u)) → {r : Car} → InXY r → (u : Car)
      → U u → U (r ⊗ u)
  xy_times {U} s fx fy (constant b) u m = s.scale b m
  xy_times {U} s fx fy (plus {p} {q} a b e) u m =
      subst U (sym (ap (λ t. t ⊗ u) e ∙ laws.add-mul R p q u)) (s.sum (xy_times s fx fy a u m) (xy_times s fx fy b u m))
  xy_times {U} s fx fy (times_x {p} a e) u m = subst U (sym (ap (λ t. t ⊗ u) e ∙ R.mul_assoc x p u)) (fx (p ⊗ u) (xy_times s fx fy a u m))
  xy_times {U} s fx fy (times_y {p} a e) u m = subst U (sym (ap (λ t. t ⊗ u) e ∙ R.mul_assoc y p u)) (fy (p ⊗ u) (xy_times s fx fy a u m))

  -- A space that is closed under x and y is an ideal.
  pub xy_ideal : {U : Car → Type 0} → IsSpace P U → ((u : Car) → U u → U (x ⊗ u)) → ((u : Car) → U u → U (y ⊗ u)) → IsIdeal R U
  xy_ideal s fx fy = record { nil = s.nil; sum = s.sum; times = λ r {a} m. xy_times s fx fy (inxy_all r) a m }

  -- The elements that k takes into a space are a space, closed under x if it is.
  taken_space : {U : Car → Type 0} (k : Car) → IsSpace P U → IsSpace P (λ u. U (k ⊗ u))
  taken_space {U} k s = record {
    nil = subst U (sym (laws.mul-zero R k)) s.nil;
    sum = λ {a} {b} m n. subst U (sym (R.mul_add k a b)) (s.sum m n);
    scale = λ {c} {a} b m. subst U (laws.mul_left_comm R c k a) (s.scale b m);
  }

  span_taken : (k : Car) (bs cs : List Car) → Every (λ b. Span cs (k ⊗ b)) bs → (h : Car) → Span bs h → Span cs (k ⊗ h)
  span_taken k bs cs ms =
      span_in (taken_space {U = Span cs} k (span_space cs)) (λ u m. subst (Span cs) (laws.mul_left_comm R x k u) (span_x cs (k ⊗ u) m)) bs ms

  pub span_ideal : (bs : List Car) → Every (λ b. Span bs (y ⊗ b)) bs → IsIdeal R (Span bs)
  span_ideal bs ms = xy_ideal (span_space bs) (span_x bs) (span_taken y bs bs ms)

  span_products : (bs cs : List Car) → Every (λ b. Every (λ c. Span (products R bs cs) (b ⊗ c)) cs) bs
  span_products bs cs = products_source R (Span (products R bs cs)) bs cs (span_each (products R bs cs))

  -- b·a for b in Span cs: first for a of the list bs, then for a in Span bs.
  span_times_span : (bs cs : List Car) (a b : Car) → Span bs a → Span cs b → Span (products R bs cs) (a ⊗ b)
  span_times_span bs cs a b ma mb =
      subst (Span (products R bs cs)) (R.mul_comm b a) (span_taken b bs (products R bs cs) (every_map row bs (span_products bs cs)) a ma)
    where
      row : (g : Car) → Every (λ c. Span (products R bs cs) (g ⊗ c)) cs → Span (products R bs cs) (b ⊗ g)
      row g ms = subst (Span (products R bs cs)) (R.mul_comm g b) (span_taken g cs (products R bs cs) ms b mb)

  product-within : {I J U : Car → Type 0} → IsSpace P U → ((a b : Car) → I a → J b → U (a ⊗ b)) → {h : Car} → Product R I J h → U h
  product-within {U = U} s f (none e) = subst U (sym e) s.nil
  product-within {U = U} s f (more {a} {b} ia jb p e) = subst U (sym e) (s.sum (f a b ia jb) (product-within s f p))

  pub span_product : (bs cs : List Car) → SameIdeal R (Product R (Span bs) (Span cs)) (Span (products R bs cs))
  span_product bs cs h = (
    product-within (span_space (products R bs cs)) (span_times_span bs cs),
    span_in space (λ u. product-times R x (span_x bs)) (products R bs cs) (products-each R (Span bs) (Span cs) bs cs (span_each bs) (span_each cs)) h,
  )
    where
      space : IsSpace P (Product R (Span bs) (Span cs))
      space = record { nil = none refl; sum = product-sum R; scale = λ {c} k. product-times R c (λ a. span_times bs (inx_constant k) a) }
