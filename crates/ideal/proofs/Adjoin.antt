-- A based space stays based when one element is added, or all multiples of an element.
--   sum-lead           the lead of u + w is one of u's or w's, if U and W share no lead
--   Plus U v           u + a·v, u in U and a constant
--   plus-old               it holds U
--   plus_space         it is a space
--   plus-based         Plus U v is based if U is
--   divide             r = f·q + t with t below d + 6
--   extend_based       Extend I g is based for a based ideal I with a lead
use mathlib.Core.Path.{◌≡◌, refl, sym, ◌∙◌, ap, subst}
use mathlib.Core.Logic.{◌⊎◌, inl, inr, ⊎_elim}
use Prim.Native.Nat.{ℕ, suc, ◌+◌, ◌-◌, ◌≤◌, ◌<◌}
use native.Mathlib.Decide.{ℕ_discrete, dec_le}
use native.Mathlib.Omega.{arith}
use Rattle.algebra.specs.Ring.{CommRing}
use Rattle.algebra.proofs.Laws as laws
use Rattle.ideal.specs.Ideal.{IsIdeal, SameIdeal}
use Rattle.ideal.specs.Poles.{largest_gap, Poles, HasPole}
use Rattle.ideal.proofs.Gaps.{pole-large}
use Rattle.ideal.proofs.Degree.{below-neg, below-scale, below_step, degree, lowered, mono-has, one-pole, pole-add}
use Rattle.ideal.proofs.Degree.{pole-at, pole_cong, pole-mul, pole-nonzero, pole-number, pole-scale, pole_unique, zero_dec}
use Rattle.ideal.proofs.Leads.{IsSpace, ideal_space, space_neg, Lead, Based, based-same}
use Rattle.ideal.proofs.Generated.{Extend, extend_ideal}
use Rattle.ideal.proofs.Rules as rules
use Rattle.ideal.proofs.Rules.{ring}

module _ {R : CommRing} (P : Poles R) where
  open R use {Car, zero, one, add as ◌⊕◌, mul as ◌⊗◌, neg as ⊖◌}
  open P use {Below, mono, below_zero, below_add, below_mono, below_none, below_some}

  infixl 60 ◌⊕◌
  infixl 70 ◌⊗◌
  infix 80 ⊖◌
  pub sum-lead : {U W : Car → Type 0} {u w : Car} {n : ℕ} → ((m : ℕ) → Lead P U m → ¬ Lead P W m) → U u → W w → HasPole P (u ⊕ w) n → Lead P U n ⊎ Lead P W n
  sum-lead {U} {W} {u} {w} {n} apart mu mw p = go (degree P u) (degree P w)
    where
      at : (k m : ℕ) → HasPole P u k → HasPole P w m → Dec (k < m) → Dec (m < k) → Lead P U n ⊎ Lead P W n
      at k m pu pw (yes l) b = inr (w, mw, pole-at P (pole_unique P (pole_cong P (laws.plus_comm R w u) (pole-add P pw (below_mono l pu.upper))) p) pw)
      at k m pu pw (no a) (yes l) = inl (u, mu, pole-at P (pole_unique P (pole-add P pu (below_mono l pw.upper)) p) pu)
      at k m pu pw (no a) (no b) = absurd (apart k (u, mu, pu) (w, mw, pole-at P (omega arith) pw))

      go : (u ≡ zero) ⊎ ((m : ℕ) × HasPole P u m) → (w ≡ zero) ⊎ ((m : ℕ) × HasPole P w m) → Lead P U n ⊎ Lead P W n
      go (inl e) b = inr (w, mw, pole_cong P (ap (λ t. t ⊕ w) e ∙ laws.zero-add R w) p)
      go (inr (k, pu)) (inl e) = inl (u, mu, pole_cong P (ap (λ t. u ⊕ t) e ∙ R.add_zero u) p)
      go (inr (k, pu)) (inr (m, pw)) = at k m pu pw (dec_le (suc k) m) (dec_le (suc m) k)

  abbrev pub Plus : (Car → Type 0) → Car → Car → Type 0
  Plus U v h = (a u : Car) × Below 1 a × U u × (h ≡ u ⊕ a ⊗ v)

  pub plus-old : {U : Car → Type 0} (v : Car) {u : Car} → U u → Plus U v u
  plus-old v {u} m = (zero, u, below_zero 1, m, simp ring)

  pub plus_space : {U : Car → Type 0} (v : Car) → IsSpace P U → IsSpace P (Plus U v)
  plus_space {U} v s = record {
    nil = plus-old v s.nil;
    sum = λ {a = x} {b = y} mx my. add x y mx my;
    scale = λ {c} {a = x} k mx. times c x k mx;
  }
    where
      add : (x y : Car) → Plus U v x → Plus U v y → Plus U v (x ⊕ y)
      add x y (a, u, c, m, e) (a', u', c', m', e') = (a ⊕ a', u ⊕ u', below_add c c', s.sum m m', rw (e, e') (simp ring))

      times : (c x : Car) → Below 1 c → Plus U v x → Plus U v (c ⊗ x)
      times c x k (a, u, c', m, e) = (c ⊗ a, c ⊗ u, below-scale P k c', s.scale k m, rw e (simp ring))

  -- v with the leads of U taken away from the top on, until it has a lead that U lacks.
  Rest : (Car → Type 0) → Car → Type 0
  Rest U v = (u : Car) × U u × ((v ⊕ u ≡ zero) ⊎ ((n : ℕ) × HasPole P (v ⊕ u) n × (¬ Lead P U n)))

  rest_at : (n : ℕ) {U : Car → Type 0} → IsSpace P U → Based P U → (v : Car) → Below n v → Rest U v
  unfolding Rest
  rest_at ℕ.zero s base v b = (zero, s.nil, inl (R.add_zero v ∙ below_none b))
  rest_at (suc n) {U} s base v b = ⊎_elim (rest_at n s base v) (λ p. at (rest_at n s base) p (base n)) (below_step P b)
    where
      last : (t : Car) → U t → Rest U (v ⊕ t) → Rest U v
      last t mt (u, mu, inl e) = (t ⊕ u, s.sum mt mu, inl (sym (R.add_assoc v t u) ∙ e))
      last t mt (u, mu, inr (m, p, none)) = (t ⊕ u, s.sum mt mu, inr (m, pole_cong P (R.add_assoc v t u) p, none))

      go : ((v : Car) → Below n v → Rest U v) → (t : Car) → U t → (a : Car) × Below 1 a × Below n (v ⊕ a ⊗ t) → Rest U v
      go next t mt (a, c, b') = last (a ⊗ t) (s.scale c mt) (next (v ⊕ a ⊗ t) b')

      at : ((v : Car) → Below n v → Rest U v) → HasPole P v n → Dec (Lead P U n) → Rest U v
      at next p (yes (t, mt, pt)) = go next t mt (lowered P p.upper pt)
      at next p (no none) = (zero, s.nil, inr (n, pole_cong P (sym (R.add_zero v)) p, none))

  -- the constant multiples of w
  Line : Car → Car → Type 0
  Line w h = (a : Car) × Below 1 a × (h ≡ a ⊗ w)

  line-lead : {w : Car} {n m : ℕ} → HasPole P w n → Lead P (Line w) m → m ≡ n
  unfolding Line
  line-lead {w} {n} {m} p (h, (a, c, e), ph) = go (zero_dec P a)
    where
      go : Dec (a ≡ zero) → m ≡ n
      go (yes z) = absurd (pole-nonzero P ph (e ∙ ap (λ t. t ⊗ w) z ∙ laws.zero-mul R w))
      go (no z) = pole_unique P (pole_cong P e ph) (pole-scale P c z p)

  pub plus-based : {U : Car → Type 0} (v : Car) → IsSpace P U → Based P U → Based P (Plus U v)
  unfolding Rest Line
  plus-based {U} v s base = go (rest_at (below_some v).0 s base v (below_some v).1)
    where
      inside : U v → SameIdeal R U (Plus U v)
      inside mv h = (plus-old v, λ (a, u, c, m, e). subst U (sym e) (s.sum m (s.scale c mv)))

      at_rest : {u : Car} {n m : ℕ} → U u → HasPole P (v ⊕ u) n → ¬ Lead P U n → Dec (Lead P U m) → Dec (m ≡ n) → Dec (Lead P (Plus U v) m)
      at_rest {u} {n} {m} mu p none (yes (t, mt, pt)) b = yes (t, plus-old v mt, pt)
      at_rest {u} {n} {m} mu p none (no lack) (yes e) = yes (v ⊕ u, (one, u, (one-pole P).upper, mu, simp ring), pole-at P (sym e) p)
      at_rest {u} {n} {m} mu p none (no lack) (no e) =
          no
          (λ (h, (a, t, c, mt, q), ph). ⊎_elim lack (λ l. e (line-lead p l))
          (sum-lead {U = U} {W = Line (v ⊕ u)} {u = t ⊕ ⊖ (a ⊗ u)} {w = a ⊗ (v ⊕ u)} (λ k lu lw. none (subst (Lead P U) (line-lead p lw) lu))
          (s.sum mt (space_neg P s (s.scale c mu))) (a, c, refl) (pole_cong P (q ∙ simp ring) ph)))

      go : Rest U v → Based P (Plus U v)
      go (u, mu, inl e) = based-same P (inside (subst U (sym (rules.move R e ∙ laws.zero-add R (⊖ u))) (space_neg P s mu))) base
      go (u, mu, inr (n, p, none)) = λ m. at_rest mu p none (base m) (ℕ_discrete m n)

  -- U and the constant multiples of g·mono 0, …, g·mono (k − 1)
  Adjoin : ℕ → (Car → Type 0) → Car → Car → Type 0
  Adjoin ℕ.zero U g = U
  Adjoin (suc k) U g = Plus (Adjoin k U g) (g ⊗ mono k)

  adjoin_space : (k : ℕ) {U : Car → Type 0} (g : Car) → IsSpace P U → IsSpace P (Adjoin k U g)
  unfolding Adjoin
  adjoin_space ℕ.zero g s = s
  adjoin_space (suc k) g s = plus_space (g ⊗ mono k) (adjoin_space k g s)

  adjoin_based : (k : ℕ) {U : Car → Type 0} (g : Car) → IsSpace P U → Based P U → Based P (Adjoin k U g)
  unfolding Adjoin
  adjoin_based ℕ.zero g s base = base
  adjoin_based (suc k) g s base = plus-based (g ⊗ mono k) (adjoin_space k g s) (adjoin_based k g s base)

  adjoin_old : (k : ℕ) (U : Car → Type 0) (g u : Car) → U u → Adjoin k U g u
  unfolding Adjoin
  adjoin_old ℕ.zero U g u m = m
  adjoin_old (suc k) U g u m = plus-old (g ⊗ mono k) (adjoin_old k U g u m)

  adjoin_in : (k : ℕ) {U I : Car → Type 0} (g : Car) → ((u : Car) → U u → I u) → IsIdeal R I → I g → (h : Car) → Adjoin k U g h → I h
  unfolding Adjoin
  adjoin_in ℕ.zero g in' i mg h m = in' h m
  adjoin_in (suc k) {I = I} g in' i mg h (a, u, c, m, e) =
      subst I (sym (e ∙ ap (λ t. u ⊕ a ⊗ t) (R.mul_comm g (mono k)))) (i.sum (adjoin_in k g in' i mg u m) (i.times a (i.times (mono k) mg)))

  adjoin_new : (k : ℕ) {U : Car → Type 0} (g : Car) → IsSpace P U → (r : Car) → Below k r → Adjoin k U g (g ⊗ r)
  unfolding Adjoin
  adjoin_new ℕ.zero {U} g s r b = subst U (sym (ap (λ t. g ⊗ t) (below_none b) ∙ laws.mul-zero R g)) s.nil
  adjoin_new (suc k) {U} g s r b =
      ⊎_elim (λ c. plus-old (g ⊗ mono k) (adjoin_new k g s r c)) (λ p. go (adjoin_new k g s) (lowered P b (mono-has P (pole-number P p)))) (below_step P b)
    where
      go : ((r : Car) → Below k r → Adjoin k U g (g ⊗ r)) → (a : Car) × Below 1 a × Below k (r ⊕ a ⊗ mono k) → Plus (Adjoin k U g) (g ⊗ mono k) (g ⊗ r)
      go next (a, c, b') = (⊖ a, g ⊗ (r ⊕ a ⊗ mono k), below-neg P c, next (r ⊕ a ⊗ mono k) b', simp ring)

  module _ {f : Car} {d : ℕ} (pf : HasPole P f d) where
    divide_at : (n : ℕ) (r : Car) → Below n r → (q t : Car) × Below (suc (d + largest_gap)) t × (r ≡ f ⊗ q ⊕ t)
    divide_at ℕ.zero r b = (zero, r, below_mono (omega arith) b, simp ring)
    divide_at (suc n) r b = ⊎_elim (divide_at n r) (λ p. at (divide_at n) p (dec_le n (d + largest_gap))) (below_step P b)
      where
        last : (a s : Car) → (q t : Car) × Below (suc (d + largest_gap)) t × (r ⊕ a ⊗ (f ⊗ s) ≡ f ⊗ q ⊕ t)
            → (q t : Car) × Below (suc (d + largest_gap)) t × (r ≡ f ⊗ q ⊕ t)
        last a s (q, t, b, e) = (q ⊕ ⊖ (a ⊗ s), t, b, rules.move R e ∙ simp ring)

        at : ((r : Car) → Below n r → (q t : Car) × Below (suc (d + largest_gap)) t × (r ≡ f ⊗ q ⊕ t)) → HasPole P r n → Dec (n ≤ d + largest_gap)
            → (q t : Car) × Below (suc (d + largest_gap)) t × (r ≡ f ⊗ q ⊕ t)
        at next p (yes l) = (zero, r, below_mono (omega arith) b, simp ring)
        at next p (no l) = go (lowered P b (pole-at P (omega arith) (pole-mul P pf (mono-has P {n = n - d} (pole-large (omega arith))))))
          where
            go : (a : Car) × Below 1 a × Below n (r ⊕ a ⊗ (f ⊗ mono (n - d))) → (q t : Car) × Below (suc (d + largest_gap)) t × (r ≡ f ⊗ q ⊕ t)
            go (a, c, b') = last a (mono (n - d)) (next (r ⊕ a ⊗ (f ⊗ mono (n - d))) b')

    pub divide : (r : Car) → (q t : Car) × Below (suc (d + largest_gap)) t × (r ≡ f ⊗ q ⊕ t)
    divide r = divide_at (below_some r).0 r (below_some r).1

  -- A multiple r·g is g·t and a multiple of f, t below d + 6: so finitely many g·mono k are enough.
  pub extend_based : {I : Car → Type 0} {n : ℕ} (g : Car) → IsIdeal R I → Based P I → Lead P I n → Based P (Extend R I g)
  extend_based {I} {n} g i base (f, mf, pf) = based-same P same (adjoin_based (suc (n + largest_gap)) g (ideal_space P i) base)
    where
      back : (h : Car) → Extend R I g h → Adjoin (suc (n + largest_gap)) I g h
      back h (r, s, m, e) = go (divide pf r)
        where
          go : (q t : Car) × Below (suc (n + largest_gap)) t × (r ≡ f ⊗ q ⊕ t) → Adjoin (suc (n + largest_gap)) I g h
          go (q, t, b, e') =
              subst (Adjoin (suc (n + largest_gap)) I g) (sym (e ∙ rw e' (simp ring)))
              ((adjoin_space (suc (n + largest_gap)) g (ideal_space P i)).sum (adjoin_new (suc (n + largest_gap)) g (ideal_space P i) t b)
              (adjoin_old (suc (n + largest_gap)) I g ((q ⊗ g) ⊗ f ⊕ s) (i.sum (i.times (q ⊗ g) mf) m)))

      same : SameIdeal R (Adjoin (suc (n + largest_gap)) I g) (Extend R I g)
      same h = (adjoin_in (suc (n + largest_gap)) g (λ u m. (zero, u, m, simp ring)) (extend_ideal R g i) (one, zero, i.nil, simp ring) h, back h)
