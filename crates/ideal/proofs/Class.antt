-- Equivalent ideals: a·I = b·J for nonzero a and b. Their stars are the same ideal.
--   equivalent_same    sets with the same elements are equivalent
--   equivalent_refl, equivalent_sym, equivalent_trans
--   equivalent_member  a·g = b·h with h in I gives g in J, for a·J = b·I
--   equivalent_ideal   what is equivalent to an ideal is an ideal
--   equivalent_least   … and has a least element if the ideal has one
--   star-class         (f : I) = (f' : J) for equivalent I and J with the least elements f and f'
use mathlib.Core.Path.{◌≡◌, refl, sym, ◌∙◌, ap, subst}
use mathlib.Core.Logic.Iff
use mathlib.Core.Logic.{⊎_elim}
use Prim.Native.Nat.{ℕ, ◌+◌, ◌≤◌}
use native.Mathlib.Omega.{arith}
use Rattle.algebra.specs.Ring.{CommRing}
use Rattle.algebra.proofs.Laws as laws
use Rattle.ideal.specs.Ideal.{IsIdeal, Multiple, Colon, SameIdeal, Equivalent}
use Rattle.ideal.specs.Poles.{Poles, HasPole, Monic}
use Rattle.ideal.specs.Reduced.{Least}
use Rattle.ideal.proofs.Degree.{cancel, degree, monic-pole, mul-nonzero, one-nonzero, pole-at, pole_cong, pole-mul, pole-nonzero, pole-some, pole_unique}
use Rattle.ideal.proofs.Leads.{IsSpace, ideal_space, lead-monic, least-multiple}
use Rattle.ideal.proofs.Rules.{ring}

module _ {R : CommRing} (P : Poles R) where
  open R use {Car, one, mul as ◌⊗◌}
  open P use {Below}

  infixl 70 ◌⊗◌
  pub equivalent_same : {I J : Car → Type 0} → SameIdeal R I J → Equivalent R I J
  equivalent_same e = record {
    a = one;
    b = one;
    a_nonzero = one-nonzero P;
    b_nonzero = one-nonzero P;
    there = λ g m. (g, (e g).0 m, refl);
    back = λ h m. (h, (e h).1 m, refl);
  }

  pub equivalent_refl : (I : Car → Type 0) → Equivalent R I I
  equivalent_refl I = equivalent_same {I = I} {J = I} (λ g. Iff.rfl)

  pub equivalent_sym : {I J : Car → Type 0} → Equivalent R I J → Equivalent R J I
  equivalent_sym {I} {J} e = record {
    a = e.b;
    b = e.a;
    a_nonzero = e.b_nonzero;
    b_nonzero = e.a_nonzero;
    there = λ h m. turn h (e.back h m);
    back = λ g m. turn' g (e.there g m);
  }
    where
      turn : (h : Car) → (g : Car) × I g × (e.a ⊗ g ≡ e.b ⊗ h) → (g : Car) × I g × (e.b ⊗ h ≡ e.a ⊗ g)
      turn h (g, m, q) = (g, m, sym q)

      turn' : (g : Car) → (h : Car) × J h × (e.a ⊗ g ≡ e.b ⊗ h) → (h : Car) × J h × (e.b ⊗ h ≡ e.a ⊗ g)
      turn' g (h, m, q) = (h, m, sym q)

  chain : {a b c d g h k : Car} → a ⊗ g ≡ b ⊗ h → c ⊗ h ≡ d ⊗ k → (a ⊗ c) ⊗ g ≡ (b ⊗ d) ⊗ k
  chain {a} {b} {c} {d} {g} {h} {k} p q = (simp ring) ∙ ap (λ t. c ⊗ t) p ∙ (simp ring) ∙ ap (λ t. b ⊗ t) q ∙ (simp ring)

  pub equivalent_trans : {I J K : Car → Type 0} → Equivalent R I J → Equivalent R J K → Equivalent R I K
  equivalent_trans {I} {J} {K} e e' = record {
    a = e.a ⊗ e'.a;
    b = e.b ⊗ e'.b;
    a_nonzero = mul-nonzero P e.a_nonzero e'.a_nonzero;
    b_nonzero = mul-nonzero P e.b_nonzero e'.b_nonzero;
    there = λ g m. on g (e.there g m);
    back = λ k m. off k (e'.back k m);
  }
    where
      on : (g : Car) → (h : Car) × J h × (e.a ⊗ g ≡ e.b ⊗ h) → (k : Car) × K k × ((e.a ⊗ e'.a) ⊗ g ≡ (e.b ⊗ e'.b) ⊗ k)
      on g (h, m, q) = ((e'.there h m).0, (e'.there h m).1, chain q (e'.there h m).2)

      off : (k : Car) → (h : Car) × J h × (e'.a ⊗ h ≡ e'.b ⊗ k) → (g : Car) × I g × ((e.a ⊗ e'.a) ⊗ g ≡ (e.b ⊗ e'.b) ⊗ k)
      off k (h, m, q) = ((e.back h m).0, (e.back h m).1, chain (e.back h m).2 q)

  -- g is in J if a·g is in b·I.
  pub equivalent_member : {J I : Car → Type 0} {g h : Car} (e : Equivalent R J I) → I h → e.a ⊗ g ≡ e.b ⊗ h → J g
  equivalent_member {J} {I} {g} {h} e m q = go (e.back h m)
    where
      go : (t : Car) × J t × (e.a ⊗ t ≡ e.b ⊗ h) → J g
      go (t, mt, qt) = subst J (cancel P e.a_nonzero (qt ∙ sym q)) mt

  pub equivalent_ideal : {J I : Car → Type 0} → Equivalent R J I → IsIdeal R I → IsIdeal R J
  equivalent_ideal {J} {I} e i = record {
    nil = equivalent_member e i.nil (simp ring);
    sum = λ {a = x} {b = y} mx my. equivalent_member e (i.sum (e.there x mx).1 (e.there y my).1)
        (R.mul_add e.a x y ∙ rw ((e.there x mx).2, (e.there y my).2) (sym (R.mul_add e.b (e.there x mx).0 (e.there y my).0)));
    times = λ r {a = x} mx. equivalent_member e (i.times r (e.there x mx).1)
        (laws.mul_left_comm R e.a r x ∙ ap (λ t. r ⊗ t) (e.there x mx).2 ∙ laws.mul_left_comm R r e.b (e.there x mx).0);
  }

  -- a·g = b·h relates the pole numbers.
  ratio_pole : {a b g h : Car} {k l m : ℕ} → HasPole P a k → HasPole P b l → HasPole P g m → a ⊗ g ≡ b ⊗ h → (n : ℕ) × HasPole P h n × (k + m ≡ l + n)
  ratio_pole {a} {b} {g} {h} pa pb pg q =
      ⊎_elim (λ z. absurd (pole-nonzero P (pole-mul P pa pg) (q ∙ rw z (laws.mul-zero R b))))
      (λ (n, ph). (n, ph, pole_unique P (pole-mul P pa pg) (pole_cong P (sym q) (pole-mul P pb ph)))) (degree P h)

  module _ {J I : Car → Type 0} (e : Equivalent R J I) {k m : ℕ} (pa : HasPole P e.a k) (pb : HasPole P e.b m) where
    -- An element of J, g, with a·g = b·f for the least element f of I has the lowest pole number.
    least-back : {f g : Car} (i : IsIdeal R I) (l : Least P I f) → J g → (n : ℕ) × HasPole P g n × (m + l.pole ≡ k + n) → (f' : Car) × Least P J f'
    least-back {f} {g} i l mg (n, pg, q) = last (lead-monic P (ideal_space P (equivalent_ideal e i)) (g, mg, pg))
      where
        low : (t : ℕ) (x : Car) → I x → (v : ℕ) × HasPole P x v × (k + t ≡ m + v) → n ≤ t
        low t x mx (v, px, q') = omega (arith, l.lowest x v mx px)

        last : (u : Car) × J u × Monic P u n → (f' : Car) × Least P J f'
        last (u, mu, mon) =
            (u, record { pole = n; member = mu; monic = mon; lowest = λ h t mh ph. low t (e.there h mh).0 (e.there h mh).1 (ratio_pole pa pb ph (e.there h mh).2) })

    -- The least elements f of J and f' of I satisfy a·f = b·c·f' with a constant c.
    least_match : {f f' : Car} → IsSpace P I → Least P J f → Least P I f' → (c : Car) × (e.a ⊗ f ≡ e.b ⊗ (c ⊗ f'))
    least_match {f} {f'} s l l' = go (e.there f l.member) (e.back f' l'.member)
      where
        last : {j : Car} → e.a ⊗ f ≡ e.b ⊗ j → (c : Car) × Below 1 c × (j ≡ c ⊗ f') → (c : Car) × (e.a ⊗ f ≡ e.b ⊗ (c ⊗ f'))
        last q (c, _, q') = (c, q ∙ ap (λ t. e.b ⊗ t) q')

        at : {i j : Car} → I j → J i → e.a ⊗ f ≡ e.b ⊗ j → (n : ℕ) × HasPole P j n × (k + l.pole ≡ m + n)
            → (n : ℕ) × HasPole P i n × (m + l'.pole ≡ k + n) → (c : Car) × (e.a ⊗ f ≡ e.b ⊗ (c ⊗ f'))
        at {i} {j} mj mi q (n, pj, qn) (n', pi, qn') =
            last q (least-multiple P l' s mj (pole-at P (omega (arith, l.lowest i n' mi pi, l'.lowest j n mj pj)) pj))

        go : (j : Car) × I j × (e.a ⊗ f ≡ e.b ⊗ j) → (i : Car) × J i × (e.a ⊗ i ≡ e.b ⊗ f') → (c : Car) × (e.a ⊗ f ≡ e.b ⊗ (c ⊗ f'))
        go (j, mj, q) (i, mi, q') = at mj mi q (ratio_pole pa pb (monic-pole P l.monic) q) (ratio_pole pb pa (monic-pole P l'.monic) (sym q'))

  pub equivalent_least : {J I : Car → Type 0} {f : Car} → IsIdeal R I → Equivalent R J I → Least P I f → (f' : Car) × Least P J f'
  equivalent_least {J} {I} {f} i e l = go (pole-some P e.a_nonzero) (pole-some P e.b_nonzero) (e.back f l.member)
    where
      go : (k : ℕ) × HasPole P e.a k → (m : ℕ) × HasPole P e.b m → (g : Car) × J g × (e.a ⊗ g ≡ e.b ⊗ f) → (f' : Car) × Least P J f'
      go (k, pa) (m, pb) (g, mg, q) = least-back e pa pb i l mg (ratio_pole pb pa (monic-pole P l.monic) (sym q))

  star-half : {I J : Car → Type 0} {f f' : Car} → IsSpace P J → Equivalent R I J → Least P I f → Least P J f' → (g : Car) → Colon R f I g → Colon R f' J g
  star-half {I} {J} {f} {f'} s e l l' g k h mh = go (least_match e (pole-some P e.a_nonzero).1 (pole-some P e.b_nonzero).1 s l l') (e.back h mh)
    where
      last : {c i : Car} → e.a ⊗ f ≡ e.b ⊗ (c ⊗ f') → e.a ⊗ i ≡ e.b ⊗ h → Multiple R f (g ⊗ i) → Multiple R f' (g ⊗ h)
      last {c} {i} q q' (t, qt) = (
        c ⊗ t,
        cancel P e.b_nonzero
            (laws.mul_left_comm R e.b g h ∙ ap (λ x. g ⊗ x) (sym q') ∙ laws.mul_left_comm R g e.a i ∙ ap (λ x. e.a ⊗ x) qt
            ∙ sym (R.mul_assoc e.a f t) ∙ ap (λ x. x ⊗ t) q ∙ simp ring),
      )

      go : (c : Car) × (e.a ⊗ f ≡ e.b ⊗ (c ⊗ f')) → (i : Car) × I i × (e.a ⊗ i ≡ e.b ⊗ h) → Multiple R f' (g ⊗ h)
      go (c, q) (i, mi, q') = last q q' (k i mi)

  pub star-class : {I J : Car → Type 0} {f f' : Car} → IsIdeal R I → IsIdeal R J → Equivalent R I J → Least P I f → Least P J f'
      → SameIdeal R (Colon R f I) (Colon R f' J)
  star-class i j e l l' g = (star-half (ideal_space P j) e l l' g, star-half (ideal_space P i) (equivalent_sym e) l' l g)
