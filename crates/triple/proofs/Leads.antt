-- The leads of the span of a triple: the numbers n from the degree of the member of n's class on.
--   degree_most            a degree is 26 at most
--   Leads Q g              g is zero, or has a pole number of which Q holds
--   present-of             a member with a degree below 26 is present
--   full-of                a triple with such degrees is full
--   spanned-lead           an element of the span with the pole number n has the member of n's class below or at n
--   triple-lead            every n from the degree of a present member on, in its class, is a lead
--   whole-all, all_whole   the degrees are (0, 4, 8) exactly if the span is the whole ring
use mathlib.Core.Path.{◌≡◌, refl, sym, ◌∙◌, ap, subst}
use mathlib.Core.Logic.{◌⊎◌, inl, inr, ⊎_elim}
use mathlib.Core.List.{List, [], ◌∷◌}
use Prim.Native.Nat.{ℕ, zero, suc, ◌+◌, ◌*◌, ◌-◌, ◌/◌, ◌%◌, ◌<◌, ◌≤◌}
use native.Mathlib.Omega.{arith}
use native.Mathlib.Decide.{dec_lt}
use lib.ListN.{length}
use Rattle.algebra.specs.Ring.{CommRing}
use Rattle.algebra.proofs.Laws as L
use Rattle.ideal.specs.Poles.{IsPole, Poles, HasPole}
use Rattle.ideal.proofs.Gaps.{pole-apart, pole_intro, pole-zero, pole-large}
use Rattle.ideal.proofs.Degree.{degree, mono-has, monic-pole, pole-add, pole_cong, pole-mul, pole-nonzero, pole-number, pole_unique}
use Rattle.ideal.proofs.Leads.{Lead, lowering}
use Rattle.ideal.proofs.Span.{InX, inx_pole, Span, span_space, span_x, x-lead}
use Rattle.vector.specs.Vector.{at, row, element, width}
use Rattle.triple.specs.Setting as setting
use Rattle.triple.specs.Setting.{Setting, poles_of}
use Rattle.triple.specs.Triple.{Present, Absent, Triple, Full, elements, Spanned}
use Rattle.triple.specs.Contract.{Whole}
use Rattle.triple.proofs.Element.{element-zero, present-monic}
use Rattle.triple.proofs.Members.{spanned-row}

three-rows : (t : List (List ℕ)) → length t ≡ 3 → t ≡ row t 0 ∷ row t 1 ∷ row t 2 ∷ []
three-rows [] e = absurd (omega arith)
three-rows (a ∷ []) e = absurd (omega arith)
three-rows (a ∷ b ∷ []) e = absurd (omega arith)
three-rows (a ∷ b ∷ c ∷ []) e = refl
three-rows (a ∷ b ∷ c ∷ d ∷ t) e = absurd (omega arith)

module _ {p : ℕ} {t : List (List ℕ)} {d : List ℕ} (T : Triple p t d) where
  pub present-of : (j : ℕ) → j < 3 → at d j < width → Present (row t j) j (at d j)
  present-of j h l = go (T.member j h).shape
    where
      go : Present (row t j) j (at d j) ⊎ Absent (row t j) (at d j) → Present (row t j) j (at d j)
      go (inl q) = q
      go (inr q) = absurd (omega (arith, q.none))

  pub degree_most : (j : ℕ) → j < 3 → at d j ≤ width
  degree_most j h = ⊎_elim (λ q. omega (arith, q.inside)) (λ q. omega (arith, q.none)) (T.member j h).shape

  pub full-of : ((j : ℕ) → j < 3 → at d j < width) → Full p t d
  full-of f = record { triple = T; present = λ j h. present-of j h (f j h) }

module _ {R : CommRing} (P : Poles R) where
  -- g is zero or has a pole number with the property Q
  abbrev pub Leads : (ℕ → Type 0) → R.Car → Type 0
  Leads Q g = (g ≡ R.zero) ⊎ ((n : ℕ) × HasPole P g n × Q n)

  leads-add : {Q Q' Q'' : ℕ → Type 0} {a b : R.Car} → ((m n : ℕ) → Q m → Q' n → ¬ (m ≡ n)) → ((n : ℕ) → Q n → Q'' n) → ((n : ℕ) → Q' n → Q'' n) → Leads Q a → Leads Q' b → Leads Q'' (R.add a b)
  leads-add {Q} {Q'} {Q''} {a} {b} apart f g = go
    where
      both : (m n : ℕ) → HasPole P a m → Q m → HasPole P b n → Q' n → Dec (m < n) → Leads Q'' (R.add a b)
      both m n h q h' q' (yes l) = inr (n, pole_cong P (R.add_comm b a) (pole-add P h' (P.below_mono l h.upper)), g n q')
      both m n h q h' q' (no l) = inr (m, pole-add P h (P.below_mono (let e : ¬ (m ≡ n) = apart m n q q' in omega arith) h'.upper), f m q)

      go : Leads Q a → Leads Q' b → Leads Q'' (R.add a b)
      go (inl e) (inl e') = inl (ap (λ u. R.add u b) e ∙ L.zero-add R b ∙ e')
      go (inl e) (inr (n, h, q)) = inr (n, pole_cong P (sym (ap (λ u. R.add u b) e ∙ L.zero-add R b)) h, g n q)
      go (inr (n, h, q)) (inl e) = inr (n, pole_cong P (sym (ap (R.add a) e ∙ R.add_zero a)) h, f n q)
      go (inr (m, h, q)) (inr (n, h', q')) = both m n h q h' q' (dec_lt m n)

module _ {p : ℕ} (S : Setting p) {t : List (List ℕ)} {d : List ℕ} (T : Triple p t d) where
  abbrev Car : Type 0
  Car = (setting.ring S).Car

  abbrev P : Poles (setting.ring S)
  P = poles_of S

  abbrev el : List ℕ → Car
  el v = element p S.curve v

  -- a pole number of the class j, or of the classes from k on, that a present member reaches
  record In (j n : ℕ) : Type 0 where
    class : n % 3 ≡ j
    reached : at d j ≤ n
    present : at d j < width

  record From (k n : ℕ) : Type 0 where
    class : k ≤ n % 3
    reached : at d (n % 3) ≤ n
    present : at d (n % 3) < width

  from_in : (j n : ℕ) → In j n → From j n
  from_in j n q = record { class = omega (arith, q.class); reached = subst (λ i. at d i ≤ n) (sym q.class) q.reached; present = subst (λ i. at d i < width) (sym q.class) q.present }

  from_less : (j n : ℕ) → From (suc j) n → From j n
  from_less j n q = record { class = omega (arith, q.class); reached = q.reached; present = q.present }

  member-pole : (j : ℕ) → j < 3 → Present (row t j) j (at d j) → HasPole P (el (row t j)) (at d j)
  member-pole j h q = monic-pole P (present-monic S (T.member j h).vec q)

  multiple : (j : ℕ) → j < 3 → (c : Car) → InX P c → Leads P (In j) ((setting.ring S).mul c (el (row t j)))
  multiple j h c i = go (T.member j h).shape (degree P c)
    where
      go : Present (row t j) j (at d j) ⊎ Absent (row t j) (at d j) → (c ≡ (setting.ring S).zero) ⊎ ((m : ℕ) × HasPole P c m) → Leads P (In j) ((setting.ring S).mul c (el (row t j)))
      go (inr q) e = inl (ap ((setting.ring S).mul c) (element-zero S (T.member j h).vec q.nought) ∙ L.mul-zero (setting.ring S) c)
      go (inl q) (inl e) = inl (ap (λ u. (setting.ring S).mul u (el (row t j))) e ∙ L.zero-mul (setting.ring S) _)
      go (inl q) (inr (m, k)) = at-pole (inx_pole P i k)
        where
          at-pole : (i : ℕ) × (m ≡ 3 * i) → Leads P (In j) ((setting.ring S).mul c (el (row t j)))
          at-pole (i, e) = inr (m + at d j, pole-mul P k (member-pole j h q), record { class = omega (arith, q.class); reached = omega arith; present = q.inside })

  more : (j : ℕ) → j < 3 → {c s g : Car} → InX P c → Leads P (From (suc j)) s → g ≡ (setting.ring S).add ((setting.ring S).mul c (el (row t j))) s → Leads P (From j) g
  more j h {c} i l e = subst (Leads P (From j)) (sym e) (leads-add P (λ m n a b. omega (arith, a.class, b.class)) (from_in j) (from_less j) (multiple j h c i) l)

  split : (g : Car) → Span P (el (row t 0) ∷ el (row t 1) ∷ el (row t 2) ∷ []) g → Leads P (From 0) g
  split g (c0, s0, i0, (c1, s1, i1, (c2, s2, i2, z, e2), e1), e0) = more 0 (omega arith) i0 (more 1 (omega arith) i1 (more 2 (omega arith) i2 (inl z) e2) e1) e0

  pub spanned-lead : {g : Car} {n : ℕ} → Spanned S t g → HasPole P g n → (at d (n % 3) ≤ n) × (at d (n % 3) < width)
  spanned-lead {g} {n} m h = go (split g (subst (λ u. Span P (elements S u) g) (three-rows t T.len_t) m))
    where
      go : Leads P (From 0) g → (at d (n % 3) ≤ n) × (at d (n % 3) < width)
      go (inl e) = absurd (pole-nonzero P h e)
      go (inr (k, h', q)) = subst (λ i. (at d (i % 3) ≤ i) × (at d (i % 3) < width)) (pole_unique P h' h) (q.reached, q.present)

  pub triple-lead : (n : ℕ) → at d (n % 3) < width → at d (n % 3) ≤ n → Lead P (Spanned S t) n
  triple-lead n l h =
      subst (Lead P (Spanned S t)) (omega (arith, q.class))
      (x-lead P (span_x P (elements S t)) ((n - at d (n % 3)) / 3) (el (row t (n % 3)), spanned-row S t (n % 3) (omega (arith, T.len_t)), member-pole (n % 3) (omega arith) q))
    where
      q : Present (row t (n % 3)) (n % 3) (at d (n % 3))
      q = present-of T (n % 3) (omega arith) l

  pub whole-all : Whole d → (g : Car) → Spanned S t g
  whole-all w g =
      lowering P {I' = λ _. Unit} (span_space P (elements S t)) (record { nil = tt; sum = λ m n. tt; scale = λ k m. tt }) (λ g m. tt)
      (λ n (u, m, k). lead n (pole-number P k) (n % 3) refl) g tt
    where
      lead : (n : ℕ) → IsPole n → (j : ℕ) → n % 3 ≡ j → Lead P (Spanned S t) n
      lead n k zero e = triple-lead n (subst (λ i. at d i < width) (sym e) (omega (arith, w.zeroth))) (subst (λ i. at d i ≤ n) (sym e) (omega (arith, w.zeroth)))
      lead n k (suc zero) e = triple-lead n (subst (λ i. at d i < width) (sym e) (omega (arith, w.first))) (subst (λ i. at d i ≤ n) (sym e) (omega (arith, w.first, pole-apart k)))
      lead n k (suc (suc zero)) e = triple-lead n (subst (λ i. at d i < width) (sym e) (omega (arith, w.second))) (subst (λ i. at d i ≤ n) (sym e) (omega (arith, w.second, pole-apart k)))
      lead n k (suc (suc (suc j))) e = absurd (omega arith)

  -- the degree of a present member is a pole number of its class
  present-pole : (j : ℕ) → j < 3 → at d j < width → (at d j % 3 ≡ j) × IsPole (at d j)
  present-pole j h l = (q.class, pole-number P (member-pole j h q))
    where
      q : Present (row t j) j (at d j)
      q = present-of T j h l

  pub all_whole : ((g : Car) → Spanned S t g) → Whole d
  all_whole f = record { zeroth = omega (arith, reach 0 pole-zero); first = first (reach 4 four); second = second (reach 8 (pole-large (omega arith))) }
    where
      reach : (n : ℕ) → IsPole n → (at d (n % 3) ≤ n) × (at d (n % 3) < width)
      reach n k = spanned-lead (f (P.mono n)) (mono-has P k)

      four : IsPole 4
      four = pole_intro (omega arith) (omega arith) (omega arith)

      first : (at d 1 ≤ 4) × (at d 1 < width) → at d 1 ≡ 4
      first (a, b) = omega (arith, (present-pole 1 (omega arith) b).0, pole-apart (present-pole 1 (omega arith) b).1)

      second : (at d 2 ≤ 8) × (at d 2 < width) → at d 2 ≡ 8
      second (a, b) = omega (arith, (present-pole 2 (omega arith) b).0, pole-apart (present-pole 2 (omega arith) b).1)
