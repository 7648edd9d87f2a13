-- A candidate whose numbers solve the equations lies in the colon ideal (f : J).
--   Scene                  an ideal J with a least element f and monic elements u and w of degrees d, d1 and d2, and the functional of f
--   meets_one, meets_x, meets_y        J's leads d + 5, d + 2 and d + 1 meet those of 1, x and y at d + 5
--   Solves n a4 a3 a0      the numbers solve the equations
--   colon_x, colon_one, colon_x-one, colon_y-one, colon_all        then the candidate without the terms whose numbers are zero is in (f : J)
use mathlib.Core.Path.{◌≡◌, refl, sym, ◌∙◌, ap, subst}
use mathlib.Core.Logic.{◌⊎◌, inl, inr}
use Prim.Native.Nat.{ℕ, suc, ◌+◌, ◌*◌, ◌-◌, ◌/◌, ◌<◌, ◌≤◌}
use native.Mathlib.Omega.{arith}
use Rattle.algebra.specs.Ring.{CommRing, Field}
use Rattle.algebra.proofs.Laws as L
use Rattle.ideal.specs.Ideal.{IsIdeal, Colon}
use Rattle.ideal.specs.Poles.{largest_gap, IsPole, HasPole}
use Rattle.ideal.proofs.Leads.{Lead}
use Rattle.ideal.proofs.Gaps.{pole_intro}
use Rattle.curve.specs.Curve.{Curve, Coordinate, x, y, constant}
use Rattle.curve.proofs.Coefficient.{constant-zero}
use Rattle.curve.specs.Sequence.{coefficient, twist}
use Rattle.curve.specs.Monomial.{power, mono, Below}
use Rattle.curve.proofs.Filtration.{below-coefficient, coefficient-below}
use Rattle.poles.specs.Poles.{poles}
use Rattle.poles.proofs.Monic.{coefficient-has_pole}
use Rattle.divisor.proofs.Monomials.{mono-x}
use Rattle.vector.proofs.Monomial.{shift-high}
use Rattle.functional.specs.Functional.{apply, Functional, candidate}
use Rattle.functional.proofs.Equations.{candidate-below, equation_u, equation-w, equation_v, no-y}
use Rattle.functional.proofs.Member.{Killed, member}
use Rattle.functional.proofs.Degrees.{Degrees, degrees-lowest, none_1, none_2}

module _ {k : CommRing} (C : Curve k) where
  open k use {Car, zero as 𝟘, one as 𝟙}
  open Coordinate C use {Car as El, zero as 𝟎, add as ◌⊕◌, mul as ◌⊗◌}

  infixl 60 ◌⊕◌
  infixl 70 ◌⊗◌
  shifted_below : (i e : ℕ) {g : El} → Below C (suc e) g → Below C (suc (3 * i + e)) (power (Coordinate C) (x C) i ⊗ g)
  shifted_below i e {g} b =
      let h = power (Coordinate C) (x C) i ⊗ g in
      coefficient-below C (suc (3 * i + e)) h
      (λ m l.
      ap (λ n. coefficient C n h) {x = m} {y = 3 * i + (m - 3 * i)} (omega arith)
      ∙ shift-high C i (m - 3 * i) g
      ∙ below-coefficient C b (m - 3 * i) (omega arith))

  shifted_lead : (i e : ℕ) (g : El) → coefficient C e g ≡ 𝟙 → coefficient C (3 * i + e) (power (Coordinate C) (x C) i ⊗ g) ≡ 𝟙
  shifted_lead i e g o = shift-high C i e g ∙ o

  none : (a : Car) (m : El) → a ≡ 𝟘 → constant C a ⊗ m ≡ 𝟎
  none a m e = ap (λ c. constant C c ⊗ m) e ∙ ap (λ u. u ⊗ m) (constant-zero C) ∙ L.zero-mul (Coordinate C) m

  drop_y : (n : ℕ) (a4 a3 a0 : Car) → a4 ≡ 𝟘 → candidate C n a4 a3 a0 ≡ mono C n ⊕ constant C a3 ⊗ x C ⊕ constant C a0
  unfolding candidate
  drop_y n a4 a3 a0 e =
      ap (λ u. u ⊕ constant C a3 ⊗ x C ⊕ constant C a0) (ap (λ u. mono C n ⊕ u) (none a4 (y C) e) ∙ (Coordinate C).add_zero _)

  drop_x : (n : ℕ) (a4 a3 a0 : Car) → a3 ≡ 𝟘 → candidate C n a4 a3 a0 ≡ mono C n ⊕ constant C a4 ⊗ y C ⊕ constant C a0
  unfolding candidate
  drop_x n a4 a3 a0 e =
      ap (λ u. u ⊕ constant C a0) (ap (λ u. mono C n ⊕ constant C a4 ⊗ y C ⊕ u) (none a3 (x C) e) ∙ (Coordinate C).add_zero _)

  drop_both : (n : ℕ) (a4 a3 a0 : Car) → a4 ≡ 𝟘 → a3 ≡ 𝟘 → candidate C n a4 a3 a0 ≡ mono C n ⊕ constant C a0
  drop_both n a4 a3 a0 e f =
      drop_y n a4 a3 a0 e
      ∙ ap (λ u. u ⊕ constant C a0) (ap (λ u. mono C n ⊕ u) (none a3 (x C) f) ∙ (Coordinate C).add_zero _)

module _ (K : Field) (C : Curve K.ring) (nonzero : ¬ (C.a0 ≡ K.ring.zero)) (N : ℕ) where
  open K.ring use {Car, zero as 𝟘, one as 𝟙, add as ◌+ₖ◌, mul as ◌·ₖ◌, neg as -ₖ◌}
  open Coordinate C use {Car as El, add as ◌⊕◌, mul as ◌⊗◌}

  infixl 60 ◌⊕◌ ◌+ₖ◌
  infixl 70 ◌⊗◌ ◌·ₖ◌
  infix 80 -ₖ◌
  pub record Scene (J : El → Type 0) (f u w : El) (d d1 d2 : ℕ) (lam : ℕ → Car) : Type 0 where
    pub ideal : IsIdeal (Coordinate C) J
    pub f_in : J f
    pub u_in : J u
    pub w_in : J w
    pub f_pole : HasPole (poles K C nonzero) f d
    pub u_below : Below C (suc d1) u
    pub u_monic : coefficient C d1 u ≡ 𝟙
    pub w_below : Below C (suc d2) w
    pub w_monic : coefficient C d2 w ≡ 𝟙
    pub degrees : Degrees (poles K C nonzero) J d d1 d2
    pub functional : Functional C N f d lam
    pub room : d + largest_gap < N
    pub near_1 : (d1 ≡ d + 1) ⊎ (d1 ≡ d + 4)
    pub near_2 : (d2 ≡ d + 2) ⊎ (d2 ≡ d + largest_gap)

  monic-pole : {g : El} {n : ℕ} → Below C (suc n) g → coefficient C n g ≡ 𝟙 → HasPole (poles K C nonzero) g n
  monic-pole b o =
      coefficient-has_pole K C nonzero (λ z. K.nontrivial (sym o ∙ z)) (λ m h. below-coefficient C b m h)

  module _ {J : El → Type 0} {f u w : El} {d d1 d2 : ℕ} {lam : ℕ → Car} (S : Scene J f u w d d1 d2 lam) where
    -- the element of degree d + 5
    abbrev v : El
    v = power (Coordinate C) (x C) ((d + largest_gap - d2) / 3) ⊗ w

    top : 3 * ((d + largest_gap - d2) / 3) + d2 ≡ d + largest_gap
    top = go S.near_2
      where
        go : (d2 ≡ d + 2) ⊎ (d2 ≡ d + largest_gap) → 3 * ((d + largest_gap - d2) / 3) + d2 ≡ d + largest_gap
        go (inl e) = omega arith
        go (inr e) = omega arith

    v_below : Below C (suc (d + largest_gap)) v
    v_below = subst (λ n. Below C (suc n) v) top (shifted_below C ((d + largest_gap - d2) / 3) d2 S.w_below)

    v_monic : coefficient C (d + largest_gap) v ≡ 𝟙
    v_monic = subst (λ n. coefficient C n v ≡ 𝟙) top (shifted_lead C ((d + largest_gap - d2) / 3) d2 w S.w_monic)

    u_pole : d1 ≡ d + 1 → HasPole (poles K C nonzero) u (d + 1)
    u_pole e = subst (HasPole (poles K C nonzero) u) e (monic-pole S.u_below S.u_monic)

    w-pole : d2 ≡ d + 2 → HasPole (poles K C nonzero) w (d + 2)
    w-pole e = subst (HasPole (poles K C nonzero) w) e (monic-pole S.w_below S.w_monic)

    v_in : J v
    v_in = S.ideal.times _ S.w_in

    v_pole : HasPole (poles K C nonzero) v (d + largest_gap)
    v_pole = monic-pole v_below v_monic

    pub meets_one : (m : ℕ) × Lead (poles K C nonzero) J m × (0 + m ≡ d + largest_gap)
    meets_one = (d + largest_gap, (v, v_in, v_pole), omega arith)

    pub meets_x : d2 ≡ d + 2 → (m : ℕ) × Lead (poles K C nonzero) J m × (3 + m ≡ d + largest_gap)
    meets_x e = (d + 2, (w, S.w_in, w-pole e), omega arith)

    pub meets_y : d1 ≡ d + 1 → (m : ℕ) × Lead (poles K C nonzero) J m × (4 + m ≡ d + largest_gap)
    meets_y e = (d + 1, (u, S.u_in, u_pole e), omega arith)

    -- a4 = −c·Λ(mono n·u), a3 = −(a4·Λ(y·w) + Λ(mono n·w)) and a0 = −(a3·Λ(x·v) + (a4·Λ(y·v) + Λ(mono n·v))), where J has the leads d + 1 and d + 2
    pub record Solves (n : ℕ) (a4 a3 a0 : Car) : Type 0 where
      pub y_is : d1 ≡ d + 1 → (c : Car) × (c ·ₖ twist C 4 (d + 1) ≡ 𝟙) × (a4 ≡ -ₖ (c ·ₖ apply C N lam (mono C n ⊗ u)))
      pub y_none : ¬ (d1 ≡ d + 1) → a4 ≡ 𝟘
      pub x_is : d2 ≡ d + 2 → a3 ≡ -ₖ (a4 ·ₖ apply C N lam (mono C 4 ⊗ w) +ₖ apply C N lam (mono C n ⊗ w))
      pub x_none : ¬ (d2 ≡ d + 2) → a3 ≡ 𝟘
      pub one_is : a0 ≡ -ₖ (a3 ·ₖ apply C N lam (mono C 3 ⊗ v) +ₖ (a4 ·ₖ apply C N lam (mono C 4 ⊗ v) +ₖ apply C N lam (mono C n ⊗ v)))

    u_below : d1 ≡ d + 1 → Below C (suc (d + 1)) u
    u_below e = subst (λ m. Below C (suc m) u) e S.u_below

    w_below : d2 ≡ d + 2 → Below C (suc (d + 2)) w
    w_below e = subst (λ m. Below C (suc m) w) e S.w_below

    -- x has no term with y
    x-without-y : {a4 a3 a0 : Car} → Solves 3 a4 a3 a0 → a4 ≡ 𝟘
    x-without-y {a4} {a3} {a0} s = go S.near_1
      where
        go : (d1 ≡ d + 1) ⊎ (d1 ≡ d + 4) → a4 ≡ 𝟘
        go (inl e) = no-y K C N S.functional S.room 3 a4 a3 a0 refl u (u_below e) (s.y_is e).0 (s.y_is e).2
        go (inr e) = s.y_none (λ n. apart d (sym n ∙ e))
          where
            apart : (m : ℕ) → ¬ (m + 1 ≡ m + 4)
            apart m h = omega arith

    module _ {n : ℕ} {a4 a3 a0 : Car} (s : Solves n a4 a3 a0) where
      abbrev g : El
      g = candidate C n a4 a3 a0

      killed_1 : (d1 ≡ d + 1) ⊎ (d1 ≡ d + 4) → (¬ Lead (poles K C nonzero) J (d + 1)) ⊎ Killed K C nonzero N d J lam 1 g
      killed_1 (inr e) = inl (none_1 (poles K C nonzero) J S.degrees e)
      killed_1 (inl e) = inr (u, S.u_in, u_pole e, zero)
        where
          zero : apply C N lam (g ⊗ u) ≡ 𝟘
          zero =
              let (c, i, q) = s.y_is e in
              equation_u K C N S.functional S.room n a4 a3 a0 u (u_below e) (subst (λ m. coefficient C m u ≡ 𝟙) e S.u_monic) c i q

      killed_2 : (d2 ≡ d + 2) ⊎ (d2 ≡ d + largest_gap) → (¬ Lead (poles K C nonzero) J (d + 2)) ⊎ Killed K C nonzero N d J lam 2 g
      killed_2 (inr e) = inl (none_2 (poles K C nonzero) J S.degrees (omega arith))
      killed_2 (inl e) = inr (w, S.w_in, w-pole e, zero)
        where
          zero : apply C N lam (g ⊗ w) ≡ 𝟘
          zero = equation-w K C N S.functional S.room n a4 a3 a0 w (w_below e) (subst (λ m. coefficient C m w ≡ 𝟙) e S.w_monic) (s.x_is e)

      candidate-member : IsPole n → n ≤ 8 → Colon (Coordinate C) f J (candidate C n a4 a3 a0)
      candidate-member p l =
          let lowest = degrees-lowest (poles K C nonzero) J S.degrees in
          member K C nonzero N d S.functional S.room S.f_pole S.ideal S.f_in lowest g (candidate-below C n a4 a3 a0 p l)
          (killed_1 S.near_1) (killed_2 S.near_2)
          (inr (v, v_in, v_pole, equation_v K C N S.functional S.room n a4 a3 a0 v v_below v_monic s.one_is))

    -- the polynomials of a record, m one of y, x², xy and y²
    abbrev InColon : El → Type 0
    InColon g = Colon (Coordinate C) f J g

    pub colon_x : {a4 a3 a0 : Car} → Solves 3 a4 a3 a0 → ¬ (d2 ≡ d + 2) → Colon (Coordinate C) f J (x C ⊕ constant C a0)
    colon_x {a4} {a3} {a0} s z =
        let e = drop_both C 3 a4 a3 a0 (x-without-y s) (s.x_none z) ∙ ap (λ m. m ⊕ constant C a0) (mono-x C) in
        subst InColon e (candidate-member s (pole_intro (omega arith) (omega arith) (omega arith)) (omega arith))

    module _ {n : ℕ} {m : El} (is : mono C n ≡ m) (p : IsPole n) (l : n ≤ 8) {a4 a3 a0 : Car} (s : Solves n a4 a3 a0) where
      pub colon_one : ¬ (d1 ≡ d + 1) → ¬ (d2 ≡ d + 2) → Colon (Coordinate C) f J (m ⊕ constant C a0)
      colon_one y-gone x-gone =
          subst InColon (drop_both C n a4 a3 a0 (s.y_none y-gone) (s.x_none x-gone) ∙ ap (λ u. u ⊕ constant C a0) is) (candidate-member s p l)

      pub colon_x-one : ¬ (d1 ≡ d + 1) → Colon (Coordinate C) f J (m ⊕ constant C a3 ⊗ x C ⊕ constant C a0)
      colon_x-one y-gone =
          subst InColon (drop_y C n a4 a3 a0 (s.y_none y-gone) ∙ ap (λ u. u ⊕ constant C a3 ⊗ x C ⊕ constant C a0) is) (candidate-member s p l)

      pub colon_y-one : ¬ (d2 ≡ d + 2) → Colon (Coordinate C) f J (m ⊕ constant C a4 ⊗ y C ⊕ constant C a0)
      colon_y-one x-gone =
          subst InColon (drop_x C n a4 a3 a0 (s.x_none x-gone) ∙ ap (λ u. u ⊕ constant C a4 ⊗ y C ⊕ constant C a0) is) (candidate-member s p l)

      pub colon_all : Colon (Coordinate C) f J (m ⊕ constant C a4 ⊗ y C ⊕ constant C a3 ⊗ x C ⊕ constant C a0)
      unfolding candidate
      colon_all = subst InColon (ap (λ u. u ⊕ constant C a4 ⊗ y C ⊕ constant C a3 ⊗ x C ⊕ constant C a0) is) (candidate-member s p l)
