-- The reduced ideal of an ideal of type 61 has a record of kind 31, and the first polynomial f of that record times v is u·(κ·g + ν·f), g the second.
--   reduced-at             an element of J times the least element of J* is u times an element of the reduced ideal
--   reduced-from           the least element of J* has a pole number from 6 on
--   reduced-least          it is the least element of the reduced ideal
--   reduced-lead           so the leads of the reduced ideal are from 6 on
--   top_away               g less c·h, h monic of pole number n and c the coefficient of g there, is below n
--   combination            an element of an ideal with the least element f, at most one above it, is κ·g + ν·f for each monic g one above it
--   Reduction J u v        the record of the reduced ideal of J, and κ and ν
--   reduction              every ideal of type 61 has it
use mathlib.Core.Path.{◌≡◌, refl, sym, ◌∙◌, ap, subst}
use mathlib.Core.Logic.{inl, inr, ⊎_elim}
use Prim.Native.Nat.{ℕ, suc, ◌+◌, ◌≤◌}
use native.Mathlib.Omega.{arith}
use Rattle.algebra.specs.Ring.{CommRing, Field}
use Rattle.algebra.proofs.Laws as laws
use Rattle.algebra.proofs.Solve.{solve, ◌⊞◌, ◌⊠◌, ⊟◌}
use Rattle.ideal.specs.Ideal.{IsIdeal, Multiple, Colon}
use Rattle.ideal.specs.Poles.{IsPole, Poles, HasPole, Monic}
use Rattle.ideal.specs.Reduced.{Least, IsReduced}
use Rattle.ideal.proofs.Same.{same_sym}
use Rattle.ideal.proofs.Degree.{degree, monic-pole, pole-at, pole_cong, pole-mul, pole-nonzero, pole-number, pole_unique}
use Rattle.ideal.proofs.Leads.{Lead, ideal_space, space_neg, least-below, least-same, least_unique}
use Rattle.ideal.proofs.Kernel.{multiple-pole}
use Rattle.ideal.proofs.Colon.{colon_colon, colon_self}
use Rattle.ideal.proofs.Generated.{generated_ideal, generated_each}
use Rattle.ideal.proofs.Invertible.{Scaled}
use Rattle.ideal.proofs.Swap.{colon_swap}
use Rattle.ideal.proofs.Reduced.{star_footprint, footprint_least}
use Rattle.curve.specs.Curve.{Curve, Coordinate, constant}
use Rattle.curve.specs.Sequence.{coefficient}
use Rattle.curve.specs.Monomial.{mono, Below}
use Rattle.curve.proofs.Filtration.{below_add, below-neg, below-constant-mul}
use Rattle.curve.proofs.Product.{split}
use Rattle.poles.specs.Poles.{poles}
use Rattle.divisor.specs.Kind.{Kind, k0, k11, k21, k22, k31, polynomials, IdealOf, IsBasis}
use Rattle.divisor.proofs.Table.{Reached, kind_by, pole_by}
use Rattle.divisor.proofs.Members.{member-monic}
use Rattle.divisor.proofs.Basis.{basis-lead}
use Rattle.divisor.proofs.Exists.{RecordOf, record_of}
use Rattle.type61.proofs.Form.{first, second}
use Rattle.type61.proofs.Shape.{Type61}

-- 0, 3 and 4 stand one or two below a gap
from_six : (m : ℕ) → IsPole m → IsPole (1 + m) → IsPole (2 + m) → 6 ≤ m
from_six = pole_by _ (λ a b. absurd (a (inl refl))) (λ a b. absurd (b (inr (inr refl)))) (λ a b. absurd (a (inr (inr refl)))) (λ m l a b. l)

module _ {R : CommRing} (P : Poles R) {J A : R.Car → Type 0} {u v : R.Car} (t : Type61 P J u v) (r : IsReduced P J A) where
  open R use {Car, mul as ◌⊗◌}

  infixl 70 ◌⊗◌
  -- f, the least element of J, is u; f' is the least element of J* = (f : J), and d its pole number
  abbrev f : Car
  f = r.f

  abbrev f' : Car
  f' = r.f'

  abbrev d : ℕ
  d = r.least'.pole

  least_u : Least P J u
  least_u = record { pole = 9; member = t.u_in; monic = t.u_monic; lowest = t.lowest }

  f_u : f ≡ u
  f_u = least_unique P (ideal_space P t.based.ideal) r.least least_u

  pf : HasPole P f 9
  pf = pole_cong P (sym f_u) (monic-pole P t.u_monic)

  pf' : HasPole P f' d
  pf' = monic-pole P r.least'.monic

  -- f'·(f : J*) = f·(f' : J*), and (f : J*) is J
  pub reduced-at : (j : Car) → J j → (a : Car) × A a × (f' ⊗ j ≡ u ⊗ a)
  reduced-at j m =
      go ((colon_swap P {I = Colon R f J} (pole-nonzero P pf) (pole-nonzero P pf') (colon_self R f J) r.least'.member (f' ⊗ j)).0
      (j, (colon_colon P pf t.based.ideal t.based.based r.least.member j).1 m, refl))
    where
      go : Scaled R f (Colon R f' (Colon R f J)) (f' ⊗ j) → (a : Car) × A a × (f' ⊗ j ≡ u ⊗ a)
      go (a, k, e) = (a, (r.same a).1 k, e ∙ ap (λ s. s ⊗ a) f_u)

  -- d + n − 9 is a pole number for each lead n of J
  above : {n : ℕ} → Lead P J n → (s : ℕ) × IsPole s × (d + n ≡ 9 + s)
  above {n} (j, m, p) = go (r.least'.member j m)
    where
      go : Multiple R f (f' ⊗ j) → (s : ℕ) × IsPole s × (d + n ≡ 9 + s)
      go (q, e) = multiple-pole P pf (pole_cong P e (pole-mul P pf' p))

  -- d is no gap, nor is d + 1 or d + 2
  pub reduced-from : 6 ≤ d
  reduced-from = go (above (v, t.v_in, t.v_pole)) (above t.lead_11)
    where
      go : (s : ℕ) × IsPole s × (d + 10 ≡ 9 + s) → (s : ℕ) × IsPole s × (d + 11 ≡ 9 + s) → 6 ≤ d
      go (s, p, e) (s', p', e') = from_six d (pole-number P pf') (subst IsPole (omega arith) p) (subst IsPole (omega arith) p')

  pub reduced-least : Least P A f'
  reduced-least = least-same P (same_sym R r.same) (footprint_least P (star_footprint P t.based.ideal t.based.based r.least) r.least')

  pub reduced-lead : (m : ℕ) → Lead P A m → 6 ≤ m
  reduced-lead m (h, ah, p) = omega (arith, reduced-from, reduced-least.lowest h m ah p, pole_unique P (monic-pole P reduced-least.monic) pf')

module _ (K : Field) (C : Curve K.ring) (nonzero : ¬ (C.a0 ≡ K.ring.zero)) where
  open Coordinate C use {Car as El, add as ◌⊕◌, mul as ◌⊗◌, neg as ⊖◌}

  infixl 60 ◌⊕◌
  infixl 70 ◌⊗◌
  infix 80 ⊖◌
  abbrev P : Poles (Coordinate C)
  P = poles K C nonzero

  -- g − c·h is g − c·mono n less c·(h − mono n)
  pub top_away : {n : ℕ} (g : El) {h : El} → Monic P h n → P.Below (suc n) g → P.Below n (g ⊕ ⊖ (constant C (coefficient C n g) ⊗ h))
  unfolding poles
  top_away {n} g {h} m b =
      subst (λ (s : El). Below C n s) (again g h (constant C (coefficient C n g)) (mono C n))
      (below_add C (split C b) (below-neg C (below-constant-mul C (coefficient C n g) m.rest)))
    where
      again : (g h c e : El) → g ⊕ ⊖ (c ⊗ e) ⊕ ⊖ (c ⊗ (h ⊕ ⊖ e)) ≡ g ⊕ ⊖ (c ⊗ h)
      again = solve (Coordinate C) 4 (λ g h c e. g ⊞ ⊟ (c ⊠ e) ⊞ ⊟ (c ⊠ (h ⊞ ⊟ e))) (λ g h c e. g ⊞ ⊟ (c ⊠ h)) tt

  pub combination : {J : El → Type 0} {f g q : El} (l : Least P J f) → IsIdeal (Coordinate C) J → J g → Monic P g (suc l.pole) → J q → P.Below (suc (suc l.pole)) q
      → (κ ν : K.ring.Car) × (q ≡ constant C κ ⊗ g ⊕ constant C ν ⊗ f)
  combination {J} {f} {g} {q} l i mg gm mq b =
      (κ, ν, laws.sub-zero→eq (Coordinate C) q _ (sym (apart q (constant C κ ⊗ g) (constant C ν ⊗ f)) ∙ least-below P l (less ν l.member mid) (top_away rest l.monic (top_away q gm b))))
    where
      κ : K.ring.Car
      κ = coefficient C (suc l.pole) q

      rest : El
      rest = q ⊕ ⊖ (constant C κ ⊗ g)

      ν : K.ring.Car
      ν = coefficient C l.pole rest

      less : {p h : El} (c : K.ring.Car) → J h → J p → J (p ⊕ ⊖ (constant C c ⊗ h))
      less c mh mp = i.sum mp (space_neg P (ideal_space P i) (i.times (constant C c) mh))

      mid : J rest
      mid = less κ mg mq

      apart : (q a b : El) → q ⊕ ⊖ a ⊕ ⊖ b ≡ q ⊕ ⊖ (a ⊕ b)
      apart = solve (Coordinate C) 3 (λ q a b. q ⊞ ⊟ a ⊞ ⊟ b) (λ q a b. q ⊞ ⊟ (a ⊞ b)) tt

  pub record Reduction (J : El → Type 0) (u v : El) : Type 0 where
    pub numbers : ℕ → K.ring.Car
    pub basis : IsBasis C k31 numbers
    pub reduced : IsReduced (poles K C nonzero) J (IdealOf C k31 numbers)
    pub κ : K.ring.Car
    pub ν : K.ring.Car
    pub identity : first C numbers ⊗ v ≡ u ⊗ (constant C κ ⊗ second C numbers ⊕ constant C ν ⊗ first C numbers)

  module _ {J : El → Type 0} {u v : El} (t : Type61 P J u v) where
    reached : (κ : Kind) (n : ℕ → K.ring.Car) → IsBasis C κ n → IsReduced P J (IdealOf C κ n) → (m : ℕ) → Reached κ m → 6 ≤ m
    reached κ n b r m h = reduced-lead P t r m (basis-lead K C nonzero κ n b m h)

    usual : (n : ℕ → K.ring.Car) → IsBasis C k31 n → IsReduced P J (IdealOf C k31 n) → Reduction J u v
    usual n b r = go (reduced-at P t r v t.v_in)
      where
        i : IsIdeal (Coordinate C) (IdealOf C k31 n)
        i = generated_ideal (Coordinate C) (polynomials C k31 n)

        least_first : Least P (IdealOf C k31 n) (first C n)
        least_first = record {
          pole = 6;
          member = (generated_each (Coordinate C) (polynomials C k31 n)).0;
          monic = member-monic K C nonzero n k31 0 (omega arith);
          lowest = λ h m mh p. reduced-lead P t r m (h, mh, p);
        }

        same : r.f' ≡ first C n
        same = least_unique P (ideal_space P i) (reduced-least P t r) least_first

        at : {q : El} → first C n ⊗ v ≡ u ⊗ q → (κ ν : K.ring.Car) × (q ≡ constant C κ ⊗ second C n ⊕ constant C ν ⊗ first C n) → Reduction J u v
        at e (κ, ν, e') = record { numbers = n; basis = b; reduced = r; κ = κ; ν = ν; identity = e ∙ ap (λ s. u ⊗ s) e' }

        go : (q : El) × IdealOf C k31 n q × (r.f' ⊗ v ≡ u ⊗ q) → Reduction J u v
        go (q, mq, e) = at e' (combination least_first i (generated_each (Coordinate C) (polynomials C k31 n)).1.0 (member-monic K C nonzero n k31 1 (omega arith)) mq low.upper)
          where
            e' : first C n ⊗ v ≡ u ⊗ q
            e' = ap (λ s. s ⊗ v) (sym same) ∙ e

            product : HasPole P (u ⊗ q) 16
            product = pole_cong P e' (pole-mul P (monic-pole P (member-monic K C nonzero n k31 0 (omega arith))) t.v_pole)

            low : HasPole P q 7
            low = ⊎_elim (λ z. absurd (pole-nonzero P product (ap (λ s. u ⊗ s) z ∙ laws.mul-zero (Coordinate C) u)))
                (λ (m, p). pole-at P (omega (arith, pole_unique P product (pole-mul P (monic-pole P t.u_monic) p))) p) (degree P q)

  -- the other kinds have the lead 0, 3 or 4
  pub reduction : {J : El → Type 0} {u v : El} → Type61 (poles K C nonzero) J u v → Reduction J u v
  reduction {J} {u} {v} t = go (record_of K C nonzero t.based)
    where
      by : (κ : Kind) (n : ℕ → K.ring.Car) → IsBasis C κ n → IsReduced P J (IdealOf C κ n) → Reduction J u v
      by =
          kind_by (λ κ. (n : ℕ → K.ring.Car) → IsBasis C κ n → IsReduced P J (IdealOf C κ n) → Reduction J u v)
          (λ n b r. absurd (omega (arith, reached t k0 n b r 0 (omega arith))))
          (λ n b r. absurd (omega (arith, reached t k11 n b r 3 (omega arith))))
          (λ n b r. absurd (omega (arith, reached t k21 n b r 4 (omega arith))))
          (λ n b r. absurd (omega (arith, reached t k22 n b r 3 (omega arith))))
          (usual t)

      go : RecordOf K C nonzero J → Reduction J u v
      go s = by s.kind s.numbers s.basis s.reduced
