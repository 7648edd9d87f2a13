-- Two bases with the same ideal are the same record.
--   SameRecord κ n κ' n'   the same kind and the same numbers, as many as the kind has
--   rows_right, all_placed tests of the table of rows: lower terms remain, and each number of a record has its place
--   degree_same            bases with the same ideal have the same degrees
--   kind-same              kinds with the same degrees are the same
--   row-coefficient        the coefficients of a polynomial of a record are found in its terms
--   record_unique          bases with the same ideal are the same record
use mathlib.Core.Path.{◌≡◌, refl, sym, ◌∙◌, ap, ap₂, subst}
use mathlib.Core.Bool.{Bool, true, false, not}
use mathlib.Core.List.{List, [], ◌∷◌, map}
use Prim.Native.Nat.{ℕ, zero, suc, ◌≤◌, ◌<◌}
use native.Mathlib.Omega.{arith}
use native.Mathlib.Decide.{ℕ_discrete}
use lib.Dec.{T, eqb, eqb→eq, eqb_refl, T_not}
use Rattle.algebra.proofs.Test.{either, both, both_left, both_right}
use Rattle.algebra.specs.Ring.{CommRing, Field}
use Rattle.algebra.proofs.Laws as L
use Rattle.ideal.specs.Ideal.{IsIdeal, SameIdeal}
use Rattle.ideal.specs.Poles.{Poles}
use Rattle.ideal.proofs.Every.{Every}
use Rattle.ideal.proofs.Leads.{Lead, ideal_space, space_neg}
use Rattle.ideal.proofs.Generated.{generated_ideal, generated_each}
use Rattle.curve.specs.Curve.{Curve, Coordinate}
use Rattle.curve.specs.Sequence.{coefficient, pick}
use Rattle.curve.proofs.Term.{coefficient-add, coefficient-neg, pick_true}
use Rattle.poles.specs.Poles.{poles}
use Rattle.divisor.specs.Kind.{Kind, k0, k11, k21, k22, k31, count, polynomials, IdealOf, IsBasis}
use Rattle.divisor.proofs.Terms.{Terms, find, places, pole_test, absent, distinct, find_absent, coefficient_terms}
use Rattle.divisor.proofs.Table.{degree, Reached, kind_by, degree_class, remaining-poles, reached_absent, Row, rows, poles_of, fill, row_terms, row-value, polynomials-rows}
use Rattle.divisor.proofs.Basis.{Bare, bare_made, basis-lead, lead-basis}

-- every number of ps is in qs
abbrev inside : List ℕ → List ℕ → Bool
inside [] qs = true
inside (p ∷ ps) qs = both (not (absent p qs)) (inside ps qs)

inside_absent : (ps qs : List ℕ) (m : ℕ) → T (inside ps qs) → T (absent m qs) → T (absent m ps)
inside_absent [] qs m t u = tt
inside_absent (p ∷ ps) qs m t u = go (eqb m p) refl (inside_absent ps qs m (both_right (not (absent p qs)) (inside ps qs) t) u)
  where
    go : (b : Bool) → eqb m p ≡ b → T (absent m ps) → T (both (not b) (absent m ps))
    go true e v = absurd (T_not (absent p qs) (both_left (not (absent p qs)) (inside ps qs) t) (subst (λ (q : ℕ). T (absent q qs)) (eqb→eq m p (subst T (sym e) tt)) u))
    go false e v = v

abbrev row_test : Kind → Row → Bool
row_test κ r = both (distinct (r.lead ∷ poles_of r.tail)) (inside (poles_of r.tail) (remaining-poles κ))

rows_right : (κ : Kind) → Every (λ r. T (row_test κ r)) (rows κ)
rows_right = kind_by _ (tt, tt) (tt, (tt, tt)) (tt, (tt, tt)) (tt, (tt, tt)) (tt, (tt, (tt, tt)))

abbrev listed : ℕ → List (ℕ × ℕ) → Bool
listed i [] = false
listed i ((j, p) ∷ t) = either (eqb i j) (listed i t)

-- the number i has its place in some row
abbrev placed : ℕ → List Row → Bool
placed i [] = false
placed i (r ∷ rs) = either (listed i r.tail) (placed i rs)

abbrev placed_below : List Row → ℕ → Bool
placed_below rs zero = true
placed_below rs (suc c) = both (placed c rs) (placed_below rs c)

placed_at : (rs : List Row) (c : ℕ) → T (placed_below rs c) → (i : ℕ) → i < c → T (placed i rs)
placed_at rs zero t i h = absurd (omega arith)
placed_at rs (suc c) t i h = go (ℕ_discrete i c) (placed_at rs c (both_right (placed c rs) (placed_below rs c) t) i)
  where
    go : Dec (i ≡ c) → (i < c → T (placed i rs)) → T (placed i rs)
    go (yes e) f = subst (λ (j : ℕ). T (placed j rs)) (sym e) (both_left (placed c rs) (placed_below rs c) t)
    go (no e) f = f (omega arith)

all_placed : (κ : Kind) (i : ℕ) → i < count κ → T (placed i (rows κ))
all_placed κ = placed_at (rows κ) (count κ) (kind_by (λ κ. T (placed_below (rows κ) (count κ))) tt tt tt tt tt κ)

pub record SameRecord {A : Type 0} (κ : Kind) (n : ℕ → A) (κ' : Kind) (n' : ℕ → A) : Type 0 where
  pub kind : κ ≡ κ'
  pub numbers : (i : ℕ) → i < count κ → n i ≡ n' i

module _ {A : Type 0} (n n' : ℕ → A) where
  -- the numbers of a row agree
  abbrev Agree : List (ℕ × ℕ) → Type 0
  Agree [] = Unit
  Agree ((i, p) ∷ t) = (n i ≡ n' i) × Agree t

  agree_listed : (t : List (ℕ × ℕ)) (i : ℕ) → Agree t → T (listed i t) → n i ≡ n' i
  agree_listed [] i _ u = absurd u
  agree_listed ((j, p) ∷ t) i (e, es) u = go (eqb i j) refl (agree_listed t i es) u
    where
      go : (b : Bool) → eqb i j ≡ b → (T (listed i t) → n i ≡ n' i) → T (either b (listed i t)) → n i ≡ n' i
      go true q f v = let r : i ≡ j = eqb→eq i j (subst T (sym q) tt) in ap n r ∙ e ∙ ap n' (sym r)
      go false q f v = f v

  agree_placed : (rs : List Row) (i : ℕ) → Every (λ r. Agree r.tail) rs → T (placed i rs) → n i ≡ n' i
  agree_placed [] i _ u = absurd u
  agree_placed (r ∷ rs) i (a, bs) u = go (listed i r.tail) (agree_listed r.tail i a) (agree_placed rs i bs) u
    where
      go : (b : Bool) → (T b → n i ≡ n' i) → (T (placed i rs) → n i ≡ n' i) → T (either b (placed i rs)) → n i ≡ n' i
      go true f g v = f tt
      go false f g v = g v

from-degrees : ℕ → ℕ → Kind
from-degrees a b = pick (eqb a 0) k0 (pick (eqb a 3) (pick (eqb b 4) k11 k22) (pick (eqb b 4) k21 k31))

kind-degrees : (κ : Kind) → from-degrees (degree κ 0) (degree κ 1) ≡ κ
unfolding from-degrees
kind-degrees = kind_by _ refl refl refl refl refl

pub kind-same : (κ κ' : Kind) → ((j : ℕ) → j ≤ 2 → degree κ j ≡ degree κ' j) → κ ≡ κ'
kind-same κ κ' e =
    sym (kind-degrees κ) ∙ ap₂ from-degrees (e 0 (omega arith)) (e 1 (omega arith)) ∙ kind-degrees κ'

reached-own : (κ : Kind) (j : ℕ) → j ≤ 2 → Reached κ (degree κ j)
reached-own κ j l = subst (λ (i : ℕ). degree κ i ≤ degree κ j) (sym (degree_class κ j l)) (omega arith)

reached_degree : (κ κ' : Kind) → ((m : ℕ) → Reached κ m → Reached κ' m) → (j : ℕ) → j ≤ 2 → degree κ' j ≤ degree κ j
reached_degree κ κ' f j l = subst (λ (i : ℕ). degree κ' i ≤ degree κ j) (degree_class κ j l) (f (degree κ j) (reached-own κ j l))

module _ {k : CommRing} (C : Curve k) where
  open k use {Car, zero as 𝟘, one as 𝟙, add as ◌+ₖ◌, neg as -ₖ◌}
  open Coordinate C use {Car as El, zero as 𝟎, add as ◌⊕◌, neg as ⊖◌}

  infixl 60 ◌⊕◌ ◌+ₖ◌
  infix 80 ⊖◌ -ₖ◌
  fill_places : (n : ℕ → Car) (t : List (ℕ × ℕ)) → places C (fill C n t) ≡ poles_of t
  fill_places n [] = refl
  fill_places n ((i, p) ∷ t) = ap (λ ps. p ∷ ps) (fill_places n t)

  pub row-coefficient : (n : ℕ → Car) (r : Row) → T (distinct (r.lead ∷ poles_of r.tail)) → (m : ℕ) → coefficient C m (row-value C n r) ≡ find C m (row_terms C n r)
  row-coefficient n r t m =
      coefficient_terms C (row_terms C n r) (subst (λ ps. T (distinct (r.lead ∷ ps))) (sym (fill_places n r.tail)) t) m

  fill_absent : (n : ℕ → Car) (t : List (ℕ × ℕ)) (m : ℕ) → T (absent m (poles_of t)) → find C m (fill C n t) ≡ 𝟘
  fill_absent n t m u = find_absent C m (fill C n t) (subst (λ ps. T (absent m ps)) (sym (fill_places n t)) u)

  -- lists that read the same at every place, their heads standing at the same place, have tails that do
  tail-same : (a b : Car) (p : ℕ) (ts ts' : Terms C) → find C p ts ≡ 𝟘 → find C p ts' ≡ 𝟘 → ((m : ℕ) → find C m ((a, p) ∷ ts) ≡ find C m ((b, p) ∷ ts')) → (m : ℕ) → find C m ts ≡ find C m ts'
  tail-same a b p ts ts' z z' e m = go (eqb m p) refl (e m)
    where
      go : (c : Bool) → eqb m p ≡ c → pick c a (find C m ts) ≡ pick c b (find C m ts') → find C m ts ≡ find C m ts'
      go true q f = let r : m ≡ p = eqb→eq m p (subst T (sym q) tt) in ap (λ i. find C i ts) r ∙ z ∙ sym z' ∙ ap (λ i. find C i ts') (sym r)
      go false q f = f

  module _ (n n' : ℕ → Car) where
    fill_agree : (t : List (ℕ × ℕ)) → T (distinct (poles_of t)) → ((m : ℕ) → find C m (fill C n t) ≡ find C m (fill C n' t)) → Agree n n' t
    fill_agree [] u e = tt
    fill_agree ((i, p) ∷ t) u e = (
      sym (pick_true (eqb p p) (n i) (find C p (fill C n t)) (eqb_refl p)) ∙ e p ∙ pick_true (eqb p p) (n' i) (find C p (fill C n' t)) (eqb_refl p),
      fill_agree t (both_right (absent p (poles_of t)) (distinct (poles_of t)) v) (tail-same (n i) (n' i) p (fill C n t) (fill C n' t) (fill_absent n t p w) (fill_absent n' t p w) e),
    )
      where
        v : T (both (absent p (poles_of t)) (distinct (poles_of t)))
        v = both_right (pole_test p) (both (absent p (poles_of t)) (distinct (poles_of t))) u

        w : T (absent p (poles_of t))
        w = both_left (absent p (poles_of t)) (distinct (poles_of t)) v

    module _ (κ : Kind) (r : Row) (t : T (row_test κ r)) where
      apart : T (distinct (r.lead ∷ poles_of r.tail))
      apart = both_left (distinct (r.lead ∷ poles_of r.tail)) (inside (poles_of r.tail) (remaining-poles κ)) t

      lower : T (inside (poles_of r.tail) (remaining-poles κ))
      lower = both_right (distinct (r.lead ∷ poles_of r.tail)) (inside (poles_of r.tail) (remaining-poles κ)) t

      -- at a number that the kind reaches the row reads the same, whatever the record's numbers are
      reads : (w : ℕ → Car) (m : ℕ) → Reached κ m → coefficient C m (row-value C w r) ≡ pick (eqb m r.lead) 𝟙 𝟘
      reads w m h =
          row-coefficient w r apart m
          ∙ ap (λ u. pick (eqb m r.lead) 𝟙 u) (fill_absent w r.tail m (inside_absent (poles_of r.tail) (remaining-poles κ) m lower (reached_absent κ m h)))

      difference_bare : Bare C κ (row-value C n r ⊕ ⊖ row-value C n' r)
      difference_bare m h =
          coefficient-add C m _ _
          ∙ ap₂ ◌+ₖ◌ (reads n m h) (coefficient-neg C m _ ∙ ap -ₖ◌ (reads n' m h))
          ∙ k.add_neg _

      value_agree : row-value C n r ≡ row-value C n' r → Agree n n' r.tail
      value_agree e =
          fill_agree r.tail (both_right (absent r.lead ps) (distinct ps) v)
          (tail-same 𝟙 𝟙 r.lead (fill C n r.tail) (fill C n' r.tail) (fill_absent n r.tail r.lead w) (fill_absent n' r.tail r.lead w)
          (λ m. sym (row-coefficient n r apart m) ∙ ap (coefficient C m) e ∙ row-coefficient n' r apart m))
        where
          ps : List ℕ
          ps = poles_of r.tail

          v : T (both (absent r.lead ps) (distinct ps))
          v = both_right (pole_test r.lead) (both (absent r.lead ps) (distinct ps)) apart

          w : T (absent r.lead ps)
          w = both_left (absent r.lead ps) (distinct ps) v

module _ (K : Field) (C : Curve K.ring) (nonzero : ¬ (C.a0 ≡ K.ring.zero)) where
  open K.ring use {Car}
  open Coordinate C use {Car as El, zero as 𝟎, add as ◌⊕◌, neg as ⊖◌}

  infixl 60 ◌⊕◌
  infix 80 ⊖◌
  abbrev P : Poles (Coordinate C)
  P = poles K C nonzero

  rows_in : (κ : Kind) (n : ℕ → Car) → Every (IdealOf C κ n) (map (row-value C n) (rows κ))
  rows_in κ n = subst (λ gs. Every (IdealOf C κ n) gs) (polynomials-rows C n κ) (generated_each (Coordinate C) (polynomials C κ n))

  numbers-same : (κ : Kind) (n n' : ℕ → Car) → IsBasis C κ n → SameIdeal (Coordinate C) (IdealOf C κ n) (IdealOf C κ n') → (i : ℕ) → i < count κ → n i ≡ n' i
  numbers-same κ n n' basis e i h = agree_placed n n' (rows κ) i (go (rows κ) (rows_right κ) (rows_in κ n) (rows_in κ n')) (all_placed κ i h)
    where
      I : IsIdeal (Coordinate C) (IdealOf C κ n)
      I = generated_ideal (Coordinate C) (polynomials C κ n)

      one : (r : Row) → T (row_test κ r) → IdealOf C κ n (row-value C n r) → IdealOf C κ n' (row-value C n' r) → Agree n n' r.tail
      one r t a b = value_agree C n n' κ r t (L.sub-zero→eq (Coordinate C) _ _ (basis _ (I.sum a (space_neg P (ideal_space P I) ((e _).1 b))) (bare_made C κ _ (difference_bare C n n' κ r t))))

      go : (rs : List Row) → Every (λ r. T (row_test κ r)) rs → Every (IdealOf C κ n) (map (row-value C n) rs) → Every (IdealOf C κ n') (map (row-value C n') rs)
          → Every (λ r. Agree n n' r.tail) rs
      go [] _ _ _ = tt
      go (r ∷ rs) (t, ts) (a, bs) (a', bs') = (one r t a a', go rs ts bs bs')

  module _ (κ κ' : Kind) (n n' : ℕ → Car) (b : IsBasis C κ n) (b' : IsBasis C κ' n') (e : SameIdeal (Coordinate C) (IdealOf C κ n) (IdealOf C κ' n')) where
    pub degree_same : (j : ℕ) → j ≤ 2 → degree κ j ≡ degree κ' j
    degree_same j l = omega (arith, reached_degree κ κ' there j l, reached_degree κ' κ back j l)
      where
        there : (m : ℕ) → Reached κ m → Reached κ' m
        there m r = go (basis-lead K C nonzero κ n b m r)
          where
            go : Lead P (IdealOf C κ n) m → Reached κ' m
            go (u, mu, pu) = lead-basis K C nonzero κ' n' b' m (u, (e u).0 mu, pu)

        back : (m : ℕ) → Reached κ' m → Reached κ m
        back m r = go (basis-lead K C nonzero κ' n' b' m r)
          where
            go : Lead P (IdealOf C κ' n') m → Reached κ m
            go (u, mu, pu) = lead-basis K C nonzero κ n b m (u, (e u).1 mu, pu)

    -- Document 01: "The record of a reduced ideal is the accepted record … whose ideal it is; there is only one."
    pub record_unique : SameRecord κ n κ' n'
    record_unique = record {
      kind = κ=;
      numbers = numbers-same κ n n' b (subst (λ κ''. SameIdeal (Coordinate C) (IdealOf C κ n) (IdealOf C κ'' n')) (sym κ=) e);
    }
      where
        κ= : κ ≡ κ'
        κ= = kind-same κ κ' degree_same
