-- The table of kinds in pole numbers, and a record's polynomials as sums of terms.
--   degree κ j             the pole number of the kind's member in class j modulo 3
--   Reached κ m            m is a pole number from the kind's degree in the class of m on
--   remaining-poles κ      the pole numbers of the remaining monomials
--   kind_by, class_by, pole_by     what holds of each kind, of each class modulo 3, of 0, 3, 4 and the numbers from 6 on
--   degree_class, degree_bound     degree κ j lies in class j and is at most 6 + j
--   reached-large          every number from 6 on is reached
--   reached_absent, absent_reached     a pole number is reached exactly if it does not remain
--   Row, rows κ            a polynomial: the pole number of its lead, and for each lower term the number's place in the record and the pole number
--   row_terms n r, row-value n r       its terms with the numbers n, and their sum
--   row, poles_of, fill    a row given by its parts, the pole numbers of its lower terms, these terms with the numbers n
--   one_term, two_terms, three_terms   sums with so many numbers, as document 01 writes them, are sums of terms
--   polynomials-rows       the polynomials of a record are those of its rows
--   remaining_monos        the remaining monomials are those of remaining-poles κ
use mathlib.Core.Path.{◌≡◌, refl, sym, ap, ap₂, subst}
use mathlib.Core.Bool.{Bool, true, false, not}
use mathlib.Core.List.{List, [], ◌∷◌, map}
use Prim.Native.Nat.{ℕ, zero, suc, ◌+◌, ◌%◌, ◌≤◌}
use native.Mathlib.Omega.{arith}
use native.Mathlib.Decide.{ℕ_discrete}
use lib.Dec.{T, eqb, eqb→eq}
use Rattle.algebra.specs.Ring.{CommRing}
use Rattle.algebra.proofs.Laws as L
use Rattle.ideal.specs.Poles.{IsPole}
use Rattle.ideal.proofs.Gaps.{pole-apart}
use Rattle.ideal.proofs.Every.{Every}
use Rattle.curve.specs.Curve.{Curve, Coordinate, constant}
use Rattle.curve.proofs.Coefficient.{constant-one}
use Rattle.curve.specs.Monomial.{mono}
use Rattle.divisor.specs.Kind.{Kind, k0, k11, k21, k22, k31, polynomials, remaining}
use Rattle.divisor.proofs.Monomials.{mono-one, mono-x, mono-y, mono_xx, mono_xy, mono_yy}
use Rattle.divisor.proofs.Terms.{Terms, terms, absent}
use Rattle.algebra.proofs.Test.{both}

abbrev pub degree : Kind → ℕ → ℕ
degree k0 zero = 0
degree k0 (suc zero) = 4
degree k0 (suc (suc j)) = 8
degree k11 zero = 3
degree k11 (suc zero) = 4
degree k11 (suc (suc j)) = 8
degree k21 zero = 6
degree k21 (suc zero) = 4
degree k21 (suc (suc j)) = 8
degree k22 zero = 3
degree k22 (suc zero) = 7
degree k22 (suc (suc j)) = 8
degree k31 zero = 6
degree k31 (suc zero) = 7
degree k31 (suc (suc j)) = 8

abbrev pub Reached : Kind → ℕ → Type 0
Reached κ m = degree κ (m % 3) ≤ m

abbrev pub remaining-poles : Kind → List ℕ
remaining-poles k0 = []
remaining-poles k11 = 0 ∷ []
remaining-poles k21 = 0 ∷ 3 ∷ []
remaining-poles k22 = 0 ∷ 4 ∷ []
remaining-poles k31 = 0 ∷ 3 ∷ 4 ∷ []

-- what the five kinds have in common is shown kind by kind
pub kind_by : (Q : Kind → Type 0) → Q k0 → Q k11 → Q k21 → Q k22 → Q k31 → (κ : Kind) → Q κ
kind_by Q a b c d e k0 = a
kind_by Q a b c d e k11 = b
kind_by Q a b c d e k21 = c
kind_by Q a b c d e k22 = d
kind_by Q a b c d e k31 = e

-- … and what holds of the three classes modulo 3, class by class
pub class_by : (Q : ℕ → Type 0) → Q 0 → Q 1 → Q 2 → (j : ℕ) → j ≤ 2 → Q j
class_by Q a b c zero l = a
class_by Q a b c (suc zero) l = b
class_by Q a b c (suc (suc zero)) l = c
class_by Q a b c (suc (suc (suc j))) l = absurd (omega arith)

pub degree_class : (κ : Kind) (j : ℕ) → j ≤ 2 → degree κ j % 3 ≡ j
degree_class =
    kind_by (λ κ. (j : ℕ) → j ≤ 2 → degree κ j % 3 ≡ j)
    (class_by _ refl refl refl)
    (class_by _ refl refl refl)
    (class_by _ refl refl refl)
    (class_by _ refl refl refl)
    (class_by _ refl refl refl)

pub degree_bound : (κ : Kind) (j : ℕ) → j ≤ 2 → degree κ j ≤ 6 + j
degree_bound =
    kind_by (λ κ. (j : ℕ) → j ≤ 2 → degree κ j ≤ 6 + j)
    (class_by _ (omega arith) (omega arith) (omega arith))
    (class_by _ (omega arith) (omega arith) (omega arith))
    (class_by _ (omega arith) (omega arith) (omega arith))
    (class_by _ (omega arith) (omega arith) (omega arith))
    (class_by _ (omega arith) (omega arith) (omega arith))

pub reached-large : (κ : Kind) (m : ℕ) → 6 ≤ m → Reached κ m
reached-large κ m l = omega (arith, degree_bound κ (m % 3) (omega arith))

pub pole_by : (Q : ℕ → Type 0) → Q 0 → Q 3 → Q 4 → ((m : ℕ) → 6 ≤ m → Q m) → (m : ℕ) → IsPole m → Q m
pole_by Q a b c d m p = go (ℕ_discrete m 0) (ℕ_discrete m 3) (ℕ_discrete m 4)
  where
    go : Dec (m ≡ 0) → Dec (m ≡ 3) → Dec (m ≡ 4) → Q m
    go (yes e) t u = subst Q (sym e) a
    go (no f) (yes e) u = subst Q (sym e) b
    go (no f) (no g) (yes e) = subst Q (sym e) c
    go (no f) (no g) (no h) = d m (omega (arith, pole-apart p))

pub absent_reached : (κ : Kind) (m : ℕ) → IsPole m → T (absent m (remaining-poles κ)) → Reached κ m
absent_reached κ = pole_by (λ m. T (absent m (remaining-poles κ)) → Reached κ m) (zeroth κ) (third κ) (fourth κ) (λ m l t. reached-large κ m l)
  where
    zeroth : (κ : Kind) → T (absent 0 (remaining-poles κ)) → Reached κ 0
    zeroth = kind_by _ (λ t. omega arith) absurd absurd absurd absurd

    third : (κ : Kind) → T (absent 3 (remaining-poles κ)) → Reached κ 3
    third = kind_by _ (λ t. omega arith) (λ t. omega arith) absurd (λ t. omega arith) absurd

    fourth : (κ : Kind) → T (absent 4 (remaining-poles κ)) → Reached κ 4
    fourth = kind_by _ (λ t. omega arith) (λ t. omega arith) (λ t. omega arith) absurd absurd

remaining_not : (κ : Kind) → Every (λ p. ¬ Reached κ p) (remaining-poles κ)
remaining_not = kind_by _ tt (omega arith, tt) (omega arith, (omega arith, tt)) (omega arith, (omega arith, tt)) (omega arith, (omega arith, (omega arith, tt)))

pub reached_absent : (κ : Kind) (m : ℕ) → Reached κ m → T (absent m (remaining-poles κ))
reached_absent κ m r = go (remaining-poles κ) (remaining_not κ)
  where
    go : (ps : List ℕ) → Every (λ p. ¬ Reached κ p) ps → T (absent m ps)
    go [] _ = tt
    go (p ∷ ps) (u, us) = at (eqb m p) refl (go ps us)
      where
        at : (b : Bool) → eqb m p ≡ b → T (absent m ps) → T (both (not b) (absent m ps))
        at true e t = absurd (u (subst (Reached κ) (eqb→eq m p (subst T (sym e) tt)) r))
        at false e t = t

-- a polynomial of a record: mono lead, and n i·mono p for each (i, p) of tail
pub record Row : Type 0 where
  pub lead : ℕ
  pub tail : List (ℕ × ℕ)

abbrev pub row : ℕ → List (ℕ × ℕ) → Row
row d t = record { lead = d; tail = t }

abbrev pub rows : Kind → List Row
rows k0 = row 0 [] ∷ []
rows k11 = row 3 ((0, 0) ∷ []) ∷ row 4 ((1, 0) ∷ []) ∷ []
rows k21 = row 4 ((1, 3) ∷ (0, 0) ∷ []) ∷ row 6 ((3, 3) ∷ (2, 0) ∷ []) ∷ []
rows k22 = row 3 ((0, 0) ∷ []) ∷ row 8 ((2, 4) ∷ (1, 0) ∷ []) ∷ []
rows k31 =
    row 6 ((2, 4) ∷ (1, 3) ∷ (0, 0) ∷ [])
    ∷ row 7 ((5, 4) ∷ (4, 3) ∷ (3, 0) ∷ [])
    ∷ row 8 ((8, 4) ∷ (7, 3) ∷ (6, 0) ∷ [])
    ∷ []

abbrev pub poles_of : List (ℕ × ℕ) → List ℕ
poles_of [] = []
poles_of ((i, p) ∷ t) = p ∷ poles_of t

-- sums of one to four terms, o and z being one
module _ (R : CommRing) where
  open R use {Car, zero as 𝟎, one as 𝟏, add as ◌⊕◌, mul as ◌⊗◌}

  infixl 60 ◌⊕◌
  infixl 70 ◌⊗◌
  shape_0 : {o z : Car} → o ≡ 𝟏 → z ≡ 𝟏 → 𝟏 ≡ o ⊗ z ⊕ 𝟎
  shape_0 e f = cc (e, f, R.mul_one 𝟏, R.add_zero 𝟏)

  shape_1 : {o z m v a : Car} → o ≡ 𝟏 → z ≡ 𝟏 → m ≡ v → v ⊕ a ≡ o ⊗ m ⊕ (a ⊗ z ⊕ 𝟎)
  shape_1 {v = v} {a} e f g = cc (e, f, g, L.one-mul R v, R.mul_one a, R.add_zero a)

  shape_2 : {o z m v b q w a : Car} → o ≡ 𝟏 → z ≡ 𝟏 → m ≡ v → q ≡ w → v ⊕ b ⊗ w ⊕ a ≡ o ⊗ m ⊕ (b ⊗ q ⊕ (a ⊗ z ⊕ 𝟎))
  shape_2 {v = v} {b} {w = w} {a} e f g h =
      cc (e, f, g, h, L.one-mul R v, R.mul_one a, R.add_zero a, R.add_assoc v (b ⊗ w) a)

  shape_3 : {o z m v c p u b q w a : Car} → o ≡ 𝟏 → z ≡ 𝟏 → m ≡ v → p ≡ u → q ≡ w → v ⊕ c ⊗ u ⊕ b ⊗ w ⊕ a ≡ o ⊗ m ⊕ (c ⊗ p ⊕ (b ⊗ q ⊕ (a ⊗ z ⊕ 𝟎)))
  shape_3 {v = v} {c} {u = u} {b} {w = w} {a} e f g h i =
      cc (e, f, g, h, i, L.one-mul R v, R.mul_one a, R.add_zero a, R.add_assoc (v ⊕ c ⊗ u) (b ⊗ w) a, R.add_assoc v (c ⊗ u) (b ⊗ w ⊕ a))

module _ {k : CommRing} (C : Curve k) where
  open k use {Car, zero as 𝟘, one as 𝟙}
  open Coordinate C use {Car as El, zero as 𝟎, one as 𝟏, add as ◌⊕◌, mul as ◌⊗◌}

  infixl 60 ◌⊕◌
  infixl 70 ◌⊗◌
  abbrev pub fill : (ℕ → Car) → List (ℕ × ℕ) → Terms C
  fill n [] = []
  fill n ((i, p) ∷ t) = (n i, p) ∷ fill n t

  abbrev pub row_terms : (ℕ → Car) → Row → Terms C
  row_terms n r = (𝟙, r.lead) ∷ fill n r.tail

  abbrev pub row-value : (ℕ → Car) → Row → El
  row-value n r = terms C (row_terms n r)

  -- v + a, v + b·w + a and v + c·u + b·w + a as sums of terms, v, u and w the monomials of pole numbers d, q and p
  pub one_term : {v : El} (d : ℕ) (a : Car) → mono C d ≡ v → v ⊕ constant C a ≡ terms C ((𝟙, d) ∷ (a, 0) ∷ [])
  one_term d a e = shape_1 (Coordinate C) (constant-one C) (mono-one C) e

  pub two_terms : {v w : El} (d p : ℕ) (b a : Car) → mono C d ≡ v → mono C p ≡ w → v ⊕ constant C b ⊗ w ⊕ constant C a ≡ terms C ((𝟙, d) ∷ (b, p) ∷ (a, 0) ∷ [])
  two_terms d p b a e f = shape_2 (Coordinate C) (constant-one C) (mono-one C) e f

  pub three_terms : {v u w : El} (d q p : ℕ) (c b a : Car) → mono C d ≡ v → mono C q ≡ u → mono C p ≡ w
      → v ⊕ constant C c ⊗ u ⊕ constant C b ⊗ w ⊕ constant C a ≡ terms C ((𝟙, d) ∷ (c, q) ∷ (b, p) ∷ (a, 0) ∷ [])
  three_terms d q p c b a e f g = shape_3 (Coordinate C) (constant-one C) (mono-one C) e f g

  pub polynomials-rows : (n : ℕ → Car) (κ : Kind) → polynomials C κ n ≡ map (row-value n) (rows κ)
  polynomials-rows n k0 = ap (λ u. u ∷ []) (shape_0 (Coordinate C) (constant-one C) (mono-one C))
  polynomials-rows n k11 = ap₂ (λ u v. u ∷ v ∷ []) (one_term 3 (n 0) (mono-x C)) (one_term 4 (n 1) (mono-y C))
  polynomials-rows n k21 = ap₂ (λ u v. u ∷ v ∷ []) (two_terms 4 3 (n 1) (n 0) (mono-y C) (mono-x C)) (two_terms 6 3 (n 3) (n 2) (mono_xx C) (mono-x C))
  polynomials-rows n k22 = ap₂ (λ u v. u ∷ v ∷ []) (one_term 3 (n 0) (mono-x C)) (two_terms 8 4 (n 2) (n 1) (mono_yy C) (mono-y C))
  polynomials-rows n k31 =
      ap₂ ◌∷◌ (three_terms 6 4 3 (n 2) (n 1) (n 0) (mono_xx C) (mono-y C) (mono-x C))
      (ap₂ (λ u v. u ∷ v ∷ []) (three_terms 7 4 3 (n 5) (n 4) (n 3) (mono_xy C) (mono-y C) (mono-x C)) (three_terms 8 4 3 (n 8) (n 7) (n 6) (mono_yy C) (mono-y C) (mono-x C)))

  pub remaining_monos : (κ : Kind) → remaining C κ ≡ map (mono C) (remaining-poles κ)
  remaining_monos k0 = refl
  remaining_monos k11 = ap (λ u. u ∷ []) (sym (mono-one C))
  remaining_monos k21 = ap₂ (λ u v. u ∷ v ∷ []) (sym (mono-one C)) (sym (mono-x C))
  remaining_monos k22 = ap₂ (λ u v. u ∷ v ∷ []) (sym (mono-one C)) (sym (mono-y C))
  remaining_monos k31 = ap₂ ◌∷◌ (sym (mono-one C)) (ap₂ (λ u v. u ∷ v ∷ []) (sym (mono-x C)) (sym (mono-y C)))
