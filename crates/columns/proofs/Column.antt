-- Columns: the coordinates at 1, x and y of elements modulo the ideal of a record of kind 31. Three columns with a determinant that is not zero are a basis.
--   plane_over O x y c     c0 + c1·x + c2·y, over any operations
--   mix O s a b c          s0·a + s1·b + s2·c
--   replaced O a b c d j   … with d in place of the column j
--   Solves k a b c d s     d = s0·a + s1·b + s2·c, for columns
--   plane C c              c0 + c1·x + c2·y in the coordinate ring
--   mixed C s u v w        s0·u + s1·v + s2·w in the coordinate ring, for constants s
--   IsColumn C m w c       c is a column of w modulo the ideal of the numbers m: w less c0 + c1·x + c2·y is in it
--   column_mix             the columns of mixed elements
--   column_cong, column_apart      columns with the same numbers; elements with the same column differ by one of the ideal
--   column-zero            an element of the ideal of a basis has the column zero only
--   cramer, cramer_solves  the numbers s of a column d, by Cramer's rule
--   independent            only zero numbers give the column zero
use mathlib.Core.Path.{◌≡◌, refl, sym, ◌∙◌, ap, subst}
use mathlib.Core.List.{List, [], ◌∷◌}
use Prim.Native.Nat.{ℕ, zero, suc, ◌+◌, ◌*◌, ◌≤◌}
use native.Mathlib.Omega.{arith}
use Rattle.algebra.specs.Ring.{CommRing, Field, Ops, ops}
use Rattle.algebra.proofs.Laws as L
use Rattle.algebra.proofs.Norm.{E, var, nil, unit, E-ops, Same}
use Rattle.algebra.proofs.Sound.{value, same-value}
use Rattle.algebra.proofs.Solve.{solve, ◌⊞◌, ◌⊠◌, ⊟◌}
use Rattle.ideal.specs.Ideal.{IsIdeal}
use Rattle.ideal.proofs.Generated.{generated_ideal}
use Rattle.curve.specs.Curve.{Curve, Coordinate, x, y, constant}
use Rattle.curve.specs.Sequence.{coefficient}
use Rattle.curve.proofs.Term.{coefficient-zero}
use Rattle.curve.proofs.Poles.{no-zero_divisors}
use Rattle.divisor.specs.Kind.{k31, polynomials, IdealOf, IsBasis}
use Rattle.divisor.proofs.Monomials.{mono-one, mono-x, mono-y}
use Rattle.divisor.proofs.Terms.{Terms, terms, find, coefficient_terms}
use Rattle.divisor.proofs.Table.{class_by}
use Rattle.expressions.proofs.Letters as letters
use Rattle.expressions.proofs.Value.{origin_at}
use Rattle.columns.specs.Pivots.{determinant}

module _ {A : Type 0} (O : Ops A) where
  abbrev ◌⊹◌ : A → A → A
  a ⊹ b = O.add a b

  abbrev ◌⊝◌ : A → A → A
  a ⊝ b = O.add a (O.neg b)

  abbrev ◌·◌ : A → A → A
  a · b = O.mul a b

  infixl 60 ◌⊹◌ ◌⊝◌
  infixl 70 ◌·◌
  abbrev pub plane_over : A → A → (ℕ → A) → A
  plane_over x y c = c 0 ⊹ c 1 · x ⊹ c 2 · y

  abbrev pub mix : (ℕ → A) → A → A → A → A
  mix s a b c = s 0 · a ⊹ s 1 · b ⊹ s 2 · c

  abbrev pub replaced : (ℕ → A) → (ℕ → A) → (ℕ → A) → (ℕ → A) → ℕ → A
  replaced a b c d zero = determinant O d b c
  replaced a b c d (suc zero) = determinant O a d c
  replaced a b c d (suc (suc j)) = determinant O a b d

abbrev pub Solves : (k : CommRing) (a b c d s : ℕ → k.Car) → Type 0
Solves k a b c d s = (i : ℕ) → i ≤ 2 → d i ≡ mix (ops k) s (a i) (b i) (c i)

module _ {k : CommRing} (C : Curve k) where
  open Coordinate C use {Car as El, zero as 𝟎, one as 𝟏, add as ◌⊕◌, mul as ◌⊗◌, neg as ⊖◌}

  infixl 60 ◌⊕◌
  infixl 70 ◌⊗◌
  infix 80 ⊖◌
  abbrev R : CommRing
  R = Coordinate C

  abbrev pub plane : (ℕ → k.Car) → El
  plane c = plane_over (ops R) (x C) (y C) (λ i. constant C (c i))

  abbrev pub mixed : (ℕ → k.Car) → El → El → El → El
  mixed s = mix (ops R) (λ i. constant C (s i))

  pub record IsColumn (m : ℕ → k.Car) (w : El) (c : ℕ → k.Car) : Type 0 where
    pub member : IdealOf C k31 m (w ⊕ ⊖ plane c)

  constant_mix : (s : ℕ → k.Car) (a b c : k.Car) → mixed s (constant C a) (constant C b) (constant C c) ≡ constant C (mix (ops k) s a b c)
  constant_mix s a b c = origin_at C (s 0 ∷ s 1 ∷ s 2 ∷ a ∷ b ∷ c ∷ []) (mix E-ops letters.n (letters.n 3) (letters.n 4) (letters.n 5))

  plane_same : {c d : ℕ → k.Car} → ((i : ℕ) → i ≤ 2 → c i ≡ d i) → plane c ≡ plane d
  plane_same e = λ t. constant C (e 0 (omega arith) t) ⊕ constant C (e 1 (omega arith) t) ⊗ x C ⊕ constant C (e 2 (omega arith) t) ⊗ y C

  plane_mix : (s a b c : ℕ → k.Car) → mixed s (plane a) (plane b) (plane c) ≡ plane (λ i. mix (ops k) s (a i) (b i) (c i))
  plane_mix s a b c =
      same-value R (mix E-ops (at 0) (each 1) (each 2) (each 3)) (plane_over E-ops (var 12) (var 13) (λ i. mix E-ops (at 0) (at 1 i) (at 2 i) (at 3 i))) tt
      (κ (s 0) ∷ κ (s 1) ∷ κ (s 2) ∷ κ (a 0) ∷ κ (a 1) ∷ κ (a 2) ∷ κ (b 0) ∷ κ (b 1) ∷ κ (b 2) ∷ κ (c 0) ∷ κ (c 1) ∷ κ (c 2) ∷ x C ∷ y C ∷ [])
      ∙ (λ t. constant_mix s (a 0) (b 0) (c 0) t ⊕ constant_mix s (a 1) (b 1) (c 1) t ⊗ x C ⊕ constant_mix s (a 2) (b 2) (c 2) t ⊗ y C)
    where
      κ : k.Car → El
      κ = constant C

      at : ℕ → ℕ → E
      at j i = var (3 * j + i)

      each : ℕ → E
      each j = plane_over E-ops (var 12) (var 13) (at j)

  module _ (m : ℕ → k.Car) where
    abbrev I : El → Type 0
    I = IdealOf C k31 m

    ideal : IsIdeal R I
    ideal = generated_ideal R (polynomials C k31 m)

    pub column_cong : {w : El} {c d : ℕ → k.Car} → ((i : ℕ) → i ≤ 2 → c i ≡ d i) → IsColumn m w c → IsColumn m w d
    column_cong {w} e mw = record { member = subst (λ p. I (w ⊕ ⊖ p)) (plane_same e) mw.member }

    pub column_mix : (s : ℕ → k.Car) {u v w : El} {a b c : ℕ → k.Car} → IsColumn m u a → IsColumn m v b → IsColumn m w c
        → IsColumn m (mixed s u v w) (λ i. mix (ops k) s (a i) (b i) (c i))
    column_mix s {u} {v} {w} {a} {b} {c} mu mv mw = record {
      member =
          subst I (apart _ _ _ u v w (plane a) (plane b) (plane c) ∙ ap (λ p. mixed s u v w ⊕ ⊖ p) (plane_mix s a b c))
          (ideal.sum (ideal.sum (ideal.times (constant C (s 0)) mu.member) (ideal.times (constant C (s 1)) mv.member)) (ideal.times (constant C (s 2)) mw.member));
    }
      where
        apart : (s0 s1 s2 u v w a b c : El) → s0 ⊗ (u ⊕ ⊖ a) ⊕ s1 ⊗ (v ⊕ ⊖ b) ⊕ s2 ⊗ (w ⊕ ⊖ c) ≡ s0 ⊗ u ⊕ s1 ⊗ v ⊕ s2 ⊗ w ⊕ ⊖ (s0 ⊗ a ⊕ s1 ⊗ b ⊕ s2 ⊗ c)
        apart =
            solve R 9 (λ s0 s1 s2 u v w a b c. s0 ⊠ (u ⊞ ⊟ a) ⊞ s1 ⊠ (v ⊞ ⊟ b) ⊞ s2 ⊠ (w ⊞ ⊟ c))
            (λ s0 s1 s2 u v w a b c. s0 ⊠ u ⊞ s1 ⊠ v ⊞ s2 ⊠ w ⊞ ⊟ (s0 ⊠ a ⊞ s1 ⊠ b ⊞ s2 ⊠ c)) tt

    pub column_apart : {v w : El} {c : ℕ → k.Car} → IsColumn m v c → IsColumn m w c → I (v ⊕ ⊖ w)
    column_apart {v} {w} {c} mv mw = subst I (less v w (plane c)) (ideal.sum mv.member (ideal.times (⊖ 𝟏) mw.member))
      where
        less : (v w p : El) → v ⊕ ⊖ p ⊕ ⊖ 𝟏 ⊗ (w ⊕ ⊖ p) ≡ v ⊕ ⊖ w
        less = solve R 3 (λ v w p. v ⊞ ⊟ p ⊞ ⊟ unit ⊠ (w ⊞ ⊟ p)) (λ v w p. v ⊞ ⊟ w) tt

    pub column-zero : IsBasis C k31 m → {w : El} {c : ℕ → k.Car} → IsColumn m w c → I w → (i : ℕ) → i ≤ 2 → c i ≡ k.zero
    column-zero basis {w} {c} mc mw = class_by (λ i. c i ≡ k.zero) (found 0) (found 3) (found 4)
      where
        alone : (w p : El) → w ⊕ ⊖ 𝟏 ⊗ (w ⊕ ⊖ p) ≡ p
        alone = solve R 2 (λ w p. w ⊞ ⊟ unit ⊠ (w ⊞ ⊟ p)) (λ w p. p) tt

        ts : Terms C
        ts = (c 0, 0) ∷ (c 1, 3) ∷ (c 2, 4) ∷ []

        sorted : (a b c x y : El) → a ⊕ b ⊗ x ⊕ c ⊗ y ≡ a ⊗ 𝟏 ⊕ (b ⊗ x ⊕ (c ⊗ y ⊕ 𝟎))
        sorted = solve R 5 (λ a b c x y. a ⊞ b ⊠ x ⊞ c ⊠ y) (λ a b c x y. a ⊠ unit ⊞ (b ⊠ x ⊞ (c ⊠ y ⊞ nil))) tt

        none : plane c ≡ 𝟎
        none = basis (plane c) (subst I (alone w (plane c)) (ideal.sum mw (ideal.times (⊖ 𝟏) mc.member))) (c 0, _, (c 1, _, (c 2, 𝟎, refl, refl), refl), sorted _ _ _ _ _)

        same : plane c ≡ terms C ts
        same = sorted _ _ _ _ _ ∙ sym (λ t. constant C (c 0) ⊗ mono-one C t ⊕ (constant C (c 1) ⊗ mono-x C t ⊕ (constant C (c 2) ⊗ mono-y C t ⊕ 𝟎)))

        found : (p : ℕ) → find C p ts ≡ k.zero
        found p = sym (coefficient_terms C ts tt p) ∙ ap (coefficient C p) (sym same ∙ none) ∙ coefficient-zero C p

-- the letters of the columns a, b, c and d, and of s or the inverse of the determinant
abbrev entry : ℕ → ℕ → E
entry j i = var (3 * j + i)

module _ (K : Field) (a b c : ℕ → K.ring.Car) (nonzero : ¬ (determinant (ops K.ring) a b c ≡ K.ring.zero)) where
  open K.ring use {Car, zero as 𝟘, one as 𝟙, mul as ◌·ₖ◌}

  infixl 70 ◌·ₖ◌
  abbrev k : CommRing
  k = K.ring

  abbrev D : Car
  D = determinant (ops k) a b c

  abbrev D_entries : E
  D_entries = determinant E-ops (entry 0) (entry 1) (entry 2)

  -- the entries of the columns, then vs
  abbrev entries : List Car → List Car
  entries vs = a 0 ∷ a 1 ∷ a 2 ∷ b 0 ∷ b 1 ∷ b 2 ∷ c 0 ∷ c 1 ∷ c 2 ∷ vs

  abbrev pub cramer : (ℕ → Car) → ℕ → Car
  cramer d j = K.inv D ·ₖ replaced (ops k) a b c d j

  pub cramer_solves : (d : ℕ → Car) → Solves k a b c d (cramer d)
  cramer_solves d = class_by (λ i. d i ≡ mix (ops k) (cramer d) (a i) (b i) (c i)) (back (d 0) ∙ rule 0 tt) (back (d 1) ∙ rule 1 tt) (back (d 2) ∙ rule 2 tt)
    where
      back : (u : Car) → u ≡ D ·ₖ K.inv D ·ₖ u
      back u = sym (ap (λ v. v ·ₖ u) (K.mul_inv D nonzero) ∙ L.one-mul k u)

      left : ℕ → E
      left i = D_entries ⊠ var 12 ⊠ entry 3 i

      right : ℕ → E
      right i = mix E-ops (λ j. var 12 ⊠ replaced E-ops (entry 0) (entry 1) (entry 2) (entry 3) j) (entry 0 i) (entry 1 i) (entry 2 i)

      ρ : List Car
      ρ = entries (d 0 ∷ d 1 ∷ d 2 ∷ K.inv D ∷ [])

      rule : (i : ℕ) → Same (left i) (right i) → value k (left i) ρ ≡ value k (right i) ρ
      rule i t = same-value k (left i) (right i) t ρ

  -- D·s is the determinant with the column of s in place of one column
  pub independent : (s : ℕ → Car) → ((i : ℕ) → i ≤ 2 → mix (ops k) s (a i) (b i) (c i) ≡ 𝟘) → (j : ℕ) → j ≤ 2 → s j ≡ 𝟘
  independent s e j l = no-zero_divisors K D (s j) (class_by (λ j. D ·ₖ s j ≡ 𝟘) (rule 0 tt ∙ low 0 ∙ none 0 tt) (rule 1 tt ∙ low 1 ∙ none 1 tt) (rule 2 tt ∙ low 2 ∙ none 2 tt) j l) nonzero
    where
      left : ℕ → E
      left j = D_entries ⊠ entry 3 j

      right : ℕ → E
      right j = replaced E-ops (entry 0) (entry 1) (entry 2) (λ i. mix E-ops (entry 3) (entry 0 i) (entry 1 i) (entry 2 i)) j

      empty : ℕ → E
      empty j = replaced E-ops (entry 0) (entry 1) (entry 2) (λ i. nil) j

      ρ : List Car
      ρ = entries (s 0 ∷ s 1 ∷ s 2 ∷ [])

      rule : (j : ℕ) → Same (left j) (right j) → value k (left j) ρ ≡ value k (right j) ρ
      rule j t = same-value k (left j) (right j) t ρ

      none : (j : ℕ) → Same (empty j) nil → value k (empty j) ρ ≡ 𝟘
      none j t = same-value k (empty j) nil t ρ

      three : Car → Car → Car → ℕ → Car
      three u v w zero = u
      three u v w (suc zero) = v
      three u v w (suc (suc i)) = w

      at : (i : ℕ) → Car
      at i = mix (ops k) s (a i) (b i) (c i)

      low : (j : ℕ) → replaced (ops k) a b c (three (at 0) (at 1) (at 2)) j ≡ replaced (ops k) a b c (three 𝟘 𝟘 𝟘) j
      low j = λ t. replaced (ops k) a b c (three (e 0 (omega arith) t) (e 1 (omega arith) t) (e 2 (omega arith) t)) j
