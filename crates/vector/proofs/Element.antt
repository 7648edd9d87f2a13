-- The elements of vectors.
--   element-coefficient            the coefficients of v's element are v's residues
--   element-at                     the same by the powers of x and y
--   element-zero                   the zero vector's element is zero
--   element-scale                  residues that are c times those of v
--   added_value                    what axpy does to the element
use mathlib.Core.Path.{◌≡◌, sym, ◌∙◌, ap, ap₂}
use mathlib.Core.List.{List}
use Prim.Native.Nat.{ℕ, ◌+◌, ◌*◌, ◌-◌, ◌/◌, ◌%◌, ◌≤◌, ◌<◌}
use native.Mathlib.Omega.{arith}
use native.Mathlib.Decide.{dec_lt}
use lib.ListN.{length}
use Rattle.algebra.proofs.Laws as L
use Rattle.field.specs.Residue.{Z, el}
use Rattle.field.proofs.Element.{el-zero}
use Rattle.curve.specs.Curve.{Curve, Coordinate, constant}
use Rattle.curve.specs.Curve as K
use Rattle.curve.specs.Pole.{pole}
use Rattle.curve.proofs.Pole.{Located, place, gap, locate, pole-is_pole}
use Rattle.curve.specs.Sequence.{coefficient}
use Rattle.curve.proofs.Term.{coefficient-pole, coefficient-gap, coefficient_ext, coefficient-add, coefficient-constant-mul, coefficient-vector}
use Rattle.curve.proofs.Vector.{vector-zero, vector-scale}
use Rattle.vector.specs.Vector.{Vec, Top, res, element, past_end, x_to, scalar}
use Rattle.vector.specs.Contract.{Added}
use Rattle.vector.proofs.Loop.{gap-zero}
use Rattle.vector.proofs.Monomial.{shift-high, shift-low}

module _ (p : ℕ) (C : Curve (Z p)) where
  open Z p use {Car, zero as 𝟘, one as 𝟙, add as ◌+ₖ◌, mul as ◌·ₖ◌, neg as -ₖ◌}
  open Coordinate C use {Car as El, zero as 𝟎, one as 𝟏, add as ◌⊕◌, mul as ◌⊗◌, neg as ⊖◌}

  infixl 60 ◌⊕◌ ◌+ₖ◌
  infixl 70 ◌⊗◌ ◌·ₖ◌
  infix 80 ⊖◌ -ₖ◌
  pub element-at : (v : List ℕ) (i j : ℕ) → j ≤ 2 → K.at C i j (element p C v) ≡ res p v (pole i j)
  unfolding element
  element-at v i j l =
      sym (coefficient-pole C i j l _)
      ∙ coefficient-vector C (res p v) (length v) (past_end p v) (pole i j) (pole-is_pole i j l)

  pub element-coefficient : {v : List ℕ} → Vec p v → (n : ℕ) → coefficient C n (element p C v) ≡ res p v n
  element-coefficient {v} h n = go (locate n)
    where
      go : Located n → coefficient C n (element p C v) ≡ res p v n
      go (place i j l e) = rw e (coefficient-pole C i j l (element p C v) ∙ element-at v i j l)
      go (gap q) = coefficient-gap C n q _ ∙ sym (ap (el p) (gap-zero h n q) ∙ el-zero p)

  pub element-zero : (v : List ℕ) → Top v 0 → element p C v ≡ 𝟎
  unfolding element
  element-zero v t =
      sym (vector-zero C (res p v) (length v) (past_end p v) (λ n q. ap (el p) (t n (omega arith)) ∙ el-zero p))

  pub element-scale : (v w : List ℕ) (c : Car) → ((n : ℕ) → res p w n ≡ c ·ₖ res p v n) → element p C w ≡ constant C c ⊗ element p C v
  unfolding element
  element-scale v w c e =
      sym (vector-scale C (res p v) (length v) (past_end p v) (res p w) (length w) (past_end p w) c (λ n q. e n))

  pub added_value : {c s e : ℕ} {r b r' : List ℕ} → Vec p r → Vec p b → s % 3 ≡ 0 → Added p r c b s e r' → Top b e → element p C r' ≡ element p C r ⊕ (scalar p C c ⊗ x_to p C (s / 3)) ⊗ element p C b
  added_value {c} {s} {e} {r} {b} {r'} hr hb z a t =
      coefficient_ext C (λ n. element-coefficient a.vec n ∙ same n (dec_lt n s) ∙ sym (right n))
    where
      g : El
      g = x_to p C (s / 3) ⊗ element p C b

      right : (n : ℕ) → coefficient C n (element p C r ⊕ (scalar p C c ⊗ x_to p C (s / 3)) ⊗ element p C b) ≡ res p r n +ₖ el p c ·ₖ coefficient C n g
      right n =
          coefficient-add C n _ _
          ∙ ap₂ ◌+ₖ◌ (element-coefficient hr n) (ap (coefficient C n) ((Coordinate C).mul_assoc _ _ _) ∙ coefficient-constant-mul C n (el p c) g)

      moved : (n : ℕ) → s ≤ n → coefficient C n g ≡ res p b (n - s)
      moved n l =
          ap (λ m. coefficient C m g) {x = n} {y = 3 * (s / 3) + (n - s)} (omega arith)
          ∙ shift-high C (s / 3) (n - s) (element p C b)
          ∙ element-coefficient hb (n - s)

      inside : (n : ℕ) → s ≤ n → Dec (n - s < e) → res p r' n ≡ res p r n +ₖ el p c ·ₖ res p b (n - s)
      inside n l (yes d) =
          let q : n - s + s ≡ n = omega arith in
          ap (res p r') (sym q)
          ∙ a.new (n - s) d
          ∙ (Z p).add_comm _ _
          ∙ ap (λ m. res p r m +ₖ el p c ·ₖ res p b (n - s)) q
      inside n l (no d) =
          ap (el p) (a.high n (omega arith))
          ∙ sym (ap (λ u. res p r n +ₖ el p c ·ₖ u) (ap (el p) (t (n - s) (omega arith)) ∙ el-zero p) ∙ ap (λ u. res p r n +ₖ u) (L.mul-zero (Z p) _) ∙ (Z p).add_zero _)

      same : (n : ℕ) → Dec (n < s) → res p r' n ≡ res p r n +ₖ el p c ·ₖ coefficient C n g
      same n (yes l) =
          ap (el p) (a.low n l)
          ∙ sym (ap (λ u. res p r n +ₖ el p c ·ₖ u) (shift-low C (s / 3) n (element p C b) (omega arith)) ∙ ap (λ u. res p r n +ₖ u) (L.mul-zero (Z p) _) ∙ (Z p).add_zero _)
      same n (no l) =
          inside n (omega arith) (dec_lt (n - s) e)
          ∙ ap (λ u. res p r n +ₖ el p c ·ₖ u) (sym (moved n (omega arith)))
