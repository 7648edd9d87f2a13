-- The element of a vector with the places of one kind only.
--   portion K d        the element with v's coefficients at the places n with K n, and 0 elsewhere; d decides K
--   portion_in, portion_out        its coefficients, at the places of the kind and at the others
--   portion_all        with all places where v is not 0 it is v's element
--   portion_none       with none it is zero
--   portion_same       it depends on the pole numbers n with K n only
--   portion_step       one more pole number adds a multiple of x^i·y^j
use mathlib.Core.Path.{◌≡◌, refl, sym, ◌∙◌, ap}
use mathlib.Core.List.{List}
use Prim.Native.Nat.{ℕ, ◌≤◌}
use lib.ListN.{length}
use Rattle.ideal.specs.Poles.{IsPole}
use Rattle.field.specs.Residue.{Z, el}
use Rattle.field.proofs.Element.{el-zero}
use Rattle.curve.specs.Curve.{Curve, Coordinate}
use Rattle.curve.specs.Curve as K
use Rattle.curve.specs.Pole.{pole}
use Rattle.curve.proofs.Pole.{pole-is_pole}
use Rattle.curve.specs.Sequence.{vector}
use Rattle.curve.proofs.Term.{coefficient-pole, coefficient-vector}
use Rattle.curve.proofs.Vector.{vector-same, vector-zero}
use Rattle.vector.specs.Vector.{at, res, element, past_end, x_to, y_to, scalar}
use Rattle.vector.proofs.Monomial.{vector_step}

-- u if A holds and else v
choose : {A X : Type 0} → Dec A → X → X → X
choose (yes a) u v = u
choose (no a) u v = v

choose_yes : {A X : Type 0} (d : Dec A) (u v : X) → A → choose d u v ≡ u
unfolding choose
choose_yes (yes a) u v h = refl
choose_yes (no a) u v h = absurd (a h)

choose_no : {A X : Type 0} (d : Dec A) (u v : X) → ¬ A → choose d u v ≡ v
unfolding choose
choose_no (yes a) u v h = absurd (h a)
choose_no (no a) u v h = refl

choose_same : {A X : Type 0} (d : Dec A) (u v : X) → u ≡ v → choose d u v ≡ v
unfolding choose
choose_same (yes a) u v e = e
choose_same (no a) u v e = refl

-- the same under another condition that says the same
choose_both : {A B X : Type 0} (d : Dec A) (e : Dec B) (u v : X) → (A → B) → (B → A) → choose d u v ≡ choose e u v
unfolding choose
choose_both (yes a) e u v f g = sym (choose_yes e u v (f a))
choose_both (no a) e u v f g = sym (choose_no e u v (λ b. a (g b)))

choose_all : {A X : Type 0} (d : Dec A) (u v : X) → (¬ A → u ≡ v) → choose d u v ≡ u
unfolding choose
choose_all (yes a) u v e = refl
choose_all (no a) u v e = sym (e a)

module _ (p : ℕ) (C : Curve (Z p)) (v : List ℕ) where
  open Coordinate C use {Car as El, zero as 𝟎, add as ◌⊕◌, mul as ◌⊗◌}

  infixl 60 ◌⊕◌
  infixl 70 ◌⊗◌
  module _ (S : ℕ → Type 0) (d : (n : ℕ) → Dec (S n)) where
    kept : ℕ → (Z p).Car
    kept n = choose (d n) (res p v n) (Z p).zero

    kept-past : (n : ℕ) → length v ≤ n → kept n ≡ (Z p).zero
    unfolding kept
    kept-past n h = choose_same (d n) _ _ (past_end p v n h)

    pub portion : El
    portion = vector C kept (length v) kept-past

    portion_at : (i j : ℕ) → j ≤ 2 → K.at C i j portion ≡ kept (pole i j)
    unfolding portion
    portion_at i j l =
        sym (coefficient-pole C i j l _)
        ∙ coefficient-vector C kept (length v) kept-past (pole i j) (pole-is_pole i j l)

    pub portion_in : (i j : ℕ) → j ≤ 2 → S (pole i j) → K.at C i j portion ≡ res p v (pole i j)
    unfolding kept
    portion_in i j l h = portion_at i j l ∙ choose_yes (d (pole i j)) _ _ h

    pub portion_out : (i j : ℕ) → j ≤ 2 → ¬ S (pole i j) → K.at C i j portion ≡ (Z p).zero
    unfolding kept
    portion_out i j l h = portion_at i j l ∙ choose_no (d (pole i j)) _ _ h

    pub portion_all : ((n : ℕ) → ¬ S n → at v n ≡ 0) → portion ≡ element p C v
    unfolding portion kept element
    portion_all h =
        vector-same C kept (length v) kept-past (res p v) (length v) (past_end p v) (λ n q. choose_all (d n) _ _ (λ s. ap (el p) (h n s) ∙ el-zero p))

    pub portion_none : ((n : ℕ) → ¬ S n) → portion ≡ 𝟎
    unfolding portion kept
    portion_none h = sym (vector-zero C kept (length v) kept-past (λ n q. choose_no (d n) _ _ (h n)))

  module _ (S : ℕ → Type 0) (d : (n : ℕ) → Dec (S n)) (S' : ℕ → Type 0) (d' : (n : ℕ) → Dec (S' n)) where
    pub portion_same : ((n : ℕ) → IsPole n → S n → S' n) → ((n : ℕ) → IsPole n → S' n → S n) → portion S d ≡ portion S' d'
    unfolding portion kept
    portion_same f g =
        vector-same C (kept S d) (length v) (kept-past S d) (kept S' d') (length v) (kept-past S' d') (λ n q. choose_both (d n) (d' n) _ _ (f n q) (g n q))

    pub portion_step :
        (i j : ℕ) → j ≤ 2 → ¬ S (pole i j) → S' (pole i j) → ((n : ℕ) → S n → S' n) → ((n : ℕ) → ¬ (n ≡ pole i j) → S' n → S n) →
        portion S' d' ≡ portion S d ⊕ scalar p C (at v (pole i j)) ⊗ (x_to p C i ⊗ y_to p C j)
    unfolding portion kept
    portion_step i j l h h' f g =
        vector_step C (kept S d) (length v) (kept-past S d) (kept S' d') (length v) (kept-past S' d') i j l (choose_no (d (pole i j)) _ _ h) (λ n q e. choose_both (d' n) (d n) _ _ (g n e) (f n))
        ∙ ap (λ c. portion S d ⊕ K.constant C c ⊗ (x_to p C i ⊗ y_to p C j)) (choose_yes (d' (pole i j)) _ _ h')
