-- The places of a pool: what stands there, what is left without two of them, and that nothing is lost.
--   same_place, other_place, long-enough, too_short    the tests of places and of a buffer's length
--   tally-yes, tally-no    a call that counts, and one that does not
--   without_both           a list is the entries at two different places and the rest, in another order
--   perm_length            lists in another order have the same length
use mathlib.Core.Path.{◌≡◌, refl, sym, ◌∙◌, ap, subst}
use mathlib.Core.Bool.{Bool, true, false}
use mathlib.Core.List.Permᴰ
use mathlib.Core.List.{List, [], ◌∷◌, Permᴰ}
use Prim.Native.Nat.{ℕ, zero, suc, ◌+◌, ◌<◌, ◌≤◌}
use native.Mathlib.Omega.{arith}
use lib.ListN.{length, get_or}
use lib.Dec.{T, eqb, leb, eqb→eq, eqb_refl, leb→le, le→leb}
use Rattle.curve.specs.Sequence.{pick}
use Rattle.curve.proofs.Term.{pick_true, pick_false}
use Rattle.calls.specs.Call.{one_if}
use Rattle.calls.specs.Pool.{without_from, without}

module _ {A : Type 0} where
  pub same_place : (m n : ℕ) (x y : A) → m ≡ n → pick (eqb m n) x y ≡ x
  same_place m n x y e = pick_true (eqb m n) x y (subst (λ (k : ℕ). T (eqb m k)) e (eqb_refl m))

  pub other_place : (m n : ℕ) (x y : A) → ¬ (m ≡ n) → pick (eqb m n) x y ≡ y
  other_place m n x y h = pick_false (eqb m n) x y (λ t. h (eqb→eq m n t))

  pub long-enough : (m n : ℕ) (x y : A) → m ≤ n → pick (leb m n) x y ≡ x
  long-enough m n x y h = pick_true (leb m n) x y (le→leb m n h)

  pub too_short : (m n : ℕ) (x y : A) → n < m → pick (leb m n) x y ≡ y
  too_short m n x y h = pick_false (leb m n) x y (λ t. omega (arith, leb→le m n t))

  -- the order of the two tests does not matter
  tests_turn : (b d : Bool) (x y : A) → pick b x (pick d x y) ≡ pick d x (pick b x y)
  tests_turn true true x y = refl
  tests_turn true false x y = refl
  tests_turn false true x y = refl
  tests_turn false false x y = refl

pub tally-yes : (m n : ℕ) → m ≤ n → one_if (leb m n) ≡ 1
tally-yes m n h = go (leb m n) (le→leb m n h)
  where
    go : (b : Bool) → T b → one_if b ≡ 1
    go true t = refl
    go false t = absurd t

pub tally-no : (m n : ℕ) → n < m → one_if (leb m n) ≡ 0
tally-no m n h = go (leb m n) (λ t. omega (arith, leb→le m n t))
  where
    go : (b : Bool) → ¬ T b → one_if b ≡ 0
    go true t = absurd (t tt)
    go false t = refl

module _ {A : Type 0} where
  without-none : (n i j : ℕ) (xs : List A) → i < n → j < n → without_from n i j xs ≡ xs
  without-none n i j [] a b = refl
  without-none n i j (x ∷ xs) a b =
      other_place n i _ _ (omega arith)
      ∙ other_place n j _ _ (omega arith)
      ∙ ap (λ (ys : List A). x ∷ ys) (without-none (suc n) i j xs (omega arith) (omega arith))

  without_turn : (n i j : ℕ) (xs : List A) → without_from n i j xs ≡ without_from n j i xs
  without_turn n i j [] = refl
  without_turn n i j (x ∷ xs) =
      tests_turn (eqb n i) (eqb n j) (without_from (suc n) i j xs) (x ∷ without_from (suc n) i j xs)
      ∙ ap (λ (ys : List A). pick (eqb n j) ys (pick (eqb n i) ys (x ∷ ys))) (without_turn (suc n) i j xs)

  without-one : (xs : List A) (n i k : ℕ) (d : A) → i < n → k < length xs → Permᴰ xs (get_or xs k d ∷ without_from n i (n + k) xs)
  without-one [] n i k d a b = absurd (omega arith)
  without-one (x ∷ xs) n i zero d a b =
      subst (λ (ys : List A). Permᴰ (x ∷ xs) (x ∷ ys))
      (sym (other_place n i _ _ (omega arith) ∙ same_place n (n + 0) _ _ (omega arith) ∙ without-none (suc n) i (n + 0) xs (omega arith) (omega arith)))
      (Permᴰ.refl (x ∷ xs))
  without-one (x ∷ xs) n i (suc k) d a b =
      subst (λ (ys : List A). Permᴰ (x ∷ xs) (get_or xs k d ∷ ys)) (sym left)
      (Permᴰ.trans (Permᴰ.cons refl (without-one xs (suc n) i k d (omega arith) (omega arith))) (Permᴰ.swap refl refl))
    where
      left : without_from n i (n + suc k) (x ∷ xs) ≡ x ∷ without_from (suc n) i (suc n + k) xs
      left =
          other_place n i _ _ (omega arith)
          ∙ other_place n (n + suc k) _ _ (omega arith)
          ∙ ap (λ (m : ℕ). x ∷ without_from (suc n) i m xs) (omega arith)

  without-two : (xs : List A) (n k l : ℕ) (d : A) → k < length xs → l < length xs → ¬ (k ≡ l)
      → Permᴰ xs (get_or xs k d ∷ get_or xs l d ∷ without_from n (n + k) (n + l) xs)
  without-two [] n k l d a b h = absurd (omega arith)
  without-two (x ∷ xs) n zero zero d a b h = absurd (h refl)
  without-two (x ∷ xs) n zero (suc l) d a b h =
      subst (λ (ys : List A). Permᴰ (x ∷ xs) (x ∷ get_or xs l d ∷ ys)) (sym left)
      (Permᴰ.cons refl (without-one xs (suc n) (n + 0) l d (omega arith) (omega arith)))
    where
      left : without_from n (n + 0) (n + suc l) (x ∷ xs) ≡ without_from (suc n) (n + 0) (suc n + l) xs
      left = same_place n (n + 0) _ _ (omega arith) ∙ ap (λ (m : ℕ). without_from (suc n) (n + 0) m xs) (omega arith)
  without-two (x ∷ xs) n (suc k) zero d a b h =
      subst (λ (ys : List A). Permᴰ (x ∷ xs) (get_or xs k d ∷ x ∷ ys)) (sym left)
      (Permᴰ.trans (Permᴰ.cons refl (without-one xs (suc n) (n + 0) k d (omega arith) (omega arith))) (Permᴰ.swap refl refl))
    where
      left : without_from n (n + suc k) (n + 0) (x ∷ xs) ≡ without_from (suc n) (n + 0) (suc n + k) xs
      left =
          without_turn n (n + suc k) (n + 0) (x ∷ xs)
          ∙ same_place n (n + 0) _ _ (omega arith)
          ∙ ap (λ (m : ℕ). without_from (suc n) (n + 0) m xs) (omega arith)
  without-two (x ∷ xs) n (suc k) (suc l) d a b h =
      subst (λ (ys : List A). Permᴰ (x ∷ xs) (get_or xs k d ∷ get_or xs l d ∷ ys)) (sym left)
      (Permᴰ.trans (Permᴰ.cons refl (without-two xs (suc n) k l d (omega arith) (omega arith) (λ e. h (ap suc e))))
      (Permᴰ.trans (Permᴰ.swap refl refl) (Permᴰ.cons refl (Permᴰ.swap refl refl))))
    where
      left : without_from n (n + suc k) (n + suc l) (x ∷ xs) ≡ x ∷ without_from (suc n) (suc n + k) (suc n + l) xs
      left =
          other_place n (n + suc k) _ _ (omega arith)
          ∙ other_place n (n + suc l) _ _ (omega arith)
          ∙ ap (λ (m : ℕ). x ∷ without_from (suc n) m (n + suc l) xs) (omega arith)
          ∙ ap (λ (m : ℕ). x ∷ without_from (suc n) (suc n + k) m xs) (omega arith)

  pub without_both : (xs : List A) (i j : ℕ) (d : A) → i < length xs → j < length xs → ¬ (i ≡ j)
      → Permᴰ xs (get_or xs i d ∷ get_or xs j d ∷ without i j xs)
  without_both xs i j d a b h =
      subst (λ (m : ℕ). Permᴰ xs (get_or xs i d ∷ get_or xs j d ∷ without_from 0 m j xs)) (omega arith)
      (subst (λ (m : ℕ). Permᴰ xs (get_or xs i d ∷ get_or xs j d ∷ without_from 0 (0 + i) m xs)) (omega arith) (without-two xs 0 i j d a b h))

  pub perm_length : {xs ys : List A} → Permᴰ xs ys → length xs ≡ length ys
  perm_length Permᴰ.nil = refl
  perm_length (Permᴰ.cons e q) = ap suc (perm_length q)
  perm_length (Permᴰ.swap e f) = refl
  perm_length (Permᴰ.trans q r) = perm_length q ∙ perm_length r
