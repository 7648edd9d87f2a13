-- A pool and its groups, place by place; and products of ideals over lists in another order.
--   Together Q gs p        gs and p have the same length, and Q holds of what stands at the same place
--   together_length, together-entry    … which says just this
--   together_every         what follows of each record
--   together-without       without two places
--   together-more          with one more at the end
--   every_perm             what holds of each element holds of each in another order
--   productof_perm         the product of ideals does not depend on their order
--   productof_merge        two factors may be replaced by one at the end that is equivalent to their product
use mathlib.Core.Path.{◌≡◌, refl, ap, subst}
use mathlib.Core.Bool.{Bool, true, false}
use mathlib.Core.List.Permᴰ
use mathlib.Core.List.{List, [], ◌∷◌, ◌++◌, Permᴰ}
use Prim.Native.Nat.{ℕ, zero, suc, ◌<◌}
use native.Mathlib.Omega.{arith}
use lib.ListN.{length}
use lib.Dec.{eqb}
use Rattle.algebra.specs.Ring.{CommRing}
use Rattle.ideal.specs.Ideal.{IsIdeal, Product, ProductOf, SameIdeal, Equivalent}
use Rattle.ideal.specs.Poles.{Poles}
use Rattle.ideal.proofs.Same.{same_refl, same_sym, same_trans}
use Rattle.ideal.proofs.Every.{Every}
use Rattle.ideal.proofs.Class.{equivalent_same, equivalent_trans}
use Rattle.ideal.proofs.Product.{product-same, product_assoc, productof_ideal, productof_swap, product_equivalent_left}
use Rattle.curve.specs.Sequence.{pick}
use Rattle.calls.specs.Pool.{entry, without_from}

module _ (Q : List ℕ → List ℕ → Type 0) where
  abbrev pub Together : List (List ℕ) → List (List ℕ) → Type 0
  Together [] [] = Unit
  Together [] (w ∷ p) = ⊥
  Together (g ∷ gs) [] = ⊥
  Together (g ∷ gs) (w ∷ p) = Q g w × Together gs p

  pub together_length : (gs p : List (List ℕ)) → Together gs p → length gs ≡ length p
  together_length [] [] t = refl
  together_length [] (w ∷ p) t = absurd t
  together_length (g ∷ gs) [] t = absurd t
  together_length (g ∷ gs) (w ∷ p) t = ap suc (together_length gs p t.1)

  pub together-entry : (gs p : List (List ℕ)) → Together gs p → (m : ℕ) → m < length p → Q (entry gs m) (entry p m)
  together-entry [] [] t m h = absurd (omega arith)
  together-entry [] (w ∷ p) t m h = absurd t
  together-entry (g ∷ gs) [] t m h = absurd t
  together-entry (g ∷ gs) (w ∷ p) t zero h = t.0
  together-entry (g ∷ gs) (w ∷ p) t (suc m) h = together-entry gs p t.1 m (omega arith)

  pub together_every : (H : List ℕ → Type 0) → ((g w : List ℕ) → Q g w → H w) → (gs p : List (List ℕ)) → Together gs p → Every H p
  together_every H f [] [] t = tt
  together_every H f [] (w ∷ p) t = absurd t
  together_every H f (g ∷ gs) [] t = absurd t
  together_every H f (g ∷ gs) (w ∷ p) t = (f g w t.0, together_every H f gs p t.1)

  together-pick : (b : Bool) (gs gs' p p' : List (List ℕ)) → Together gs p → Together gs' p' → Together (pick b gs gs') (pick b p p')
  together-pick true gs gs' p p' t t' = t
  together-pick false gs gs' p p' t t' = t'

  pub together-without : (gs p : List (List ℕ)) (n i j : ℕ) → Together gs p → Together (without_from n i j gs) (without_from n i j p)
  together-without [] [] n i j t = tt
  together-without [] (w ∷ p) n i j t = absurd t
  together-without (g ∷ gs) [] n i j t = absurd t
  together-without (g ∷ gs) (w ∷ p) n i j t = go (together-without gs p (suc n) i j t.1)
    where
      gs' : List (List ℕ)
      gs' = without_from (suc n) i j gs

      p' : List (List ℕ)
      p' = without_from (suc n) i j p

      go : Together gs' p' → Together (pick (eqb n i) gs' (pick (eqb n j) gs' (g ∷ gs'))) (pick (eqb n i) p' (pick (eqb n j) p' (w ∷ p')))
      go h =
          together-pick (eqb n i) gs' (pick (eqb n j) gs' (g ∷ gs')) p' (pick (eqb n j) p' (w ∷ p')) h
          (together-pick (eqb n j) gs' (g ∷ gs') p' (w ∷ p') h (t.0, h))

  pub together-more : (gs p : List (List ℕ)) (g w : List ℕ) → Together gs p → Q g w → Together (gs ++ g ∷ []) (p ++ w ∷ [])
  together-more [] [] g w t q = (q, tt)
  together-more [] (v ∷ p) g w t q = absurd t
  together-more (h ∷ gs) [] g w t q = absurd t
  together-more (h ∷ gs) (v ∷ p) g w t q = (t.0, together-more gs p g w t.1 q)

pub every_perm : {X : Type 0} (Q : X → Type 0) {xs ys : List X} → Permᴰ xs ys → Every Q xs → Every Q ys
every_perm Q Permᴰ.nil q = tt
every_perm Q (Permᴰ.cons e d) (q, qs) = (subst Q e q, every_perm Q d qs)
every_perm Q (Permᴰ.swap e f) (q, (r, qs)) = (subst Q f r, (subst Q e q, qs))
every_perm Q (Permᴰ.trans d d') qs = every_perm Q d' (every_perm Q d qs)

module _ (R : CommRing) {X : Type 0} (f : X → R.Car → Type 0) where
  pub productof_perm : {xs ys : List X} → Permᴰ xs ys → Every (λ x. IsIdeal R (f x)) xs → SameIdeal R (ProductOf R f xs) (ProductOf R f ys)
  productof_perm Permᴰ.nil q = same_refl R (λ _. Unit)
  productof_perm (Permᴰ.cons {a = a} {l₁ = l₁} {l₂ = l₂} e d) (q, qs) =
      subst (λ b. SameIdeal R (ProductOf R f (a ∷ l₁)) (ProductOf R f (b ∷ l₂))) e (product-same R (same_refl R (f a)) (productof_perm d qs))
  productof_perm (Permᴰ.swap {a = a} {b = b} {a' = a'} {b' = b'} {l = l} e e') (q, (r, qs)) =
      subst (λ u. SameIdeal R (ProductOf R f (a ∷ b ∷ l)) (ProductOf R f (a' ∷ u ∷ l))) e
      (subst (λ u. SameIdeal R (ProductOf R f (a ∷ b ∷ l)) (ProductOf R f (u ∷ a ∷ l))) e' (productof_swap R f a b l q r (productof_ideal R f l qs)))
  productof_perm (Permᴰ.trans d d') qs = same_trans R (productof_perm d qs) (productof_perm d' (every_perm (λ x. IsIdeal R (f x)) d qs))

module _ {R : CommRing} (P : Poles R) {X : Type 0} (f : X → R.Car → Type 0) where
  pub productof_merge : {xs rest : List X} {a b w : X} → Permᴰ xs (a ∷ b ∷ rest) → Every (λ x. IsIdeal R (f x)) xs → IsIdeal R (f w)
      → Equivalent R (Product R (f a) (f b)) (f w) → Equivalent R (ProductOf R f xs) (ProductOf R f (rest ++ w ∷ []))
  productof_merge {xs} {rest} {a} {b} {w} d is i e = go (every_perm (λ x. IsIdeal R (f x)) d is)
    where
      go : Every (λ x. IsIdeal R (f x)) (a ∷ b ∷ rest) → Equivalent R (ProductOf R f xs) (ProductOf R f (rest ++ w ∷ []))
      go (ia, (ib, ir)) =
          equivalent_trans P (equivalent_same P (productof_perm R f d is))
          (equivalent_trans P (equivalent_same P (same_sym R (product_assoc R ia ib (productof_ideal R f rest ir))))
          (equivalent_trans P (product_equivalent_left P e) (equivalent_same P (productof_perm R f (Permᴰ.append_comm (w ∷ []) rest) (i, ir)))))
