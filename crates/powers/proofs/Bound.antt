-- A list xs with I in the power times x xs of f x, for each x, is no longer than a list of numbers outside which I has all leads.
--   whole-invertible       the whole ring is invertible
--   lacks d                1 if the decision d says no, else 0
--   missing b ns           how many n of ns are no leads of a based space
--   missing_length         … at most as many as ns has
--   missing_less           fewer are missing in a larger space, if the smaller has all leads outside ns
--   powers_bound           xs is no longer than ns if I has all leads outside ns and lies in the power times x xs of f x for each good x
-- If J ⊆ K and no n of ns is a lead of K only, then all leads of K are leads of J, so K ⊆ J (lowering): that is missing_less.
-- The product of x ∷ xs lies in that of xs, and not the other way, for then 1 were in f x (invertible-whole): each x adds a missing lead.
-- So length xs ≤ missing (the product of xs) ns ≤ length ns, by induction on xs; I lies in the product by powers_product.
use mathlib.Core.Path.{◌≡◌, sym, subst}
use mathlib.Core.Logic.{◌⊎◌, inl, inr, ⊎_elim}
use mathlib.Core.List.{List, [], ◌∷◌}
use Prim.Native.Nat.{ℕ, suc, ◌+◌, ◌≤◌}
use native.Mathlib.Decide.{ℕ_discrete}
use native.Mathlib.Omega.{arith}
use lib.ListN.{length}
use Rattle.algebra.specs.Ring.{CommRing}
use Rattle.algebra.proofs.Laws as laws
use Rattle.ideal.specs.Ideal.{ProductOf}
use Rattle.ideal.specs.Poles.{IsPole, Poles}
use Rattle.ideal.specs.Invertible.{InvertibleIdeal}
use Rattle.ideal.proofs.Every.{Every, every_map}
use Rattle.ideal.proofs.Degree.{one-nonzero, pole-number}
use Rattle.ideal.proofs.Leads.{IsSpace, ideal_space, Lead, Based, lowering}
use Rattle.ideal.proofs.Product.{product_comm, product-unit, whole-ideal}
use Rattle.ideal.proofs.Finite.{BasedIdeal, productof_based}
use Rattle.ideal.proofs.Invertible.{invertible-product, invertible-whole}
use Rattle.powers.specs.Power.{Power, Inside}
use Rattle.powers.proofs.Products.{Apart, product-second, powers_product}

abbrev pub lacks : {A : Type 0} → Dec A → ℕ
lacks (yes _) = 0
lacks (no _) = 1

lacks_one : {A : Type 0} (d : Dec A) → lacks d ≤ 1
lacks_one (yes _) = omega arith
lacks_one (no _) = omega arith

-- Q holds of n, or n is not in a list of which each element has Q.
found : (Q : ℕ → Type 0) (n : ℕ) (ns : List ℕ) → Every Q ns → Q n ⊎ Every (λ m. ¬ (n ≡ m)) ns
found Q n [] _ = inr tt
found Q n (m ∷ ns) (q, qs) = go (ℕ_discrete n m) (found Q n ns qs)
  where
    go : Dec (n ≡ m) → Q n ⊎ Every (λ m. ¬ (n ≡ m)) ns → Q n ⊎ Every (λ m. ¬ (n ≡ m)) (m ∷ ns)
    go (yes e) rest = inl (subst Q (sym e) q)
    go (no d) rest = ⊎_elim inl (λ ds. inr (d, ds)) rest

module _ {R : CommRing} (P : Poles R) where
  open R use {Car, one}

  pub whole-invertible : InvertibleIdeal R (λ _. Unit)
  whole-invertible = record {
    ideal = whole-ideal R;
    I' = λ _. Unit;
    ideal' = whole-ideal R;
    e = one;
    nonzero = one-nonzero P;
    same = λ h. (λ _. (h, sym (laws.one-mul R h)), λ _. (product-unit R (whole-ideal R) h).1 tt);
  }

  abbrev pub missing : {J : Car → Type 0} → Based P J → List ℕ → ℕ
  missing b [] = 0
  missing b (n ∷ ns) = lacks (b n) + missing b ns

  pub missing_length : {J : Car → Type 0} (b : Based P J) (ns : List ℕ) → missing b ns ≤ length ns
  missing_length b [] = omega arith
  missing_length b (n ∷ ns) = add-one (lacks_one (b n)) (missing_length b ns)
    where
      add-one : {i j k : ℕ} → i ≤ 1 → j ≤ k → i + j ≤ suc k
      add-one l l' = omega arith

  module _ {J K : Car → Type 0} (b : Based P J) (c : Based P K) (inside : Inside R J K) where
    -- Of ns i are missing in K and j in J: either fewer in K, or each n of ns that is a lead of K is one of J.
    abbrev Compared : ℕ → ℕ → List ℕ → Type 0
    Compared i j ns = (suc i ≤ j) ⊎ ((i ≤ j) × Every (λ n. Lead P K n → Lead P J n) ns)

    compare : (ns : List ℕ) → Compared (missing c ns) (missing b ns) ns
    compare [] = inr (omega arith, tt)
    compare (n ∷ ns) = go (b n) (c n) (compare ns)
      where
        go : {i j : ℕ} (d : Dec (Lead P J n)) (d' : Dec (Lead P K n)) → Compared i j ns → Compared (lacks d' + i) (lacks d + j) (n ∷ ns)
        go (yes l) (no d) _ = absurd (d (l.0, inside l.0 l.1, l.2))
        go (yes l) (yes _) (inl h) = inl (omega arith)
        go (yes l) (yes _) (inr (h, same)) = inr (omega arith, (λ _. l, same))
        go (no d) (no d') (inl h) = inl (omega arith)
        go (no d) (no d') (inr (h, same)) = inr (omega arith, (λ l. absurd (d' l), same))
        go (no d) (yes l) (inl h) = inl (omega arith)
        go (no d) (yes l) (inr (h, same)) = inl (omega arith)

    pub missing_less : (ns : List ℕ) → IsSpace P J → IsSpace P K → ((n : ℕ) → IsPole n → Every (λ m. ¬ (n ≡ m)) ns → Lead P J n) → ¬ Inside R K J
        → suc (missing c ns) ≤ missing b ns
    missing_less ns s s' outside proper = ⊎_elim (λ h. h) (λ (_, same). absurd (proper (lowering P s s' inside (leads same)))) (compare ns)
      where
        leads : Every (λ n. Lead P K n → Lead P J n) ns → (n : ℕ) → Lead P K n → Lead P J n
        leads same n l = ⊎_elim (λ back. back l) (outside n (pole-number P l.2)) (found (λ n. Lead P K n → Lead P J n) n ns same)

module _ {R : CommRing} (P : Poles R) {X : Type 0} {f : X → R.Car → Type 0} {times : X → List X → ℕ} {Good : X → Type 0} (A : Apart R f times Good)
    (based : (x : X) → Good x → BasedIdeal P (f x)) (proper : (x : X) → Good x → ¬ f x R.one) where
  open R use {Car}

  good-invertible : (xs : List X) → Every Good xs → InvertibleIdeal R (ProductOf R f xs)
  good-invertible [] _ = whole-invertible P
  good-invertible (x ∷ xs) (g, gs) = invertible-product P (A.invertible x g) (good-invertible xs gs)

  good-based : (xs : List X) → Every Good xs → BasedIdeal P (ProductOf R f xs)
  good-based xs gs = productof_based P f xs (every_map based xs gs)

  -- The product of x ∷ xs lies properly in that of xs.
  larger : (x : X) (xs : List X) → Good x → Every Good xs → ¬ Inside R (ProductOf R f xs) (ProductOf R f (x ∷ xs))
  larger x xs g gs inside =
      proper x g (invertible-whole P (good-invertible xs gs) (A.invertible x g).ideal (λ h m. (product_comm R h).0 (inside h m)) R.one)

  module _ {I : Car → Type 0} (ns : List ℕ) (outside : (n : ℕ) → IsPole n → Every (λ m. ¬ (n ≡ m)) ns → Lead P I n) where
    count : (xs : List X) (gs : Every Good xs) → Inside R I (ProductOf R f xs) → length xs ≤ missing P (good-based xs gs).based ns
    count [] _ inside = omega arith
    count (x ∷ xs) (g, gs) inside = trans (count xs gs (λ h m. smaller h (inside h m))) less
      where
        trans : {i j k : ℕ} → i ≤ j → suc j ≤ k → suc i ≤ k
        trans l l' = omega arith

        smaller : Inside R (ProductOf R f (x ∷ xs)) (ProductOf R f xs)
        smaller = product-second R (good-based xs gs).ideal

        outside' : (n : ℕ) → IsPole n → Every (λ m. ¬ (n ≡ m)) ns → Lead P (ProductOf R f (x ∷ xs)) n
        outside' n p ds = at (outside n p ds)
          where
            at : Lead P I n → Lead P (ProductOf R f (x ∷ xs)) n
            at (u, m, q) = (u, inside u m, q)

        less : suc (missing P (good-based xs gs).based ns) ≤ missing P (good-based (x ∷ xs) (g, gs)).based ns
        less =
            missing_less P (good-based (x ∷ xs) (g, gs)).based (good-based xs gs).based smaller ns
            (ideal_space P (good-based (x ∷ xs) (g, gs)).ideal) (ideal_space P (good-based xs gs).ideal) outside' (larger x xs g gs)

    pub powers_bound : (xs : List X) → Every Good xs → ((x : X) → Good x → Inside R I (Power R (f x) (times x xs))) → length xs ≤ length ns
    powers_bound xs gs inside = omega (arith, count xs gs (powers_product P A xs gs inside), missing_length P (good-based xs gs).based ns)
