-- Powers of ideals that are apart, and products of lists of them.
--   Apart f times Good     the ideals f x of the good x are invertible, f x + f y is the whole ring for different good x and y, and times x xs
--                          is how often x stands in the list xs
--   power-ideal            the powers of an ideal are ideals
--   product-second         I·J lies in J
--   powers_product         what lies in the power times x xs of f x, for each good x, lies in the product of the ideals f x of the list xs
-- The step is power_join: h in the power suc (times x xs) of f x and in the product of xs is in f x times that product, by induction on xs.
-- If x is the first of xs, the powers and products without the first f x meet (invertible_meet), and the rest of xs goes on.
-- If y is: h is in f x times the product of the rest, and h = u·h + v·h with u in f x, v in f y, u + v = 1; both are in f x·(f y·the rest).
use mathlib.Core.Path.{◌≡◌, sym, ◌∙◌, ap, subst}
use mathlib.Core.List.{List, [], ◌∷◌}
use Prim.Native.Nat.{ℕ, zero, suc}
use Rattle.algebra.specs.Ring.{CommRing}
use Rattle.algebra.proofs.Laws as laws
use Rattle.ideal.specs.Ideal.{IsIdeal, Product, ProductOf}
use Rattle.ideal.specs.Poles.{Poles}
use Rattle.ideal.specs.Invertible.{InvertibleIdeal}
use Rattle.ideal.proofs.Every.{Every, every_map}
use Rattle.ideal.proofs.Product.{product_of, product_in, product-ideal, product-map, whole-ideal, productof_ideal, productof_swap}
use Rattle.powers.specs.Power.{Power, Inside}
use Rattle.powers.proofs.Meet.{invertible_meet}

module _ (R : CommRing) where
  open R use {Car, one, add as ◌⊕◌, mul as ◌⊗◌}

  infixl 60 ◌⊕◌
  infixl 70 ◌⊗◌
  pub record Apart {X : Type 0} (f : X → Car → Type 0) (times : X → List X → ℕ) (Good : X → Type 0) : Type 1 where
    pub same : (x y : X) → Dec (x ≡ y)
    pub times_none : (x : X) → times x [] ≡ 0
    pub times_here : (x : X) (xs : List X) → times x (x ∷ xs) ≡ suc (times x xs)
    pub times_other : (x y : X) (xs : List X) → ¬ (x ≡ y) → times x (y ∷ xs) ≡ times x xs
    pub invertible : (x : X) → Good x → InvertibleIdeal R (f x)
    pub apart : (x y : X) → Good x → Good y → ¬ (x ≡ y) → (u v : Car) × f x u × f y v × (u ⊕ v ≡ one)

  pub power-ideal : {I : Car → Type 0} → IsIdeal R I → (k : ℕ) → IsIdeal R (Power R I k)
  power-ideal i zero = whole-ideal R
  power-ideal i (suc k) = product-ideal R i

  pub product-second : {I J : Car → Type 0} → IsIdeal R J → Inside R (Product R I J) J
  product-second j h = product_in R j (λ a b _ mb. j.times a mb)

  -- h = u·h + v·h is in K if both are.
  split : {K : Car → Type 0} {u v h : Car} → IsIdeal R K → u ⊕ v ≡ one → K (u ⊗ h) → K (v ⊗ h) → K h
  split {K} {u} {v} {h} k e m m' = subst K (sym (laws.add-mul R u v h) ∙ ap (λ t. t ⊗ h) e ∙ laws.one-mul R h) (k.sum m m')

module _ {R : CommRing} (P : Poles R) {X : Type 0} {f : X → R.Car → Type 0} {times : X → List X → ℕ} {Good : X → Type 0} (A : Apart R f times Good) where
  open R use {Car, one, add as ◌⊕◌, mul as ◌⊗◌}

  infixl 60 ◌⊕◌
  infixl 70 ◌⊗◌
  good-ideal : (xs : List X) → Every Good xs → IsIdeal R (ProductOf R f xs)
  good-ideal xs gs = productof_ideal R f xs (every_map (λ x g. (A.invertible x g).ideal) xs gs)

  power_at : (x : X) (h : Car) {j k : ℕ} → j ≡ k → Power R (f x) j h → Power R (f x) k h
  power_at x h e p = subst (λ k. Power R (f x) k h) e p

  times-equal : {x y : X} (xs : List X) → x ≡ y → times x (y ∷ xs) ≡ suc (times x xs)
  times-equal {x} xs e = subst (λ z. times x (z ∷ xs) ≡ suc (times x xs)) e (A.times_here x xs)

  -- x is the first of the list, Q the product of the rest.
  join_here : {Q : Car → Type 0} {x : X} {h : Car} (k : ℕ) → Good x → IsIdeal R Q
      → ((h : Car) → Power R (f x) (suc k) h → Q h → Product R (f x) Q h) → Power R (f x) (suc (suc k)) h → Product R (f x) Q h
      → Product R (f x) (Product R (f x) Q) h
  join_here {Q} {x} {h} k g q next p m =
      product-map R (λ a ma. ma) (λ b (mb, mb'). next b mb mb') (invertible_meet P (A.invertible x g) (product-ideal R (A.invertible x g).ideal) q h p m)

  -- Another y is.
  join_other : {x y : X} {h : Car} (ys : List X) → Good x → Good y → Every Good ys → ¬ (x ≡ y) → ProductOf R f (x ∷ ys) h → ProductOf R f (y ∷ ys) h
      → ProductOf R f (x ∷ y ∷ ys) h
  join_other {x} {y} {h} ys gx gy gs d mx my = go (A.apart x y gx gy d)
    where
      go : (u v : Car) × f x u × f y v × (u ⊕ v ≡ one) → ProductOf R f (x ∷ y ∷ ys) h
      go (u, v, mu, mv, e) =
          split R (product-ideal R (A.invertible x gx).ideal) e (product_of R mu my)
          ((productof_swap R f y x ys (A.invertible y gy).ideal (A.invertible x gx).ideal (good-ideal ys gs) _).0 (product_of R mv mx))

  power_join : (xs : List X) {x : X} → Good x → Every Good xs → (h : Car) → Power R (f x) (suc (times x xs)) h → ProductOf R f xs h
      → ProductOf R f (x ∷ xs) h
  power_join [] {x} g _ h p m = power_at x h (ap suc (A.times_none x)) p
  power_join (y ∷ ys) {x} g (gy, gs) h p m = go (A.same x y) (power_join ys g gs)
    where
      go : Dec (x ≡ y) → ((h : Car) → Power R (f x) (suc (times x ys)) h → ProductOf R f ys h → ProductOf R f (x ∷ ys) h) → ProductOf R f (x ∷ y ∷ ys) h
      go (yes e) next = subst (λ z. ProductOf R f (x ∷ z ∷ ys) h) e (join_here (times x ys) g (good-ideal ys gs) next (power_at x h (ap suc (times-equal ys e)) p) here)
        where
          here : ProductOf R f (x ∷ ys) h
          here = subst (λ z. ProductOf R f (z ∷ ys) h) (sym e) m
      go (no d) next = join_other ys g gy gs d (next h (power_at x h (ap suc (A.times_other x y ys d)) p) (product-second R (good-ideal ys gs) h m)) m

  -- One x fewer in the list, and no higher powers.
  fewer : {I : Car → Type 0} (x : X) (xs : List X) (y : X) → Good y → Inside R I (Power R (f y) (times y (x ∷ xs))) → Inside R I (Power R (f y) (times y xs))
  fewer x xs y g inside h m = go (A.same y x)
    where
      go : Dec (y ≡ x) → Power R (f y) (times y xs) h
      go (yes e) = product-second R (power-ideal R (A.invertible y g).ideal (times y xs)) h (power_at y h (times-equal xs e) (inside h m))
      go (no d) = power_at y h (A.times_other y x xs d) (inside h m)

  pub powers_product : {I : Car → Type 0} (xs : List X) → Every Good xs → ((x : X) → Good x → Inside R I (Power R (f x) (times x xs)))
      → Inside R I (ProductOf R f xs)
  powers_product [] gs inside h m = tt
  powers_product (x ∷ xs) (g, gs) inside h m =
      power_join xs g gs h (power_at x h (A.times_here x xs) (inside x g h m)) (powers_product xs gs (λ y gy. fewer x xs y gy (inside y gy)) h m)
