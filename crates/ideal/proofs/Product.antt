-- Products of ideals, and of lists of ideals.
--   product_of             a·b is in I·J for a in I and b in J
--   product_in             an ideal that holds each a·b holds I·J
--   product-ideal          I·J is an ideal if I is
--   product-sum            I·J is closed under sums
--   product-times          … and under multiples by r if I is
--   product-map, product-same      I·J grows with I and J
--   product_comm, product_assoc, product-unit
--   taken_ideal            the elements that k takes into an ideal are an ideal
--   whole-ideal            the whole ring is an ideal
--   productof_ideal        the product of a list of ideals is an ideal
--   productof_append       the product of two lists, one after the other
--   productof_swap         two neighbours may change places
--   productof_one          the product of one ideal
--   product_equivalent     I ~ I' and J ~ J' give I·J ~ I'·J'; product_equivalent_left and product_equivalent_right: for one factor
--   productof_join         if A ~ ∏ xs and B ~ ∏ ys, then A·B ~ ∏ (xs ++ ys)
use mathlib.Core.Path.{◌≡◌, refl, sym, ◌∙◌, ap, subst}
use mathlib.Core.Logic.Iff
use mathlib.Core.List.{List, [], ◌∷◌, ◌++◌}
use Rattle.algebra.specs.Ring.{CommRing}
use Rattle.algebra.proofs.Laws as laws
use Rattle.ideal.specs.Ideal.{IsIdeal, Product, none, more, ProductOf, SameIdeal, Equivalent}
use Rattle.ideal.specs.Poles.{Poles}
use Rattle.ideal.proofs.Every.{Every}
use Rattle.ideal.proofs.Class.{equivalent_same, equivalent_sym, equivalent_trans}

module _ (R : CommRing) where
  open R use {Car, zero, add as ◌⊕◌, mul as ◌⊗◌}

  infixl 60 ◌⊕◌
  infixl 70 ◌⊗◌
  pub product_of : {I J : Car → Type 0} {a b : Car} → I a → J b → Product R I J (a ⊗ b)
  product_of {a = a} {b} ia jb = more {s = zero} ia jb (none refl) (sym (R.add_zero (a ⊗ b)))

  pub product_in : {I J K : Car → Type 0} → IsIdeal R K → ((a b : Car) → I a → J b → K (a ⊗ b)) → {h : Car} → Product R I J h → K h
  product_in {K = K} k f (none e) = subst K (sym e) k.nil
  product_in {K = K} k f (more {a} {b} ia jb p e) = subst K (sym e) (k.sum (f a b ia jb) (product_in k f p))

  pub product-sum : {I J : Car → Type 0} {g h : Car} → Product R I J g → Product R I J h → Product R I J (g ⊕ h)
  product-sum {I} {J} {h = h} (none e) q = subst (Product R I J) (sym (ap (λ t. t ⊕ h) e ∙ laws.zero-add R h)) q
  product-sum {h = h} (more {a} {b} {s} ia jb p e) q = more ia jb (product-sum p q) (ap (λ t. t ⊕ h) e ∙ R.add_assoc (a ⊗ b) s h)

  pub product-times : {I J : Car → Type 0} (r : Car) → ((a : Car) → I a → I (r ⊗ a)) → {h : Car} → Product R I J h → Product R I J (r ⊗ h)
  product-times r f (none e) = none (ap (λ t. r ⊗ t) e ∙ laws.mul-zero R r)
  product-times r f (more {a} {b} {s} ia jb p e) =
      more (f a ia) jb (product-times r f p) (ap (λ t. r ⊗ t) e ∙ R.mul_add r (a ⊗ b) s ∙ ap (λ t. t ⊕ r ⊗ s) (sym (R.mul_assoc r a b)))

  pub product-ideal : {I J : Car → Type 0} → IsIdeal R I → IsIdeal R (Product R I J)
  product-ideal i = record { nil = none refl; sum = product-sum; times = λ r p. product-times r (λ a. i.times r) p }

  pub product-map : {I I' J J' : Car → Type 0} → ((a : Car) → I a → I' a) → ((b : Car) → J b → J' b) → {h : Car} → Product R I J h → Product R I' J' h
  product-map f g (none e) = none e
  product-map f g (more {a} {b} ia jb p e) = more (f a ia) (g b jb) (product-map f g p) e

  pub product-same : {I I' J J' : Car → Type 0} → SameIdeal R I I' → SameIdeal R J J' → SameIdeal R (Product R I J) (Product R I' J')
  product-same e e' h = (product-map (λ a. (e a).0) (λ b. (e' b).0), product-map (λ a. (e a).1) (λ b. (e' b).1))

  product_turn : {I J : Car → Type 0} {h : Car} → Product R I J h → Product R J I h
  product_turn (none e) = none e
  product_turn (more {a} {b} {s} ia jb p e) = more jb ia (product_turn p) (e ∙ ap (λ t. t ⊕ s) (R.mul_comm a b))

  pub product_comm : {I J : Car → Type 0} → SameIdeal R (Product R I J) (Product R J I)
  product_comm h = (product_turn, product_turn)

  -- The elements that k takes into an ideal are an ideal.
  pub taken_ideal : {T : Car → Type 0} (k : Car) → IsIdeal R T → IsIdeal R (λ x. T (x ⊗ k))
  taken_ideal {T} k t = record {
    nil = subst T (sym (laws.zero-mul R k)) t.nil;
    sum = λ {a} {b} x y. subst T (sym (laws.add-mul R a b k)) (t.sum x y);
    times = λ r {a} x. subst T (sym (R.mul_assoc r a k)) (t.times r x);
  }

  product-right : {I J K : Car → Type 0} → IsIdeal R I → {h : Car} → Product R (Product R I J) K h → Product R I (Product R J K) h
  product-right {I} {J} {K} i =
      product_in (product-ideal i)
      (λ x k px mk. product_in (taken_ideal k (product-ideal i)) (λ a b ia jb. subst (Product R I (Product R J K)) (sym (R.mul_assoc a b k)) (product_of ia (product_of jb mk))) px)

  pub product_assoc : {I J K : Car → Type 0} → IsIdeal R I → IsIdeal R J → IsIdeal R K → SameIdeal R (Product R (Product R I J) K) (Product R I (Product R J K))
  product_assoc {I} {J} {K} i j k h =
      (product-right i, λ p. product_turn (product-map (λ a x. x) (λ b. product_turn) (product-right k (product_turn (product-map (λ a x. x) (λ b. product_turn) p)))))

  pub whole-ideal : IsIdeal R (λ _. Unit)
  whole-ideal = record { nil = tt; sum = λ x y. tt; times = λ r x. tt }

  pub product-unit : {I : Car → Type 0} → IsIdeal R I → SameIdeal R (Product R (λ _. Unit) I) I
  product-unit {I} i h = (product_in i (λ a b _ ib. i.times a ib), λ ih. subst (Product R (λ _. Unit) I) (laws.one-mul R h) (product_of tt ih))

  module _ {X : Type 0} (f : X → Car → Type 0) where
    pub productof_ideal : (xs : List X) → Every (λ x. IsIdeal R (f x)) xs → IsIdeal R (ProductOf R f xs)
    productof_ideal [] _ = whole-ideal
    productof_ideal (x ∷ xs) (i, is) = product-ideal i

    pub productof_append : (xs ys : List X) → Every (λ x. IsIdeal R (f x)) xs → Every (λ x. IsIdeal R (f x)) ys
        → SameIdeal R (ProductOf R f (xs ++ ys)) (Product R (ProductOf R f xs) (ProductOf R f ys))
    productof_append [] ys _ js h = Iff.symm (product-unit (productof_ideal ys js) h)
    productof_append (x ∷ xs) ys (i, is) js h =
        Iff.trans (product-same (λ g. Iff.rfl) (productof_append xs ys is js) h) (Iff.symm (product_assoc i (productof_ideal xs is) (productof_ideal ys js) h))

    pub productof_swap : (x y : X) (xs : List X) → IsIdeal R (f x) → IsIdeal R (f y) → IsIdeal R (ProductOf R f xs)
        → SameIdeal R (ProductOf R f (x ∷ y ∷ xs)) (ProductOf R f (y ∷ x ∷ xs))
    productof_swap x y xs i j k h =
        Iff.trans (Iff.symm (product_assoc i j k h)) (Iff.trans (product-same product_comm (λ g. Iff.rfl) h) (product_assoc j i k h))

    pub productof_one : (x : X) → IsIdeal R (f x) → SameIdeal R (ProductOf R f (x ∷ [])) (f x)
    productof_one x i h = Iff.trans (product_comm h) (product-unit i h)

module _ {R : CommRing} (P : Poles R) where
  open R use {Car, zero, add as ◌⊕◌, mul as ◌⊗◌}

  infixl 60 ◌⊕◌
  infixl 70 ◌⊗◌
  -- a·g = b·h of each first factor gives it for the sum of the products.
  there-product : {I I' J : Car → Type 0} {a b : Car} → ((g : Car) → I g → (h : Car) × I' h × (a ⊗ g ≡ b ⊗ h)) → {g : Car} → Product R I J g
      → (h : Car) × Product R I' J h × (a ⊗ g ≡ b ⊗ h)
  there-product {a = a} {b} f (none e) = (zero, none refl, ap (λ t. a ⊗ t) e ∙ laws.mul-zero R a ∙ sym (laws.mul-zero R b))
  there-product {I} {I'} {J} {a} {b} f (more {a = x} {b = y} {s} {h = g} ix jy p e) = go (f x ix) (there-product f p)
    where
      go : (h : Car) × I' h × (a ⊗ x ≡ b ⊗ h) → (t : Car) × Product R I' J t × (a ⊗ s ≡ b ⊗ t) → (h : Car) × Product R I' J h × (a ⊗ g ≡ b ⊗ h)
      go (h, ih, q) (t, pt, q') = (
        h ⊗ y ⊕ t,
        more ih jy pt refl,
        ap (λ z. a ⊗ z) e ∙ R.mul_add a (x ⊗ y) s
            ∙ rw q' (sym (R.mul_add b (h ⊗ y) t ∙ ap (λ z. z ⊕ b ⊗ t) (sym (R.mul_assoc b h y) ∙ ap (λ z. z ⊗ y) (sym q) ∙ R.mul_assoc a x y))),
      )

  back-product : {I I' J : Car → Type 0} {a b : Car} → ((h : Car) → I' h → (g : Car) × I g × (a ⊗ g ≡ b ⊗ h)) → {h : Car} → Product R I' J h
      → (g : Car) × Product R I J g × (a ⊗ g ≡ b ⊗ h)
  back-product {I} {I'} {J} {a} {b} f {h} p = turn (there-product (λ h m. flip h (f h m)) p)
    where
      flip : (h : Car) → (g : Car) × I g × (a ⊗ g ≡ b ⊗ h) → (g : Car) × I g × (b ⊗ h ≡ a ⊗ g)
      flip h (g, m, q) = (g, m, sym q)

      turn : (g : Car) × Product R I J g × (b ⊗ h ≡ a ⊗ g) → (g : Car) × Product R I J g × (a ⊗ g ≡ b ⊗ h)
      turn (g, m, q) = (g, m, sym q)

  pub product_equivalent_left : {I I' J : Car → Type 0} → Equivalent R I I' → Equivalent R (Product R I J) (Product R I' J)
  product_equivalent_left e =
      record { a = e.a; b = e.b; a_nonzero = e.a_nonzero; b_nonzero = e.b_nonzero; there = λ g. there-product e.there; back = λ h. back-product e.back }

  product_equivalent_right : {I J J' : Car → Type 0} → Equivalent R J J' → Equivalent R (Product R I J) (Product R I J')
  product_equivalent_right e =
      equivalent_trans P (equivalent_same P (product_comm R)) (equivalent_trans P (product_equivalent_left e) (equivalent_same P (product_comm R)))

  pub product_equivalent : {I I' J J' : Car → Type 0} → Equivalent R I I' → Equivalent R J J' → Equivalent R (Product R I J) (Product R I' J')
  product_equivalent e e' = equivalent_trans P (product_equivalent_left e) (product_equivalent_right e')

  -- The product of two sums is the sum of the joined groups.
  pub productof_join : {X : Type 0} (f : X → Car → Type 0) {A B : Car → Type 0} (xs ys : List X) → Every (λ x. IsIdeal R (f x)) xs
      → Every (λ x. IsIdeal R (f x)) ys → Equivalent R A (ProductOf R f xs) → Equivalent R B (ProductOf R f ys)
      → Equivalent R (Product R A B) (ProductOf R f (xs ++ ys))
  productof_join f xs ys is js e e' = equivalent_trans P (product_equivalent e e') (equivalent_sym P (equivalent_same P (productof_append R f xs ys is js)))
