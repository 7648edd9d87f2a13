-- Sums by computation. A certificate of a sum has α and β that are not zero, and says how α times each product of a polynomial of a and one
-- of b is β times a combination of the polynomials of w, and how β times each polynomial of w is α times a combination of those products. So
-- the product of the ideals of a and b is equivalent to the ideal of w.
--   Matched R α β J g      α·g = β·h for some h of J; matched_ideal: the set of these g is an ideal
--   equivalent_generated   two ideals are equivalent if each generator of one is matched in the other
--   products_xy gs hs      the products of one expression from each list; values-products
--   Link                   the certificate
--   link c a b w κs k      the test; sum_sound: w is the sum of a and b
--   polynomials-of κ w     the polynomials of a record in bytes as expressions; ideal-values: they generate its ideal
--   product-values         the products of the polynomials of two records generate the product of their ideals
use mathlib.Core.Path.{◌≡◌, refl, sym, ◌∙◌, ap, ap₂, subst}
use mathlib.Core.Bool.{Bool, true}
use mathlib.Core.List.{List, [], ◌∷◌, ◌++◌, map}
use Prim.Native.Nat.{ℕ, ◌<◌}
use native.Mathlib.Omega.{arith}
use lib.Dec.{T}
use Rattle.algebra.specs.Ring.{CommRing}
use Rattle.algebra.proofs.Laws as L
use Rattle.algebra.proofs.Norm.{E}
use Rattle.algebra.proofs.Test.{both, both_left, both_right}
use Rattle.algebra.proofs.Sound.{head, tail}
use Rattle.algebra.proofs.Solve.{◌⊠◌, combine}
use Rattle.ideal.specs.Ideal.{IsIdeal, Generated, Product, SameIdeal, Equivalent}
use Rattle.ideal.proofs.Same.{same_sym, same_trans}
use Rattle.ideal.proofs.Every.{Every}
use Rattle.ideal.proofs.Product.{product-same}
use Rattle.ideal.proofs.Generated.{generated_ideal, generated_in, products, generated_product}
use Rattle.ideal.proofs.Class.{equivalent_same, equivalent_trans}
use Rattle.curve.specs.Curve.{Coordinate}
use Rattle.divisor.specs.Kind.{Kind}
use Rattle.record.specs.Curve.{modulus, coefficient_number, equation, AcceptedCurve, accepted_prime}
use Rattle.record.specs.Divisor.{OfKind}
use Rattle.record.proofs.Accepted.{ideal_reads}
use Rattle.calls.specs.Class.{Ring, Record, Ideal, poles_on, IsSum}
use Rattle.calls.proofs.Class.{class-reduced}
use Rattle.worked.proofs.Vanish.{coefficients-of, at_xy, agree, agree_sound}
use Rattle.worked.proofs.Element.{nonzero, nonzero_sound}
use Rattle.worked.proofs.Basis.{polynomials_xy, values, values-polynomials, generated_combine}
use Rattle.worked.proofs.Accepted.{numbers_of}

module _ (R : CommRing) where
  open R use {Car, zero, add as ◌⊕◌, mul as ◌⊗◌}

  infixl 60 ◌⊕◌
  infixl 70 ◌⊗◌
  abbrev pub Matched : Car → Car → (Car → Type 0) → Car → Type 0
  Matched α β J g = (h : Car) × J h × (α ⊗ g ≡ β ⊗ h)

  pub matched_ideal : (α β : Car) {J : Car → Type 0} → IsIdeal R J → IsIdeal R (Matched α β J)
  matched_ideal α β {J} j = record {
    nil = (zero, j.nil, L.mul-zero R α ∙ sym (L.mul-zero R β));
    sum = λ {a} {b} m m'. add a b m m';
    times = λ r {a} m. times r a m;
  }
    where
      add : (a b : Car) → Matched α β J a → Matched α β J b → Matched α β J (a ⊕ b)
      add a b (h, m, e) (h', m', e') = (h ⊕ h', j.sum m m', R.mul_add α a b ∙ ap₂ ◌⊕◌ e e' ∙ sym (R.mul_add β h h'))

      times : (r a : Car) → Matched α β J a → Matched α β J (r ⊗ a)
      times r a (h, m, e) = (r ⊗ h, j.times r m, L.mul_left_comm R α r a ∙ ap (λ t. r ⊗ t) e ∙ L.mul_left_comm R r β h)

  pub equivalent_generated : (α β : Car) → ¬ (α ≡ zero) → ¬ (β ≡ zero) → (gs hs : List Car)
      → Every (Matched α β (Generated R hs)) gs → Every (Matched β α (Generated R gs)) hs
      → Equivalent R (Generated R gs) (Generated R hs)
  equivalent_generated α β nα nβ gs hs there back = record {
    a = α;
    b = β;
    a_nonzero = nα;
    b_nonzero = nβ;
    there = generated_in R (matched_ideal α β (generated_ideal R hs)) gs there;
    back = λ h m. turn h (generated_in R (matched_ideal β α (generated_ideal R gs)) hs back h m);
  }
    where
      turn : (h : Car) → Matched β α (Generated R gs) h → (g : Car) × Generated R gs g × (α ⊗ g ≡ β ⊗ h)
      turn h (g, m, e) = (g, m, sym e)

abbrev pub products_xy : List E → List E → List E
products_xy [] hs = []
products_xy (g ∷ gs) hs = map (λ h. g ⊠ h) hs ++ products_xy gs hs

-- α·g = β·(a combination of hs) for each g of gs
abbrev matched : ℕ → (ℕ → ℕ) → E → E → List E → List E → List (List E) → Bool
matched p n α β [] hs qss = true
matched p n α β (g ∷ gs) hs qss = both (agree p n (α ⊠ g) (β ⊠ combine hs (head [] qss))) (matched p n α β gs hs (tail qss))

pub record Link : Type 0 where
  pub α : E
  pub β : E
  pub there : List (List E)
  pub back : List (List E)

abbrev linked : ℕ → (ℕ → ℕ) → List E → List E → Link → Bool
linked p n gs ws k =
    both (both (nonzero p n k.α) (nonzero p n k.β))
    (both (matched p n k.α k.β gs ws k.there) (matched p n k.β k.α ws gs k.back))

-- the polynomials of the record w of kind κ
abbrev pub polynomials-of : Kind → List ℕ → List E
polynomials-of κ w = polynomials_xy κ (numbers_of w)

abbrev pub link : (c a b w : List ℕ) → Kind → Kind → Kind → Link → Bool
link c a b w κa κb κw k =
    linked (modulus c) (coefficient_number c) (products_xy (polynomials-of κa a) (polynomials-of κb b)) (polynomials-of κw w) k

module _ (p : ℕ) (n : ℕ → ℕ) where
  abbrev R : CommRing
  R = Coordinate (coefficients-of p n)

  values_append : (es fs : List E) → values p n (es ++ fs) ≡ values p n es ++ values p n fs
  values_append [] fs = refl
  values_append (e ∷ es) fs = ap (λ us. at_xy p n e ∷ us) (values_append es fs)

  values-map : (g : E) (hs : List E) → values p n (map (λ h. g ⊠ h) hs) ≡ map (λ h. R.mul (at_xy p n g) h) (values p n hs)
  values-map g [] = refl
  values-map g (h ∷ hs) = ap (λ us. R.mul (at_xy p n g) (at_xy p n h) ∷ us) (values-map g hs)

  pub values-products : (gs hs : List E) → values p n (products_xy gs hs) ≡ products R (values p n gs) (values p n hs)
  values-products [] hs = refl
  values-products (g ∷ gs) hs = values_append (map (λ h. g ⊠ h) hs) (products_xy gs hs) ∙ ap₂ ◌++◌ (values-map g hs) (values-products gs hs)

  matched_sound : (α β : E) (gs hs : List E) (qss : List (List E)) → T (matched p n α β gs hs qss)
      → Every (Matched R (at_xy p n α) (at_xy p n β) (Generated R (values p n hs))) (values p n gs)
  matched_sound α β [] hs qss t = tt
  matched_sound α β (g ∷ gs) hs qss t = (
    (
      at_xy p n (combine hs (head [] qss)),
      generated_combine p n hs (head [] qss),
      agree_sound p n (α ⊠ g) (β ⊠ combine hs (head [] qss)) (both_left (agree p n (α ⊠ g) (β ⊠ combine hs (head [] qss))) _ t),
    ),
    matched_sound α β gs hs (tail qss) (both_right (agree p n (α ⊠ g) (β ⊠ combine hs (head [] qss))) _ t),
  )

  linked_sound : 0 < p → (gs ws : List E) (k : Link) → T (linked p n gs ws k)
      → Equivalent R (Generated R (values p n gs)) (Generated R (values p n ws))
  linked_sound pos gs ws k t =
      let u = both_left (both (nonzero p n k.α) (nonzero p n k.β)) _ t in
      let v = both_right (both (nonzero p n k.α) (nonzero p n k.β)) _ t in
      equivalent_generated R (at_xy p n k.α) (at_xy p n k.β)
      (nonzero_sound p n pos k.α (both_left (nonzero p n k.α) _ u)) (nonzero_sound p n pos k.β (both_right (nonzero p n k.α) _ u))
      (values p n gs) (values p n ws)
      (matched_sound k.α k.β gs ws k.there (both_left (matched p n k.α k.β gs ws k.there) _ v))
      (matched_sound k.β k.α ws gs k.back (both_right (matched p n k.α k.β gs ws k.there) _ v))

module _ (c : List ℕ) where
  -- the ideal of a record is what its polynomials generate, as expressions
  pub ideal-values : (κ : Kind) (w : List ℕ) → OfKind w κ
      → SameIdeal (Ring c) (Ideal c w) (Generated (Ring c) (values (modulus c) (coefficient_number c) (polynomials-of κ w)))
  ideal-values κ w e =
      subst (λ gs. SameIdeal (Ring c) (Ideal c w) (Generated (Ring c) gs))
      (sym (values-polynomials (modulus c) (coefficient_number c) κ (numbers_of w)))
      (ideal_reads (modulus c) (equation c) κ w e)

  -- the product of the ideals of two records is what the products of their polynomials generate
  pub product-values : (κa κb : Kind) (a b : List ℕ) → OfKind a κa → OfKind b κb
      → SameIdeal (Ring c) (Product (Ring c) (Ideal c a) (Ideal c b))
      (Generated (Ring c) (values (modulus c) (coefficient_number c) (products_xy (polynomials-of κa a) (polynomials-of κb b))))
  product-values κa κb a b ea eb =
      subst (λ us. SameIdeal (Ring c) (Product (Ring c) (Ideal c a) (Ideal c b)) (Generated (Ring c) us))
      (sym (values-products (modulus c) (coefficient_number c) (polynomials-of κa a) (polynomials-of κb b)))
      (same_trans (Ring c) (product-same (Ring c) (ideal-values κa a ea) (ideal-values κb b eb))
      (generated_product (Ring c) (values (modulus c) (coefficient_number c) (polynomials-of κa a)) (values (modulus c) (coefficient_number c) (polynomials-of κb b))))

  module _ (A : AcceptedCurve c) (a b w : List ℕ) (κa κb κw : Kind) (ea : OfKind a κa) (eb : OfKind b κb) (ew : OfKind w κw) where
    pub sum_sound : Record c w → (k : Link) → T (link c a b w κa κb κw k) → IsSum c a b w
    sum_sound r k t =
        class-reduced c A w r
        (equivalent_trans (poles_on c A) (equivalent_same (poles_on c A) (product-values κa κb a b ea eb))
        (equivalent_trans (poles_on c A)
        (linked_sound (modulus c) (coefficient_number c) (omega (arith, (accepted_prime c A).two_le))
        (products_xy (polynomials-of κa a) (polynomials-of κb b)) (polynomials-of κw w) k t)
        (equivalent_same (poles_on c A) (same_sym (Ring c) (ideal-values κw w ew)))))
