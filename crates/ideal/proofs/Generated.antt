-- The ideal that a list of elements generates.
--   Extend I g             r·g + s, s in I
--   extend_ideal           … is an ideal
--   generated_ideal        Generated gs is an ideal
--   generated_each         it holds each element of gs
--   generated_first, generated_rest    … and what the rest of gs generates
--   generated_in           an ideal that holds each element of gs holds it
--   products gs hs         the products of one element from each list
--   products-each          they are in I·J if gs is in I and hs in J
--   products_source        what holds of each of them holds of each g·h
--   generated_product      they generate the product of the ideals of gs and hs
use mathlib.Core.Path.{◌≡◌, refl, sym, ◌∙◌, ap, subst}
use mathlib.Core.List.{List, [], ◌∷◌, ◌++◌, map}
use Rattle.algebra.specs.Ring.{CommRing}
use Rattle.algebra.proofs.Laws as laws
use Rattle.ideal.specs.Ideal.{IsIdeal, Generated, Product, SameIdeal}
use Rattle.ideal.proofs.Every.{Every, every_map, every_append, every_left, every_right, every_image, every_source}
use Rattle.ideal.proofs.Product.{product_of, product_in, product-ideal, taken_ideal}
use Rattle.ideal.proofs.Rules.{ring}

module _ (R : CommRing) where
  open R use {Car, zero, one, add as ◌⊕◌, mul as ◌⊗◌}

  infixl 60 ◌⊕◌
  infixl 70 ◌⊗◌
  abbrev pub Extend : (Car → Type 0) → Car → Car → Type 0
  Extend I g h = (r s : Car) × I s × (h ≡ r ⊗ g ⊕ s)

  pub extend_ideal : {I : Car → Type 0} (g : Car) → IsIdeal R I → IsIdeal R (Extend I g)
  extend_ideal {I} g i = record {
    nil = (zero, zero, i.nil, simp ring);
    sum = λ {a = x} {b = y} mx my. add x y mx my;
    times = λ c {a = x} mx. times c x mx;
  }
    where
      add : (x y : Car) → Extend I g x → Extend I g y → Extend I g (x ⊕ y)
      add x y (r, s, m, e) (r', s', m', e') = (r ⊕ r', s ⊕ s', i.sum m m', rw (e, e') (simp ring))

      times : (c x : Car) → Extend I g x → Extend I g (c ⊗ x)
      times c x (r, s, m, e) = (c ⊗ r, c ⊗ s, i.times c m, rw e (simp ring))

  pub generated_ideal : (gs : List Car) → IsIdeal R (Generated R gs)
  generated_ideal [] = record {
    nil = refl;
    sum = λ {a} {b} x y. ap (λ t. t ⊕ b) x ∙ laws.zero-add R b ∙ y;
    times = λ r x. ap (λ t. r ⊗ t) x ∙ laws.mul-zero R r;
  }
  generated_ideal (g ∷ gs) = extend_ideal g (generated_ideal gs)

  pub generated_first : (g : Car) (gs : List Car) → Generated R (g ∷ gs) g
  generated_first g gs = (one, zero, (generated_ideal gs).nil, simp ring)

  pub generated_rest : (g : Car) (gs : List Car) (h : Car) → Generated R gs h → Generated R (g ∷ gs) h
  generated_rest g gs h m = (zero, h, m, simp ring)

  pub generated_each : (gs : List Car) → Every (Generated R gs) gs
  generated_each [] = tt
  generated_each (g ∷ gs) = (generated_first g gs, every_map (generated_rest g gs) gs (generated_each gs))

  pub generated_in : {I : Car → Type 0} → IsIdeal R I → (gs : List Car) → Every I gs → (h : Car) → Generated R gs h → I h
  generated_in {I} i [] _ h e = subst I (sym e) i.nil
  generated_in {I} i (g ∷ gs) (m, ms) h (r, s, ms', e) = subst I (sym e) (i.sum (i.times r m) (generated_in i gs ms s ms'))

  abbrev pub products : List Car → List Car → List Car
  products [] hs = []
  products (g ∷ gs) hs = map (λ h. g ⊗ h) hs ++ products gs hs

  pub products-each : (I J : Car → Type 0) (gs hs : List Car) → Every I gs → Every J hs → Every (Product R I J) (products gs hs)
  products-each I J [] hs _ ns = tt
  products-each I J (g ∷ gs) hs (m, ms) ns =
      every_append (Product R I J) (map (λ h. g ⊗ h) hs) (products gs hs)
      (every_image (Product R I J) (λ h. g ⊗ h) hs (every_map (λ h n. product_of R m n) hs ns)) (products-each I J gs hs ms ns)

  pub products_source : (T : Car → Type 0) (gs hs : List Car) → Every T (products gs hs) → Every (λ g. Every (λ h. T (g ⊗ h)) hs) gs
  products_source T [] hs _ = tt
  products_source T (g ∷ gs) hs ms =
      (every_source T (λ h. g ⊗ h) hs (every_left T (map (λ h. g ⊗ h) hs) (products gs hs) ms), products_source T gs hs (every_right T (map (λ h. g ⊗ h) hs) (products gs hs) ms))

  pub generated_product : (gs hs : List Car) → SameIdeal R (Product R (Generated R gs) (Generated R hs)) (Generated R (products gs hs))
  generated_product gs hs g =
      (product_in R t each, generated_in (product-ideal R (generated_ideal gs)) (products gs hs) (products-each (Generated R gs) (Generated R hs) gs hs (generated_each gs) (generated_each hs)) g)
    where
      t : IsIdeal R (Generated R (products gs hs))
      t = generated_ideal (products gs hs)

      -- g·b for g of the list gs, then a·b for a in its ideal
      row : (b : Car) → Generated R hs b → Every (λ g. Every (λ h. Generated R (products gs hs) (g ⊗ h)) hs) gs
          → Every (λ g. Generated R (products gs hs) (g ⊗ b)) gs
      row b mb =
          every_map
          (λ g ms. subst (Generated R (products gs hs)) (R.mul_comm b g)
          (generated_in (taken_ideal R g t) hs (every_map (λ h m. subst (Generated R (products gs hs)) (R.mul_comm g h) m) hs ms) b mb)) gs

      each : (a b : Car) → Generated R gs a → Generated R hs b → Generated R (products gs hs) (a ⊗ b)
      each a b ma mb =
          generated_in (taken_ideal R b t) gs (row b mb (products_source (Generated R (products gs hs)) gs hs (generated_each (products gs hs)))) a ma
