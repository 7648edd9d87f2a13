-- An invertible ideal times an intersection.
--   invertible_meet        what is in I·X and in I·Y is in I·(X ∩ Y), for an invertible ideal I
-- With I·I' = (e) and h in both: for b in I' is h·b = e·z with z in X, and h·b = e·z' with z' in Y. R is a domain, so z = z' is in X ∩ Y.
-- For a in I is then (a·b)·h = e·(a·z), and a·z is in I·(X ∩ Y).
-- e is a sum of products a·b, so e·h is e times an element of I·(X ∩ Y) (invertible-member), and that element is h.
use mathlib.Core.Path.{sym, ◌∙◌, ap, subst}
use Rattle.algebra.specs.Ring.{CommRing}
use Rattle.algebra.proofs.Laws as laws
use Rattle.ideal.specs.Ideal.{IsIdeal, Product}
use Rattle.ideal.specs.Poles.{Poles}
use Rattle.ideal.specs.Parts.{Intersection}
use Rattle.ideal.specs.Invertible.{InvertibleIdeal}
use Rattle.ideal.proofs.Degree.{cancel}
use Rattle.ideal.proofs.Product.{product_of, product-ideal}
use Rattle.ideal.proofs.Invertible.{Scaled, invertible-member, product_scaled}
use Rattle.ideal.proofs.Rules.{ring}

module _ {R : CommRing} (P : Poles R) where
  open R use {Car, mul as ◌⊗◌}

  infixl 70 ◌⊗◌
  pub invertible_meet : {I X Y : Car → Type 0} → InvertibleIdeal R I → IsIdeal R X → IsIdeal R Y → (h : Car) → Product R I X h → Product R I Y h
      → Product R I (Intersection R X Y) h
  invertible_meet {I} {X} {Y} v x y h p p' =
      invertible-member P v (product-ideal R v.ideal) (λ a b ia mb. at a b ia (product_scaled P v x mb p) (product_scaled P v y mb p'))
    where
      at : (a b : Car) → I a → Scaled R v.e X (h ⊗ b) → Scaled R v.e Y (h ⊗ b) → Scaled R v.e (Product R I (Intersection R X Y)) (a ⊗ b ⊗ h)
      at a b ia (z, mz, q) (z', mz', q') = (
        a ⊗ z,
        product_of R ia (mz, subst Y (cancel P v.nonzero (sym q' ∙ q)) mz'),
        (simp ring) ∙ ap (λ t. a ⊗ t) q ∙ laws.mul_left_comm R a v.e z,
      )
