-- What the functions on products of spans require and ensure. Where a contract speaks of the ring it does so for every setting.
--   ProductAsked, Multiplied     product: the span is the product ideal
--   PutAsked, ProductsPut        insert_products: the span afterwards is that of the triple and the products
use Rattle.std.specs.Prelude.{List, ℕ, ◌≤◌}
use Rattle.prime.specs.Prime.{Prime}
use Rattle.ideal.specs.Ideal.{SameIdeal, Product}
use Rattle.ideal.proofs.Span.{Span}
use Rattle.vector.specs.Vector.{row, element}
use Rattle.terms.specs.Contract.{Rows, RowsOf}
use Rattle.triple.specs.Setting.{Setting, ring, poles_of, Ready}
use Rattle.triple.specs.Triple.{Triple, Full, elements, Spanned, listed}
use Rattle.span.specs.Contract.{Small}

pub record ProductAsked (p : ℕ) (y3 : List ℕ) (t₁ : List (List ℕ)) (d₁ : List ℕ) (t₂ : List (List ℕ)) (d₂ : List ℕ) : Type 0 where
  pub ready : Ready p y3
  pub full₁ : Full p t₁ d₁
  pub small₁ : Small d₁
  pub full₂ : Full p t₂ d₂
  pub small₂ : Small d₂

pub record Multiplied (p : ℕ) (y3 : List ℕ) (t₁ t₂ t : List (List ℕ)) (d : List ℕ) : Type 0 where
  pub full : Full p t d
  pub same :
      (R : Ready p y3) →
      SameIdeal (ring R.setting) (Spanned R.setting t) (Product (ring R.setting) (Spanned R.setting t₁) (Spanned R.setting t₂))

pub record PutAsked (p : ℕ) (t₁ : List (List ℕ)) (d₁ : List ℕ) (ys : List (List ℕ)) (top : ℕ) (t : List (List ℕ)) (d : List ℕ) : Type 0 where
  pub prime : Prime p
  pub full : Full p t₁ d₁
  pub small : Small d₁
  pub rows : Rows p ys top
  pub low : top ≤ 9
  pub triple : Triple p t d

pub record ProductsPut (p : ℕ) (t₁ ys t t' : List (List ℕ)) (d' : List ℕ) : Type 0 where
  pub triple : Triple p t' d'
  pub same :
      (S : Setting p) (g : (ring S).Car) → RowsOf p S.curve ys g →
      SameIdeal (ring S) (Spanned S t') (Span (poles_of S) (listed (λ i. (ring S).mul (element p S.curve (row t₁ i)) g) 3 (elements S t)))
