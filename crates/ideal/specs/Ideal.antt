-- Ideals of a commutative ring R, as predicates on its elements. Two are equal if they have the same elements.
--   IsIdeal I          I is an ideal
--   Generated gs       the ideal that the elements of the list gs generate
--   Product I J        the product ideal: all finite sums of products of one element from each
--   ProductOf f xs     the product of the ideals f x, for x of the list xs; the whole ring for none
--   Multiple f h       h is a multiple of f
--   Colon f J          every g for which g·h is a multiple of f for each h in J
--   SameIdeal I J      I and J have the same elements
--   Equivalent I J     a·I = b·J for some nonzero a and b of R
use Rattle.std.specs.Prelude.{◌≡◌, ◌↔◌, List, [], ◌∷◌}
use Rattle.algebra.specs.Ring.{CommRing}

module _ (R : CommRing) where
  open R use {Car, zero, add as ◌⊕◌, mul as ◌⊗◌}

  infixl 60 ◌⊕◌
  infixl 70 ◌⊗◌
  pub record IsIdeal (I : Car → Type 0) : Type 0 where
    pub nil : I zero
    pub sum : {a b : Car} → I a → I b → I (a ⊕ b)
    pub times : (r : Car) {a : Car} → I a → I (r ⊗ a)

  -- Document 01: "the ideal that its polynomials generate in the ring": r₁·g₁ + … + rₙ·gₙ.
  abbrev pub Generated : List Car → Car → Type 0
  Generated [] h = h ≡ zero
  Generated (g ∷ gs) h = (r s : Car) × Generated gs s × (h ≡ r ⊗ g ⊕ s)

  -- Document 01, "What a sum is": "all finite sums of products of one element from each".
  pub data Product (I J : Car → Type 0) : Car → Type 0 where
    none : {h : Car} → h ≡ zero → Product I J h
    more : {a b s h : Car} → I a → J b → Product I J s → h ≡ a ⊗ b ⊕ s → Product I J h

  abbrev pub ProductOf : {X : Type 0} → (X → Car → Type 0) → List X → Car → Type 0
  ProductOf f [] = λ _. Unit
  ProductOf f (x ∷ xs) = Product (f x) (ProductOf f xs)

  abbrev pub Multiple : Car → Car → Type 0
  Multiple f h = (q : Car) × (h ≡ f ⊗ q)

  -- Document 01, "What a sum is": "every g for which g·h is a multiple of f for each h in J".
  abbrev pub Colon : Car → (Car → Type 0) → Car → Type 0
  Colon f J g = (h : Car) → J h → Multiple f (g ⊗ h)

  abbrev pub SameIdeal : (Car → Type 0) → (Car → Type 0) → Type 0
  SameIdeal I J = (g : Car) → I g ↔ J g

  -- Request 2026-14: "nonzero polynomials a and b exist in the ring for which a times the first ideal equals b times the second".
  pub record Equivalent (I J : Car → Type 0) : Type 0 where
    pub a : Car
    pub b : Car
    pub a_nonzero : ¬ (a ≡ zero)
    pub b_nonzero : ¬ (b ≡ zero)
    pub there : (g : Car) → I g → (h : Car) × J h × (a ⊗ g ≡ b ⊗ h)
    pub back : (h : Car) → J h → (g : Car) × I g × (a ⊗ g ≡ b ⊗ h)
