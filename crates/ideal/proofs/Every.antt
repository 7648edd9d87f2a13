-- What holds of each element of a list.
--   Every Q xs         Q holds of each element of xs
--   every_map          … then so does what follows from Q
--   every_append       … of both lists, then of one after the other
--   every_left, every_right    … and back
--   every_image, every_source  Q of each φ x is Q of each element of map φ xs
--   all f xs, all_every        the test f passes at each element of xs
use mathlib.Core.Bool.{Bool, true}
use mathlib.Core.List.{List, [], ◌∷◌, ◌++◌, map}
use lib.Dec.{T}
use Rattle.algebra.proofs.Test.{both, both_left, both_right}

abbrev pub Every : {X : Type 0} → (X → Type 0) → List X → Type 0
Every Q [] = Unit
Every Q (x ∷ xs) = Q x × Every Q xs

module _ {X : Type 0} where
  pub every_map : {Q Q' : X → Type 0} → ((x : X) → Q x → Q' x) → (xs : List X) → Every Q xs → Every Q' xs
  every_map f [] _ = tt
  every_map f (x ∷ xs) (q, qs) = (f x q, every_map f xs qs)

  pub every_append : (Q : X → Type 0) (xs ys : List X) → Every Q xs → Every Q ys → Every Q (xs ++ ys)
  every_append Q [] ys _ rs = rs
  every_append Q (x ∷ xs) ys (q, qs) rs = (q, every_append Q xs ys qs rs)

  pub every_left : (Q : X → Type 0) (xs ys : List X) → Every Q (xs ++ ys) → Every Q xs
  every_left Q [] ys _ = tt
  every_left Q (x ∷ xs) ys (q, qs) = (q, every_left Q xs ys qs)

  pub every_right : (Q : X → Type 0) (xs ys : List X) → Every Q (xs ++ ys) → Every Q ys
  every_right Q [] ys qs = qs
  every_right Q (x ∷ xs) ys (q, qs) = every_right Q xs ys qs

  pub every_image : {Y : Type 0} (Q : Y → Type 0) (φ : X → Y) (xs : List X) → Every (λ x. Q (φ x)) xs → Every Q (map φ xs)
  every_image Q φ [] _ = tt
  every_image Q φ (x ∷ xs) (q, qs) = (q, every_image Q φ xs qs)

  pub every_source : {Y : Type 0} (Q : Y → Type 0) (φ : X → Y) (xs : List X) → Every Q (map φ xs) → Every (λ x. Q (φ x)) xs
  every_source Q φ [] _ = tt
  every_source Q φ (x ∷ xs) (q, qs) = (q, every_source Q φ xs qs)

  abbrev pub all : (X → Bool) → List X → Bool
  all f [] = true
  all f (x ∷ xs) = both (f x) (all f xs)

  pub all_every : (f : X → Bool) (xs : List X) → T (all f xs) → Every (λ x. T (f x)) xs
  all_every f [] t = tt
  all_every f (x ∷ xs) t = (both_left (f x) (all f xs) t, all_every f xs (both_right (f x) (all f xs) t))
