-- Rearrangements in a commutative ring that the theory of ideals uses.
--   move               a + b = c gives a = c − b
--   neg-second … neg-third-more    cancelling at a distance, rules of `ring`
--   ring               algebra's rule set for simp, with cancelling at a greater distance
use mathlib.Core.Path.{◌≡◌, sym, ◌∙◌, ap}
use Rattle.algebra.specs.Ring.{CommRing}
use Rattle.algebra.proofs.Laws as laws

module _ (R : CommRing) where
  open R use {Car, one, add as ◌⊕◌, mul as ◌⊗◌, neg as ⊖◌, add_assoc, add_zero, add_neg, mul_assoc}

  infixl 60 ◌⊕◌
  infixl 70 ◌⊗◌
  infix 80 ⊖◌
  pub move : {a b c : Car} → a ⊕ b ≡ c → a ≡ c ⊕ ⊖ b
  move {a} {b} {c} e = sym (add_zero a) ∙ ap (λ t. a ⊕ t) (sym (add_neg b)) ∙ sym (add_assoc a b (⊖ b)) ∙ ap (λ t. t ⊕ ⊖ b) e

  pub neg-second : (a b : Car) → ⊖ a ⊕ (b ⊕ a) ≡ b
  neg-second a b = laws.add_left_comm R (⊖ a) b a ∙ ap (λ t. b ⊕ t) (laws.neg-add R a) ∙ add_zero b

  pub neg-second-more : (a b c : Car) → ⊖ a ⊕ (b ⊕ (a ⊕ c)) ≡ b ⊕ c
  neg-second-more a b c = laws.add_left_comm R (⊖ a) b (a ⊕ c) ∙ ap (λ t. b ⊕ t) (laws.neg_add_cancel R a c)

  pub add-third : (a b c : Car) → a ⊕ (b ⊕ (c ⊕ ⊖ a)) ≡ b ⊕ c
  add-third a b c = ap (λ t. a ⊕ t) (sym (add_assoc b c (⊖ a))) ∙ laws.neg_far R a (b ⊕ c)

  pub neg-third : (a b c : Car) → ⊖ a ⊕ (b ⊕ (c ⊕ a)) ≡ b ⊕ c
  neg-third a b c = ap (λ t. ⊖ a ⊕ t) (sym (add_assoc b c a)) ∙ neg-second a (b ⊕ c)

  pub add-third-more : (a b c d : Car) → a ⊕ (b ⊕ (c ⊕ (⊖ a ⊕ d))) ≡ b ⊕ (c ⊕ d)
  add-third-more a b c d = ap (λ t. a ⊕ t) (sym (add_assoc b c (⊖ a ⊕ d))) ∙ laws.neg-add_far R a (b ⊕ c) d ∙ add_assoc b c d

  pub neg-third-more : (a b c d : Car) → ⊖ a ⊕ (b ⊕ (c ⊕ (a ⊕ d))) ≡ b ⊕ (c ⊕ d)
  neg-third-more a b c d = ap (λ t. ⊖ a ⊕ t) (sym (add_assoc b c (a ⊕ d))) ∙ neg-second-more a (b ⊕ c) d ∙ add_assoc b c d

pub ruleset ring = (laws.ring, neg-second, neg-second-more, add-third, neg-third, add-third-more, neg-third-more)
