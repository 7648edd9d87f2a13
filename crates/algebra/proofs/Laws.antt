-- Laws that follow from those of CommRing, for the proofs below the solver and for one-line steps of the theory.
--   zero-add, neg-add, one-mul, add-mul     the other-sided laws
--   mul-zero, zero-mul, mul-neg, neg-mul    products with zero and with negatives
--   neg-neg, neg-zero, neg_sum, neg_unique  negatives
--   add_left_comm, mul_left_comm, swap_add  rearrangements
--   cancel_left                             a ⊕ b ≡ a ⊕ c gives b ≡ c
--   sub-zero→eq, eq→sub-zero                a ⊕ ⊖ b ≡ 0 is a ≡ b
--   add_neg_cancel … neg_far                opposite terms side by side, and one term apart
--   plus_comm … times-plus                  the laws of CommRing under names that simp takes
--   sums               rule set for simp: sums and negatives into one order, opposite terms cancelled
--   ring               rule set for simp: products multiplied out too
use mathlib.Core.Path.{◌≡◌, sym, ◌∙◌}
use Rattle.algebra.specs.Ring.{CommRing}

module _ (R : CommRing) where
  open R use {Car, zero, one, add as ◌⊕◌, mul as ◌⊗◌, neg as ⊖◌, add_comm, add_assoc, add_zero, add_neg, mul_comm, mul_assoc, mul_one, mul_add}

  infixl 60 ◌⊕◌
  infixl 70 ◌⊗◌
  infix 80 ⊖◌
  pub zero-add : (a : Car) → zero ⊕ a ≡ a
  zero-add a = add_comm zero a ∙ add_zero a

  pub neg-add : (a : Car) → ⊖ a ⊕ a ≡ zero
  neg-add a = add_comm (⊖ a) a ∙ add_neg a

  pub one-mul : (a : Car) → one ⊗ a ≡ a
  one-mul a = mul_comm one a ∙ mul_one a

  pub add-mul : (a b c : Car) → (a ⊕ b) ⊗ c ≡ a ⊗ c ⊕ b ⊗ c
  add-mul a b c = cc (mul_comm (a ⊕ b) c, mul_add c a b, mul_comm c a, mul_comm c b)

  pub add_left_comm : (a b c : Car) → a ⊕ (b ⊕ c) ≡ b ⊕ (a ⊕ c)
  add_left_comm a b c = cc (add_assoc a b c, add_comm a b, add_assoc b a c)

  pub mul_left_comm : (a b c : Car) → a ⊗ (b ⊗ c) ≡ b ⊗ (a ⊗ c)
  mul_left_comm a b c = cc (mul_assoc a b c, mul_comm a b, mul_assoc b a c)

  pub swap_add : (a b c d : Car) → (a ⊕ b) ⊕ (c ⊕ d) ≡ (a ⊕ c) ⊕ (b ⊕ d)
  swap_add a b c d = simp (add_assoc, add_left_comm b c d)

  pub cancel_left : (a b c : Car) → a ⊕ b ≡ a ⊕ c → b ≡ c
  cancel_left a b c e =
      cc (e, zero-add b, zero-add c, neg-add a, add_assoc (⊖ a) a b, add_assoc (⊖ a) a c)

  pub neg_unique : (a b : Car) → a ⊕ b ≡ zero → b ≡ ⊖ a
  neg_unique a b e = cancel_left a b (⊖ a) (e ∙ sym (add_neg a))

  pub neg-neg : (a : Car) → ⊖ (⊖ a) ≡ a
  neg-neg a = sym (neg_unique (⊖ a) a (neg-add a))

  pub neg-zero : ⊖ zero ≡ zero
  neg-zero = sym (neg_unique zero zero (add_zero zero))

  pub neg_sum : (a b : Car) → ⊖ (a ⊕ b) ≡ ⊖ a ⊕ ⊖ b
  neg_sum a b =
      sym (neg_unique (a ⊕ b) (⊖ a ⊕ ⊖ b) (cc (swap_add a b (⊖ a) (⊖ b), add_neg a, add_neg b, add_zero zero)))

  pub mul-zero : (a : Car) → a ⊗ zero ≡ zero
  mul-zero a =
      cancel_left (a ⊗ zero) (a ⊗ zero) zero
      (cc (mul_add a zero zero, add_zero zero, add_zero (a ⊗ zero)))

  pub zero-mul : (a : Car) → zero ⊗ a ≡ zero
  zero-mul a = mul_comm zero a ∙ mul-zero a

  pub mul-neg : (a b : Car) → a ⊗ (⊖ b) ≡ ⊖ (a ⊗ b)
  mul-neg a b = neg_unique (a ⊗ b) (a ⊗ (⊖ b)) (cc (mul_add a b (⊖ b), add_neg b, mul-zero a))

  pub neg-mul : (a b : Car) → (⊖ a) ⊗ b ≡ ⊖ (a ⊗ b)
  neg-mul a b = cc (mul_comm (⊖ a) b, mul-neg b a, mul_comm b a)

  pub sub-zero→eq : (a b : Car) → a ⊕ ⊖ b ≡ zero → a ≡ b
  sub-zero→eq a b e = cancel_left (⊖ b) a b (cc (e, add_comm a (⊖ b), neg-add b))

  pub eq→sub-zero : (a b : Car) → a ≡ b → a ⊕ ⊖ b ≡ zero
  eq→sub-zero a b e = cc (e, add_neg b)

  pub add_neg_cancel : (a b : Car) → a ⊕ (⊖ a ⊕ b) ≡ b
  add_neg_cancel a b = cc (add_assoc a (⊖ a) b, add_neg a, zero-add b)

  pub neg_add_cancel : (a b : Car) → ⊖ a ⊕ (a ⊕ b) ≡ b
  neg_add_cancel a b = cc (add_assoc (⊖ a) a b, neg-add a, zero-add b)

  pub neg-add_far : (a b c : Car) → a ⊕ (b ⊕ (⊖ a ⊕ c)) ≡ b ⊕ c
  neg-add_far a b c = cc (add_left_comm a b (⊖ a ⊕ c), add_neg_cancel a c)

  pub neg_far : (a b : Car) → a ⊕ (b ⊕ ⊖ a) ≡ b
  neg_far a b = cc (add_left_comm a b (⊖ a), add_neg a, add_zero b)

  -- the laws of the record once more, as lemmas that a rule set can name
  pub plus_comm : (a b : Car) → a ⊕ b ≡ b ⊕ a
  plus_comm = add_comm

  pub plus_assoc : (a b c : Car) → (a ⊕ b) ⊕ c ≡ a ⊕ (b ⊕ c)
  plus_assoc = add_assoc

  pub plus-zero : (a : Car) → a ⊕ zero ≡ a
  plus-zero = add_zero

  pub plus-neg : (a : Car) → a ⊕ ⊖ a ≡ zero
  plus-neg = add_neg

  pub times_comm : (a b : Car) → a ⊗ b ≡ b ⊗ a
  times_comm = mul_comm

  pub times_assoc : (a b c : Car) → (a ⊗ b) ⊗ c ≡ a ⊗ (b ⊗ c)
  times_assoc = mul_assoc

  pub times-one : (a : Car) → a ⊗ one ≡ a
  times-one = mul_one

  pub times-plus : (a b c : Car) → a ⊗ (b ⊕ c) ≡ a ⊗ b ⊕ a ⊗ c
  times-plus = mul_add

pub ruleset sums = (plus_assoc, add_left_comm, plus_comm, neg_sum, neg-neg, neg-zero, zero-add, plus-zero, add_neg_cancel, neg_add_cancel, plus-neg, neg-add, neg-add_far, neg_far)

pub ruleset ring = (sums, times_assoc, mul_left_comm, times_comm, times-one, one-mul, times-plus, add-mul, mul-zero, zero-mul, mul-neg, neg-mul)
