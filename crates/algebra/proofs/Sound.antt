-- The ring solver is sound: what its test accepts holds in every commutative ring.
--   number R n         n as an element of R
--   number-add, number-mul     sums and products of such elements
--   head, tail, nth    the entries of a list, with a value past its end
--   raise R a n        the n-th power of a
--   value R e ρ        the value of the expression e, its variables standing for the entries of the list ρ (zero past the end)
--   at R h ρ           the value of the normal form h
--   at-plus, at-minus, at-times, value_norm      the operations on normal forms mean what they say
--   same-value         Same a b gives value a ρ ≡ value b ρ
use mathlib.Core.Path.{◌≡◌, refl, sym, ◌∙◌, ap, ap₂}
use mathlib.Core.List.{List, [], ◌∷◌}
use Prim.Native.Nat.{ℕ, zero, suc, ◌+◌, ◌*◌}
use native.Mathlib.Nat as N
use lib.Dec.{T, eqb→eq}
use Rattle.algebra.specs.Ring.{CommRing}
use Rattle.algebra.proofs.Laws as L
use Rattle.algebra.proofs.Laws.{ring, sums}
use Rattle.algebra.proofs.Test.{both_left, both_right}
use Rattle.algebra.proofs.Norm.{E, var, num, nil, unit, sum, prod, opp, pow, H, z, con, cons, plus-con, plus, minus, times-con, times-tail, times, power, variable, norm, is_zero, Same}

abbrev pub head : {A : Type 0} → A → List A → A
head d [] = d
head d (x ∷ xs) = x

abbrev pub tail : {A : Type 0} → List A → List A
tail [] = []
tail (x ∷ xs) = xs

abbrev pub number : (R : CommRing) → ℕ → R.Car
number R zero = R.zero
number R (suc n) = R.add R.one (number R n)

abbrev pub nth : (R : CommRing) → ℕ → List R.Car → R.Car
nth R zero ρ = head R.zero ρ
nth R (suc n) ρ = nth R n (tail ρ)

abbrev pub raise : (R : CommRing) → R.Car → ℕ → R.Car
raise R a zero = R.one
raise R a (suc n) = R.mul a (raise R a n)

abbrev pub value : (R : CommRing) → E → List R.Car → R.Car
value R (var n) ρ = nth R n ρ
value R (num n) ρ = number R n
value R nil ρ = R.zero
value R unit ρ = R.one
value R (sum a b) ρ = R.add (value R a ρ) (value R b ρ)
value R (prod a b) ρ = R.mul (value R a ρ) (value R b ρ)
value R (opp a) ρ = R.neg (value R a ρ)
value R (pow a n) ρ = raise R (value R a ρ) n

module _ (R : CommRing) where
  open R use {Car, one, add as ◌⊕◌, mul as ◌⊗◌, neg as ⊖◌, add_comm, add_assoc, add_zero, add_neg, mul_comm, mul_assoc, mul_one, mul_add}

  infixl 60 ◌⊕◌
  infixl 70 ◌⊗◌
  infix 80 ⊖◌
  at : H → List Car → Car
  at z ρ = R.zero
  at (con p n) ρ = number R p ⊕ ⊖ (number R n)
  at (cons h t) ρ = at h (tail ρ) ⊕ head R.zero ρ ⊗ at t ρ

  pub number-add : (m n : ℕ) → number R (m + n) ≡ number R m ⊕ number R n
  number-add zero n = ap (number R) (N.zero-add n) ∙ sym (L.zero-add R (number R n))
  number-add (suc m) n =
      ap (number R) (N.suc-add m n)
      ∙ ap (λ k. one ⊕ k) (number-add m n)
      ∙ sym (add_assoc one (number R m) (number R n))

  pub number-mul : (m n : ℕ) → number R (m * n) ≡ number R m ⊗ number R n
  number-mul zero n = ap (number R) (N.zero-mul n) ∙ sym (L.zero-mul R (number R n))
  number-mul (suc m) n =
      ap (number R) (N.suc-mul m n)
      ∙ number-add (m * n) n
      ∙ cc (number-mul m n, L.add-mul R one (number R m) (number R n), L.one-mul R (number R n), add_comm (number R n) (number R m ⊗ number R n))

  -- the steps of the inductions below, over plain values
  con-con : (a b c d : Car) → (a ⊕ b) ⊕ ⊖ (c ⊕ d) ≡ (a ⊕ ⊖ c) ⊕ (b ⊕ ⊖ d)
  con-con a b c d = simp sums

  con-cons : (c h t x : Car) → x ≡ c ⊕ h → x ⊕ t ≡ c ⊕ (h ⊕ t)
  con-cons c h t x e = cc (add_assoc c h t)

  cons-con : (c h t x : Car) → x ≡ c ⊕ h → x ⊕ t ≡ (h ⊕ t) ⊕ c
  cons-con c h t x e = cc (add_assoc c h t, add_comm c (h ⊕ t))

  cons-cons : (v h h' t t' x y : Car) → x ≡ h ⊕ h' → y ≡ t ⊕ t' → x ⊕ v ⊗ y ≡ (h ⊕ v ⊗ t) ⊕ (h' ⊕ v ⊗ t')
  cons-cons v h h' t t' x y e e' = cc (mul_add v t t', L.swap_add R h h' (v ⊗ t) (v ⊗ t'))

  neg-con : (a b : Car) → b ⊕ ⊖ a ≡ ⊖ (a ⊕ ⊖ b)
  neg-con a b = simp sums

  neg-cons : (v h t x y : Car) → x ≡ ⊖ h → y ≡ ⊖ t → x ⊕ v ⊗ y ≡ ⊖ (h ⊕ v ⊗ t)
  neg-cons v h t x y e e' = cc (L.mul-neg R v t, L.neg_sum R h (v ⊗ t))

  at-plus-con : (p n : ℕ) (h : H) (ρ : List Car) → at (plus-con p n h) ρ ≡ at (con p n) ρ ⊕ at h ρ
  unfolding at
  at-plus-con p n z ρ = sym (add_zero _)
  at-plus-con p n (con q m) ρ =
      ap₂ (λ a b. a ⊕ ⊖ b) (number-add p q) (number-add n m) ∙ con-con (number R p) (number R q) (number R n) (number R m)
  at-plus-con p n (cons h t) ρ = con-cons _ _ _ _ (at-plus-con p n h (tail ρ))

  at-plus : (h k : H) (ρ : List Car) → at (plus h k) ρ ≡ at h ρ ⊕ at k ρ
  unfolding at
  at-plus z k ρ = sym (L.zero-add R _)
  at-plus (con p n) k ρ = at-plus-con p n k ρ
  at-plus (cons h t) z ρ = sym (add_zero _)
  at-plus (cons h t) (con p n) ρ = cons-con _ _ _ _ (at-plus-con p n h (tail ρ))
  at-plus (cons h t) (cons h' t') ρ = cons-cons _ _ _ _ _ _ _ (at-plus h h' (tail ρ)) (at-plus t t' ρ)

  at-minus : (h : H) (ρ : List Car) → at (minus h) ρ ≡ ⊖ (at h ρ)
  unfolding at
  at-minus z ρ = sym (L.neg-zero R)
  at-minus (con p n) ρ = neg-con _ _
  at-minus (cons h t) ρ = neg-cons _ _ _ _ _ (at-minus h (tail ρ)) (at-minus t ρ)

  mul-con : (a b c d : Car) → (a ⊗ b ⊕ c ⊗ d) ⊕ ⊖ (a ⊗ d ⊕ c ⊗ b) ≡ (a ⊕ ⊖ c) ⊗ (b ⊕ ⊖ d)
  mul-con a b c d = simp ring

  mul-cons : (c v h t x y : Car) → x ≡ c ⊗ h → y ≡ c ⊗ t → x ⊕ v ⊗ y ≡ c ⊗ (h ⊕ v ⊗ t)
  mul-cons c v h t x y e e' = cc (mul_add c h (v ⊗ t), L.mul_left_comm R c v t)

  tail-con : (v a k x : Car) → x ≡ a ⊗ k → x ⊕ v ⊗ R.zero ≡ a ⊗ k
  tail-con v a k x e = cc (L.mul-zero R v, add_zero x)

  -- h + v·t times k, from h·k and t·k
  times-cons : (v h t k x y : Car) → x ≡ h ⊗ k → y ≡ t ⊗ k → x ⊕ (R.zero ⊕ v ⊗ y) ≡ (h ⊕ v ⊗ t) ⊗ k
  times-cons v h t k x y e e' = cc (L.zero-add R (v ⊗ y), L.add-mul R h (v ⊗ t) k, mul_assoc v t k)

  number-con : (p n q m : ℕ) → number R (p * q + n * m) ⊕ ⊖ (number R (p * m + n * q)) ≡ (number R p ⊕ ⊖ (number R n)) ⊗ (number R q ⊕ ⊖ (number R m))
  number-con p n q m =
      cc (
        number-add (p * q) (n * m),
        number-add (p * m) (n * q),
        number-mul p q,
        number-mul n m,
        number-mul p m,
        number-mul n q,
        mul-con (number R p) (number R q) (number R n) (number R m),
      )

  at-times-con : (p n : ℕ) (h : H) (ρ : List Car) → at (times-con p n h) ρ ≡ at (con p n) ρ ⊗ at h ρ
  unfolding at
  at-times-con p n z ρ = sym (L.mul-zero R _)
  at-times-con p n (con q m) ρ = number-con p n q m
  at-times-con p n (cons h t) ρ = mul-cons _ _ _ _ _ _ (at-times-con p n h (tail ρ)) (at-times-con p n t ρ)

  at-times-tail : (f : H → H) (a : Car) (ρ : List Car) → ((k : H) → at (f k) (tail ρ) ≡ a ⊗ at k (tail ρ)) → (k : H) → at (times-tail f k) ρ ≡ a ⊗ at k ρ
  unfolding at
  at-times-tail f a ρ e z = sym (L.mul-zero R a)
  at-times-tail f a ρ e (con p n) = tail-con _ _ _ _ (e (con p n))
  at-times-tail f a ρ e (cons h t) = mul-cons _ _ _ _ _ _ (e h) (at-times-tail f a ρ e t)

  at-times : (h k : H) (ρ : List Car) → at (times h k) ρ ≡ at h ρ ⊗ at k ρ
  unfolding at
  at-times z k ρ = sym (L.zero-mul R _)
  at-times (con p n) k ρ = at-times-con p n k ρ
  at-times (cons h t) k ρ =
      at-plus (times-tail (λ m. times h m) k) (cons z (times t k)) ρ
      ∙ times-cons _ _ _ _ _ _ (at-times-tail (λ m. times h m) (at h (tail ρ)) ρ (λ m. at-times h m (tail ρ)) k) (at-times t k ρ)

  one-con : (R.one ⊕ R.zero) ⊕ ⊖ R.zero ≡ R.one
  one-con = simp sums

  at-power : (h : H) (n : ℕ) (ρ : List Car) → at (power h n) ρ ≡ raise R (at h ρ) n
  unfolding at
  at-power h zero ρ = one-con
  at-power h (suc n) ρ = at-times h (power h n) ρ ∙ ap (λ a. at h ρ ⊗ a) (at-power h n ρ)

  var-zero : (v : Car) → R.zero ⊕ v ⊗ ((R.one ⊕ R.zero) ⊕ ⊖ R.zero) ≡ v
  var-zero v = simp ring

  var_suc : (v a : Car) → a ⊕ v ⊗ R.zero ≡ a
  var_suc v a = simp ring

  at_variable : (n : ℕ) (ρ : List Car) → at (variable n) ρ ≡ nth R n ρ
  unfolding at
  at_variable zero ρ = var-zero _
  at_variable (suc n) ρ = var_suc _ _ ∙ at_variable n (tail ρ)

  num-con : (a : Car) → a ⊕ ⊖ R.zero ≡ a
  num-con a = simp sums

  value_norm : (e : E) (ρ : List Car) → at (norm e) ρ ≡ value R e ρ
  unfolding at
  value_norm (var n) ρ = at_variable n ρ
  value_norm (num n) ρ = num-con _
  value_norm nil ρ = refl
  value_norm unit ρ = one-con
  value_norm (sum a b) ρ = at-plus (norm a) (norm b) ρ ∙ ap₂ ◌⊕◌ (value_norm a ρ) (value_norm b ρ)
  value_norm (prod a b) ρ = at-times (norm a) (norm b) ρ ∙ ap₂ ◌⊗◌ (value_norm a ρ) (value_norm b ρ)
  value_norm (opp a) ρ = at-minus (norm a) ρ ∙ ap ⊖◌ (value_norm a ρ)
  value_norm (pow a n) ρ = at-power (norm a) n ρ ∙ ap (λ v. raise R v n) (value_norm a ρ)

  zero-cons : (v x y : Car) → x ≡ R.zero → y ≡ R.zero → x ⊕ v ⊗ y ≡ R.zero
  zero-cons v x y e e' = cc (L.mul-zero R v, add_zero R.zero)

  at_zero : (h : H) (ρ : List Car) → T (is_zero h) → at h ρ ≡ R.zero
  unfolding at
  at_zero z ρ t = refl
  at_zero (con p n) ρ t = ap (λ k. number R p ⊕ ⊖ (number R k)) (sym (eqb→eq p n t)) ∙ add_neg (number R p)
  at_zero (cons h t) ρ w =
      zero-cons _ _ _ (at_zero h (tail ρ) (both_left (is_zero h) (is_zero t) w)) (at_zero t ρ (both_right (is_zero h) (is_zero t) w))

  pub same-value : (a b : E) → Same a b → (ρ : List Car) → value R a ρ ≡ value R b ρ
  same-value a b t ρ =
      L.sub-zero→eq R (value R a ρ) (value R b ρ)
      (cc (at_zero (plus (norm a) (minus (norm b))) ρ t, at-plus (norm a) (minus (norm b)) ρ, at-minus (norm b) ρ, value_norm a ρ, value_norm b ρ))
