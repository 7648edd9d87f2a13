-- The normal form of the ring solver, and the test that two expressions agree. All of it computes, and no ring is in sight.
--
-- An expression is a variable by its number, a numeral, a sum, a product, a negative or a power. Its normal form is a polynomial in
-- Horner's form: over the variables x0, x1, … it is z (zero), a constant p − n, or h + x0·t, where h speaks of x1, x2, … only.
-- For instance x0·x1 + 3 is cons (con 3 0) (cons (cons z (con 1 0)) z): 3 + x0·(x1 + x0·0), with x1 = 0 + x1·1 over x1, x2, ….
-- There is no order of monomials and no sorting, and constants are pairs that are never brought to lowest terms.
--   E                  expressions; the operators are those of Ops: E-ops
--   H                  normal forms: z, con p n, cons h t
--   plus, minus, times the operations on normal forms; plus-con, times-con: with a constant; times-tail: with a form without x0
--   norm e             the normal form of e
--   is_zero h          whether the normal form h is zero everywhere
--   same a b           the test, by computation, that norm a − norm b is zero everywhere
--   Same a b           it passes; so a proof of it is tt
use mathlib.Core.Bool.{Bool, true}
use Prim.Native.Nat.{ℕ, zero, suc, ◌+◌, ◌*◌}
use Rattle.algebra.proofs.Test.{both}
use lib.Dec.{T, eqb}
use Rattle.algebra.specs.Ring.{Ops}

pub data E : Type 0 where
  var : ℕ → E
  num : ℕ → E
  nil : E
  unit : E
  sum : E → E → E
  prod : E → E → E
  opp : E → E
  pow : E → ℕ → E

abbrev pub E-ops : Ops E
E-ops = record { zero = nil; one = unit; add = sum; mul = prod; neg = opp }

pub data H : Type 0 where
  z : H
  con : ℕ → ℕ → H
  cons : H → H → H

abbrev pub plus-con : ℕ → ℕ → H → H
plus-con p n z = con p n
plus-con p n (con q m) = con (p + q) (n + m)
plus-con p n (cons h t) = cons (plus-con p n h) t

abbrev pub plus : H → H → H
plus z k = k
plus (con p n) k = plus-con p n k
plus (cons h t) z = cons h t
plus (cons h t) (con p n) = cons (plus-con p n h) t
plus (cons h t) (cons h' t') = cons (plus h h') (plus t t')

abbrev pub minus : H → H
minus z = z
minus (con p n) = con n p
minus (cons h t) = cons (minus h) (minus t)

abbrev pub times-con : ℕ → ℕ → H → H
times-con p n z = z
times-con p n (con q m) = con (p * q + n * m) (p * m + n * q)
times-con p n (cons h t) = cons (times-con p n h) (times-con p n t)

-- k times a normal form without the first variable, whose multiplication is f
abbrev pub times-tail : (H → H) → H → H
times-tail f z = z
times-tail f (con p n) = cons (f (con p n)) z
times-tail f (cons h t) = cons (f h) (times-tail f t)

abbrev pub times : H → H → H
times z k = z
times (con p n) k = times-con p n k
times (cons h t) k = plus (times-tail (λ m. times h m) k) (cons z (times t k))

abbrev pub power : H → ℕ → H
power h zero = con 1 0
power h (suc n) = times h (power h n)

abbrev pub variable : ℕ → H
variable zero = cons z (con 1 0)
variable (suc n) = cons (variable n) z

abbrev pub norm : E → H
norm (var n) = variable n
norm (num n) = con n 0
norm nil = z
norm unit = con 1 0
norm (sum a b) = plus (norm a) (norm b)
norm (prod a b) = times (norm a) (norm b)
norm (opp a) = minus (norm a)
norm (pow a n) = power (norm a) n

abbrev pub is_zero : H → Bool
is_zero z = true
is_zero (con p n) = eqb p n
is_zero (cons h t) = both (is_zero h) (is_zero t)

abbrev pub same : E → E → Bool
same a b = is_zero (plus (norm a) (minus (norm b)))

abbrev pub Same : E → E → Type 0
Same a b = T (same a b)
