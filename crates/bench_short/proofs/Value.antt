-- What is read of a record whose form is accepted.
--   value-shaped       its kind and numbers below p are those of a divisor by value
--   value_same         two values that are read of it have the same numbers, so if those of one are below p, so are those of the other
--   write_fits         the length of a short record fits in 32 bits
use mathlib.Core.Path.{◌≡◌, refl, sym, ◌∙◌, subst}
use mathlib.Core.List.{List}
use Prim.Native.Nat.{ℕ, ◌+◌, ◌*◌, ◌<◌, ◌≤◌}
use native.Mathlib.Omega.{arith}
use native.Mathlib.Decide.{dec_lt}
use lib.ListN.{length, get_or, get_or-eq_default}
use Rattle.divisor.specs.Kind.{Kind}
use Rattle.divisor.proofs.Codes.{count_small}
use Rattle.basis.specs.Divisor.{numbers_of, Shaped}
use Rattle.basis.specs.declared.Divisor.{Divisor}
use Rattle.checks.specs.Contract.{AllBelow, Word, ValueOf}
use Rattle.checks.proofs.Answer.{below_at, at-below}
use Rattle.short.proofs.Width.{body-most}
use Rattle.short_writer.specs.Contract.{ShortWriteAnswer}

pub value-shaped : (p : ℕ) (a : List ℕ) (κ : Kind) (x : Divisor) → ValueOf κ a x → AllBelow p (numbers_of x) → Shaped p x.kind x
value-shaped p a κ x v h = record { kind = refl; below = λ i. go i (dec_lt i 9) }
  where
    go : (i : ℕ) → Dec (i < 9) → get_or (numbers_of x) i 0 < p
    go i (yes l) = below_at p (numbers_of x) h i l
    go i (no l) = omega (arith, get_or-eq_default (numbers_of x) 0 {n = i} (omega arith), h.0)

word_same : (a : List ℕ) (i m n : ℕ) → Word a i m → Word a i n → m ≡ n
word_same a i m n h k = go (dec_lt (length a) (i + 4))
  where
    go : Dec (length a < i + 4) → m ≡ n
    go (yes l) = h.past l ∙ sym (k.past l)
    go (no l) = h.is (omega arith) ∙ sym (k.is (omega arith))

pub value_same : (p : ℕ) (a : List ℕ) (κ ν : Kind) (x y : Divisor) → ValueOf κ a x → ValueOf ν a y → AllBelow p (numbers_of x) → AllBelow p (numbers_of y)
value_same p a κ ν x y v u h =
    at-below p (numbers_of y)
    (λ i l.
    subst (λ (n : ℕ). n < p) (word_same a (4 + 4 * i) (get_or (numbers_of x) i 0) (get_or (numbers_of y) i 0) (v.number i l) (u.number i l))
    (below_at p (numbers_of x) h i l))

pub write_fits : (p : ℕ) → p ≤ 4294967296 → (x : Divisor) (out out' : List ℕ) (n : ℕ) → ShortWriteAnswer p x out out' n → n ≤ 40
write_fits p fits x out out' n a = omega (arith, a.long, body-most p x.kind fits, count_small x.kind)
