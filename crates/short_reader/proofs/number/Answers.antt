-- A number below the count stands w·i bits behind the first; past the count it is 0.
use mathlib.Core.Path.{◌∙◌}
use native.Mathlib.Nat.{mul-le-mul}
use native.Mathlib.Omega.{arith}
use Rattle.short_reader.proofs.Places.{number-bits}
use Rattle.short_reader.proofs.number.Goals as goal

pub overflow_mul-from : goal.overflow_mul-from
overflow_mul-from c =
    let a = c.args in
    omega (arith, mul-le-mul {n₁ = a.w} {m₁ = a.i} {n₂ = 32} {m₂ = 9} (omega arith) (omega arith))

pub overflow_add-from : goal.overflow_add-from
overflow_add-from c =
    let a = c.args in
    omega (arith, mul-le-mul {n₁ = a.w} {m₁ = a.i} {n₂ = 32} {m₂ = 9} (omega arith) (omega arith))

pub read_bits-requires : goal.read_bits-requires
read_bits-requires c =
    let a = c.args in
    record { w_bound = omega arith; from_bound = omega (arith, mul-le-mul {n₁ = a.w} {m₁ = a.i} {n₂ = 32} {m₂ = 9} (omega arith) (omega arith)) }

pub returns-then-i-count : goal.returns-then-i-count
returns-then-i-count c =
    let a = c.args in
    record {
      is = λ l. c.read_bits.ensures ∙ number-bits a.s.now (λ i. omega (arith, c.type_inv.s i)) a.w a.count a.i l;
      past = λ l. absurd (omega (arith, l, c.if-i-count.true));
    }
