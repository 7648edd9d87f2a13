-- The record of a divisor by value, written and read again.
--   value_read         what is read of the part that was written is the value's record
use mathlib.Core.Path.{◌≡◌, ap₂, ◌∙◌, subst}
use mathlib.Core.List.{List}
use Prim.Native.Nat.{ℕ}
use lib.ListN.{take, drop}
use lib.Seq.{take_at}
use Rattle.std.specs.Prelude.{Result}
use Rattle.field.specs.Residue.{Z}
use Rattle.curve.specs.Curve.{Curve}
use Rattle.divisor.specs.Kind.{size}
use Rattle.basis.specs.declared.Divisor.{Divisor}
use Rattle.refusal.specs.declared.Refusal.{Refusal}
use Rattle.record.specs.Value.{bytes_of}
use Rattle.record.proofs.Written.{length_bytes_of}
use Rattle.reader.specs.Contract.{WriteAnswer}
use Rattle.reader.specs.Reading.{DivisorRead}
use Rattle.short_reader.specs.Reading.{ValueRead}

module _ {x : Divisor} {out : List ℕ} where
  pub value_read : (p : ℕ) (C : Curve (Z p)) (out' : List ℕ) (n : ℕ) (r : Result Divisor Refusal) → WriteAnswer x out out' n → DivisorRead p C (take n out') r
      → ValueRead p C x r
  value_read p C out' n r a h = subst (λ (s : List ℕ). DivisorRead p C s r) same h
    where
      same : take n out' ≡ bytes_of x.kind x
      same =
          ap₂ (λ (m : ℕ) (s : List ℕ). take m s) a.long a.bytes
          ∙ take_at (bytes_of x.kind x) (drop (size x.kind) out) (size x.kind) (length_bytes_of x.kind x)
