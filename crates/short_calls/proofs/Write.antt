-- The short record of a divisor that was found is written.
--   write_fits, wrote      its short record is written
use mathlib.Core.Path.{◌≡◌, sym, ◌∙◌, ap}
use mathlib.Core.List.{List, ◌++◌}
use Prim.Native.Nat.{ℕ, ◌≤◌}
use native.Mathlib.Omega.{arith}
use lib.ListN.{length, take, drop}
use lib.IntN.{pos}
use mir.Syntax.{w32}
use mir.Val.{SFits, to_z}
use mir.Facts.{to_z_pos}
use Rattle.divisor.specs.Kind.{count}
use Rattle.divisor.proofs.Codes.{count_small}
use Rattle.basis.specs.Divisor.{numbers_of}
use Rattle.basis.specs.declared.Divisor.{Divisor}
use Rattle.calls.specs.Answer.{Gives}
use Rattle.short.specs.Short.{short_size}
use Rattle.short.proofs.Width.{body-most}
use Rattle.short.proofs.Accepted.{short_length}
use Rattle.short_writer.specs.Contract.{short_of_value, ShortWriteAnswer}

module _ (p : ℕ) (fits : p ≤ 4294967296) (x : Divisor) (out out' : List ℕ) (n : ℕ) (a : ShortWriteAnswer p x out out' n) where
  small : n ≤ 40
  small = omega (arith, a.long, body-most p x.kind fits, count_small x.kind)

  pub write_fits : SFits w32 (pos n)
  write_fits = record { sfits = omega (arith, small) }

  pub wrote : Gives (short_of_value p x.kind x) out (to_z w32 n) out'
  wrote = (
    to_z_pos w32 {n = n} (omega (arith, small)) ∙ ap pos (a.long ∙ long),
    a.bytes ∙ ap (λ (m : ℕ). short_of_value p x.kind x ++ drop m out) long,
  )
    where
      long : short_size p x.kind ≡ length (short_of_value p x.kind x)
      long = sym (short_length p x.kind (take (count x.kind) (numbers_of x)))
