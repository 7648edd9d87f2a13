-- What the call does with what was found.
--   wrote                  the reduced curve's record is written
use mathlib.Core.Path.{◌≡◌, sym, ap, ◌∙◌}
use mathlib.Core.List.{List, ◌∷◌, ◌++◌}
use Prim.Native.Nat.{ℕ, ◌≤◌}
use native.Mathlib.Omega.{arith}
use lib.ListN.{length, drop}
use mir.Syntax.{w32}
use mir.Val.{to_z}
use mir.Facts.{to_z_pos}
use lib.IntN.{pos}
use Rattle.equation.specs.declared.Equation.{Equation}
use Rattle.layout.specs.Layout.{record_bytes}
use Rattle.layout.proofs.Bytes.{length_record}
use Rattle.record.specs.Curve.{curve_kind, curve_size}
use Rattle.record.specs.Fractions.{fractions_stages}
use Rattle.checks.specs.Contract.{equation_numbers}
use Rattle.calls.specs.Call.{ReduceCurve}
use Rattle.calls.proofs.Answers.{writes_enough}
use Rattle.fractions.specs.Contract.{ReducedTo}

module _ (s : List ℕ) (p : ℕ) where
  pub wrote : (e : Equation) → ReducedTo s p e → {out out' : List ℕ} {n : ℕ} → curve_size ≤ length out → n ≡ curve_size
      → out' ≡ record_bytes curve_kind (e.p ∷ equation_numbers e) ++ drop curve_size out → ReduceCurve s p out (to_z w32 n) out'
  wrote e f {out} {out'} {n} l m h =
      writes_enough (fractions_stages s p) f.passes w l f.accepted (to_z_pos w32 {n = n} (omega (arith, m)) ∙ ap pos (m ∙ sym long))
      (h ∙ ap (λ (q : ℕ). record_bytes curve_kind (q ∷ equation_numbers e) ++ drop curve_size out) f.modulus ∙ ap (λ (k : ℕ). w ++ drop k out) (sym long))
    where
      w : List ℕ
      w = record_bytes curve_kind (p ∷ equation_numbers e)

      long : length w ≡ curve_size
      long = length_record curve_kind (p ∷ equation_numbers e)
