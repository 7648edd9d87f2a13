-- What is returned of the formulas that were tried.
--   serves-answered    1 where they serve, and 0 where they do not
use mathlib.Core.Path.{◌≡◌, refl, sym, subst}
use mathlib.Core.Logic.{inl, inr, ◌⊎◌}
use mathlib.Core.List.{List}
use Prim.Native.Nat.{ℕ}
use lib.IntN.{ℤ, pos}
use mir.Val.{bool_byte}
use Rattle.std.specs.Prelude.{Option, Some, None, is_some}
use Rattle.basis.specs.declared.Divisor.{Divisor}
use Rattle.record.specs.Cause.{Passes}
use Rattle.calls.specs.Answer.{answered}
use Rattle.calls.specs.Call.{QuickServes}
use Rattle.calls.specs.Quick.{Serves}
use Rattle.classes.specs.Made.{two_stages}
use Rattle.quick.specs.Served.{ServedOn}

module _ {c a b : List ℕ} where
  by_case : (t : Option Divisor) → ServedOn c a b t
      → (Serves c a b × (pos (bool_byte (is_some t)) ≡ pos 1)) ⊎ ((¬ Serves c a b) × (pos (bool_byte (is_some t)) ≡ pos 0))
  by_case None s = inr (s.no, refl)
  by_case (Some r) s = inl (s.yes.0, refl)

  pub serves-answered : (t : Option Divisor) → Passes (two_stages c a b) → ServedOn c a b t → (z : ℤ) → z ≡ pos (bool_byte (is_some t)) → QuickServes c a b z
  serves-answered t p s z e = subst (QuickServes c a b) (sym e) (answered p (by_case t s))
