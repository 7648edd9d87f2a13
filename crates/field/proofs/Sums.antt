-- What each way through a sum, a difference and a negative returns.
--   sum-small sum-large               a + b below p, and from p on
--   difference-large difference-small a − b where a ≥ b, and where a < b
--   negative-zero negative-more       −a where a = 0, and where a > 0
use mathlib.Core.Path.{◌≡◌, sym, ◌∙◌, ap}
use Prim.Native.Nat.{ℕ, ◌+◌, ◌-◌, ◌≤◌, ◌<◌}
use native.Mathlib.Omega.{arith}
use Rattle.field.specs.Residue.{Z, el}
use Rattle.field.proofs.Element.{el-add, el-zero, el_self, el-neg, el_sub}
use Rattle.field.specs.Contract.{Is}

-- el (r + p) = el r
el_turn : (p r : ℕ) → el p (r + p) ≡ el p r
el_turn p r = el-add p r p ∙ ap ((Z p).add (el p r)) (el_self p) ∙ (Z p).add_zero _

module _ (p a b : ℕ) where
  pub sum-small : a + b < p → Is p (a + b) ((Z p).add (el p a) (el p b))
  sum-small h = record { below = h; is = el-add p a b }

  pub sum-large : a < p → b < p → p - b ≤ a → Is p (a - (p - b)) ((Z p).add (el p a) (el p b))
  sum-large ha hb h = record { below = omega arith; is = sym (el_turn p _) ∙ ap (el p) (omega arith) ∙ el-add p a b }

  pub difference-large : a < p → b ≤ a → Is p (a - b) ((Z p).add (el p a) ((Z p).neg (el p b)))
  difference-large ha h = record { below = omega arith; is = el_sub p a b h }

  pub difference-small : b < p → a < b → Is p (a + (p - b)) ((Z p).add (el p a) ((Z p).neg (el p b)))
  difference-small hb h = record { below = omega arith; is = el-add p a (p - b) ∙ ap ((Z p).add (el p a)) (el-neg p b (omega arith)) }

module _ (p a : ℕ) where
  pub negative-more : a < p → 0 < a → Is p (p - a) ((Z p).neg (el p a))
  negative-more ha h = record { below = omega arith; is = el-neg p a (omega arith) }

  pub negative-zero : a < p → a ≡ 0 → Is p 0 ((Z p).neg (el p a))
  negative-zero ha e = record { below = omega arith; is = el-zero p ∙ sym (el_self p) ∙ ap (el p) (omega arith) ∙ el-neg p a (omega arith) }
