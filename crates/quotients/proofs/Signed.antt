-- The residue of a signed number by its 32 bits.
--   signed_up          a number below 2³¹ stands for itself
--   signed_down        a number from 2³¹ to 2³² − 1 stands for what is missing to 2³², negative
use mathlib.Core.Path.{◌≡◌, refl, ap, ◌∙◌}
use mathlib.Core.Bool.{Bool, true, false, cond}
use Prim.Native.Nat.{ℕ, suc, ◌-◌, ◌<◌, ◌≤◌}
use native.Mathlib.Omega.{arith}
use lib.Dec.{T, leb, ltb, leb→le, le→leb, lt→ltb}
use lib.IntN.{ℤ, pos, negsuc, sub_ℕ}
use Rattle.field.specs.Residue.{Z, el}
use Rattle.record.specs.Fractions.{signed, residue}

if_true : (t : Bool) (a b : ℤ) → T t → cond t a b ≡ a
if_true true a b _ = refl
if_true false a b f = absurd f

if_false : (t : Bool) (a b : ℤ) → ¬ T t → cond t a b ≡ b
if_false true a b n = absurd (n tt)
if_false false a b _ = refl

sub_below : (a b : ℕ) → a < b → sub_ℕ a b ≡ negsuc (b - suc a)
sub_below a b l = if_true (ltb a b) (negsuc (b - suc a)) (pos (a - b)) (lt→ltb a b l)

pub signed_up : (p n : ℕ) → n < 2147483648 → residue p (signed n) ≡ el p n
unfolding signed residue
signed_up p n l = ap (residue p) (if_false (leb 2147483648 n) _ (pos n) (λ t. omega (arith, leb→le 2147483648 n t)))

pub signed_down : (p n : ℕ) → 2147483648 ≤ n → n < 4294967296 → residue p (signed n) ≡ (Z p).neg (el p (4294967296 - n))
unfolding signed residue
signed_down p n l f =
    ap (residue p) (if_true (leb 2147483648 n) _ (pos n) (le→leb 2147483648 n l) ∙ sub_below n 4294967296 f)
    ∙ ap (λ (m : ℕ). (Z p).neg (el p m)) (omega arith)
