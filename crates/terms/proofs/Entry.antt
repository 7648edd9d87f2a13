-- What an entry of the table of normal monomials says of the class of its place modulo 3, in which the loops' laws are stated.
--   entry-class        the entry of a monomial: its power of y is the class of n, and its power of x has the rest of n as pole number
--   entry-gap          the mark of a gap: the power of y of the class of n has a pole number above n
use mathlib.Core.Path.{◌≡◌, sym, ◌∙◌, ap}
use mathlib.Core.Logic.{inl, inr}
use Prim.Native.Nat.{ℕ, ◌*◌, ◌-◌, ◌%◌, ◌≤◌, ◌<◌}
use native.Mathlib.Omega.{arith}
use Rattle.ideal.specs.Poles.{IsGap}
use Rattle.curve.specs.Pole.{pole, y_power}
use Rattle.curve.proofs.Pole.{pole-y}
use Rattle.curve.specs.Table.{y_at, x_at}
use Rattle.curve.proofs.Table.{Entry, monomial, mark, table-right}

class_of : (n i j : ℕ) → j ≤ 2 → n ≡ pole i j → j ≡ n % 3
class_of n i j h e = sym (ap y_power e ∙ pole-y i j h)

gap-class : (n : ℕ) → IsGap n → n < 4 * (n % 3)
gap-class n (inl e) = omega arith
gap-class n (inr (inl e)) = omega arith
gap-class n (inr (inr e)) = omega arith

pub entry-class : (n : ℕ) → n < 26 → y_at n < 3 → (y_at n ≡ n % 3) × (x_at n ≡ n - 4 * (n % 3)) × (4 * (n % 3) ≤ n)
entry-class n l k = go (table-right n (omega arith))
  where
    go : Entry n → (y_at n ≡ n % 3) × (x_at n ≡ n - 4 * (n % 3)) × (4 * (n % 3) ≤ n)
    go (monomial i h x e) = let c : y_at n ≡ n % 3 = class_of n i (y_at n) h e in omega arith
    go (mark h x g) = absurd (omega arith)

pub entry-gap : (n : ℕ) → n < 26 → 3 ≤ y_at n → n < 4 * (n % 3)
entry-gap n l k = go (table-right n (omega arith))
  where
    go : Entry n → n < 4 * (n % 3)
    go (monomial i h x e) = absurd (omega arith)
    go (mark h x g) = gap-class n g
