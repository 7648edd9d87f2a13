-- The table of normal monomials: its rule is one test that antt computes, and one law that reads it at every entry.
--   table-entry        each normal monomial of pole number up to 25 is the entry at its pole number
--   pole_distinct      so normal monomials with the same pole number are the same
--   Entry n, table-right           the entry at n is a normal monomial of pole number n, or the mark of a gap
use mathlib.Core.Path.{◌≡◌, sym, ◌∙◌, ap}
use mathlib.Core.Bool.{Bool}
use mathlib.Core.Logic.{inl, inr}
use Prim.Native.Nat.{ℕ, ◌*◌, ◌-◌, ◌/◌, ◌≤◌}
use native.Mathlib.Omega.{arith}
use native.Mathlib.Decide.{dec_le}
use lib.Dec.{eqb, eqb→eq}
use Rattle.algebra.proofs.Test.{both, both_left, both_right, all_below, all_below-at}
use Rattle.ideal.specs.Poles.{IsGap}
use Rattle.curve.specs.Pole.{pole}
use Rattle.curve.specs.Table.{y_at, x_at}
use Rattle.curve.proofs.Pole.{Located, place, gap, locate}

-- x^i·y^j is the entry at its pole number
abbrev stands : ℕ → ℕ → Bool
stands j i = both (eqb (y_at (pole i j)) j) (eqb (x_at (pole i j)) (3 * i))

-- so is each x^i·y^j of pole number at most 25, which is each with i below (28 − 4·j) / 3
abbrev all_stand : ℕ → Bool
all_stand j = all_below (stands j) ((28 - 4 * j) / 3)

pub table-entry : (i j : ℕ) → j ≤ 2 → pole i j ≤ 25 → (y_at (pole i j) ≡ j) × (x_at (pole i j) ≡ 3 * i)
table-entry i j h l =
    let a = eqb (y_at (pole i j)) j in
    let b = eqb (x_at (pole i j)) (3 * i) in
    let t = all_below-at (stands j) ((28 - 4 * j) / 3) (all_below-at all_stand 3 tt j (omega arith)) i (omega arith) in
    (eqb→eq (y_at (pole i j)) j (both_left a b t), eqb→eq (x_at (pole i j)) (3 * i) (both_right a b t))

-- a power of y and x^i·y^j' of the same pole number are the same entry
same-entry : (i j j' : ℕ) → j ≤ 2 → j' ≤ 2 → pole 0 j ≡ pole i j' → (i ≡ 0) × (j ≡ j')
same-entry i j j' h h' e =
    let (y, x) = table-entry 0 j h (omega arith) in
    let (y', x') = table-entry i j' h' (omega arith) in
    (omega (arith, sym x ∙ ap x_at e ∙ x'), sym y ∙ ap y_at e ∙ y')

-- Document 01: "Among normal monomials no two pole numbers agree." With the smaller power of x taken away from both, one is a power of y.
pub pole_distinct : (i j i' j' : ℕ) → j ≤ 2 → j' ≤ 2 → pole i j ≡ pole i' j' → (i ≡ i') × (j ≡ j')
pole_distinct i j i' j' h h' e = go (dec_le i i')
  where
    go : Dec (i ≤ i') → (i ≡ i') × (j ≡ j')
    go (yes l) = let (d, k) = same-entry (i' - i) j j' h h' (omega arith) in (omega arith, k)
    go (no l) = let (d, k) = same-entry (i - i') j' j h' h (omega arith) in (omega arith, sym k)

pub data Entry (n : ℕ) : Type 0 where
  monomial : (i : ℕ) → y_at n ≤ 2 → x_at n ≡ 3 * i → n ≡ pole i (y_at n) → Entry n
  mark : y_at n ≡ 3 → x_at n ≡ 0 → IsGap n → Entry n

pub table-right : (n : ℕ) → n ≤ 25 → Entry n
table-right n h = go (locate n)
  where
    go : Located n → Entry n
    go (place i j l e) =
        let (y, x) = table-entry i j l (omega arith) in
        let y' : y_at n ≡ j = ap y_at e ∙ y in
        monomial i (omega arith) (ap x_at e ∙ x) (omega arith)
    go (gap (inl e)) = mark (ap y_at e) (ap x_at e) (inl e)
    go (gap (inr (inl e))) = mark (ap y_at e) (ap x_at e) (inr (inl e))
    go (gap (inr (inr e))) = mark (ap y_at e) (ap x_at e) (inr (inr e))
