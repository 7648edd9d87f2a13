-- The loop of times: after n turns the result is g times the part of b below n.
--   First n            the places below n; first: it is decided
--   TimesPart          the loop's invariant
--   part-start part-more part_skip part_end       its start, its two ways of a turn and its end
--   part_as            the invariant for an equal result
--   turn_asked turn_more turn_skip     what a turn asks, and its two ways, by the table's entry at n
use mathlib.Core.Path.{◌≡◌, sym, ◌∙◌, ap, ap₂, subst}
use mathlib.Core.List.{List}
use mathlib.Core.Logic.{inl, inr}
use Prim.Native.Nat.{ℕ, ◌+◌, ◌*◌, ◌-◌, ◌/◌, ◌%◌, ◌≤◌, ◌<◌}
use native.Mathlib.Omega.{arith}
use native.Mathlib.Decide.{ℕ_discrete, dec_lt}
use lib.ListN.{replicate}
use Rattle.algebra.specs.Ring.{CommRing}
use Rattle.algebra.proofs.Laws as L
use Rattle.algebra.proofs.Solve.{solve, ◌⊞◌, ◌⊠◌}
use Rattle.ideal.specs.Poles.{IsGap, IsPole}
use Rattle.field.specs.Residue.{Z}
use Rattle.curve.specs.Curve.{Curve, Coordinate}
use Rattle.curve.specs.Pole.{pole}
use Rattle.curve.specs.Table.{y_at}
use Rattle.vector.specs.Vector.{Vec, Top, at, row, element, x_to, y_to, scalar}
use Rattle.vector.specs.Contract.{Added, AxpyAsked}
use Rattle.terms.specs.declared.normal.Monomial.{Monomial}
use Rattle.terms.specs.Monomial.{IsEntry}
use Rattle.terms.specs.Contract.{RowsOf, TimesAsked, Times}
use Rattle.vector.proofs.Loop.{zeros-at, zeros-vec}
use Rattle.terms.proofs.Entry.{entry-class, entry-gap}
use Rattle.vector.proofs.Element.{element-zero, added_value}
use Rattle.terms.proofs.Portion.{portion, portion_all, portion_none, portion_same, portion_step}

abbrev pub First : ℕ → ℕ → Type 0
First n m = m < n

abbrev pub first : (n m : ℕ) → Dec (First n m)
first n m = dec_lt m n

pub record TimesPart (p : ℕ) (b : List ℕ) (n : ℕ) (ys : List (List ℕ)) (top : ℕ) (r : List ℕ) : Type 0 where
  pub vec : Vec p r
  pub top_out : Top r (n + top - 1)
  pub value : (C : Curve (Z p)) (g : (Coordinate C).Car) → RowsOf p C ys g → element p C r ≡ (Coordinate C).mul (portion p C b (First n) (first n)) g

pub part-start : {p e top : ℕ} {b : List ℕ} {ys : List (List ℕ)} → TimesAsked p b e ys top → TimesPart p b 0 ys top (replicate 26 0)
part-start {p} {e} {top} {b} {ys} h =
    record {
      vec = zeros-vec p (omega (arith, h.b_vec.below 0));
      top_out = λ n l. zeros-at 26 n;
      value =
          λ C g o. element-zero p C (replicate 26 0) (λ n l. zeros-at 26 n)
          ∙ sym (L.zero-mul (Coordinate C) g)
          ∙ ap (λ u. (Coordinate C).mul u g) (sym (portion_none p C b (First 0) (first 0) (λ n l. omega arith)));
    }

gap_of : (n : ℕ) → n < 4 * (n % 3) → IsGap n
gap_of n h = go (ℕ_discrete n 1) (ℕ_discrete n 2)
  where
    go : Dec (n ≡ 1) → Dec (n ≡ 2) → IsGap n
    go (yes e) d = inl e
    go (no e) (yes d) = inr (inl d)
    go (no e) (no d) = inr (inr (omega arith))

-- the factors put in order
ordered : (R : CommRing) (u g s x y : R.Car) → R.add (R.mul u g) (R.mul (R.mul s x) (R.mul y g)) ≡ R.mul (R.add u (R.mul s (R.mul x y))) g
ordered R = solve R 5 (λ u g s x y. u ⊠ g ⊞ s ⊠ x ⊠ (y ⊠ g)) (λ u g s x y. (u ⊞ s ⊠ (x ⊠ y)) ⊠ g) tt

module _ {p e top n : ℕ} {b : List ℕ} {ys : List (List ℕ)} {r : List ℕ} (h : TimesAsked p b e ys top) (t : TimesPart p b n ys top r) (l : n < e) where
  part-asked : 4 * (n % 3) ≤ n → AxpyAsked p r (at b n) (row ys (n % 3)) (n - 4 * (n % 3)) (top + 4 * (n % 3))
  part-asked q =
      record {
        r_vec = t.vec;
        b_vec = h.rows.vec (n % 3) (omega arith);
        c_below = h.b_vec.below n;
        class = omega arith;
        room = omega (arith, h.room);
      }

  pub part-more : {r' : List ℕ} → 4 * (n % 3) ≤ n → Added p r (at b n) (row ys (n % 3)) (n - 4 * (n % 3)) (top + 4 * (n % 3)) r' → TimesPart p b (n + 1) ys top r'
  part-more {r'} q a =
      record {
        vec = a.vec;
        top_out = λ m k. a.high m (omega arith) ∙ t.top_out m (omega arith);
        value = value;
      }
    where
      value : (C : Curve (Z p)) (g : (Coordinate C).Car) → RowsOf p C ys g → element p C r' ≡ (Coordinate C).mul (portion p C b (First (n + 1)) (first (n + 1))) g
      value C g o =
          added_value p C t.vec (h.rows.vec (n % 3) (omega arith)) (omega arith) a (h.rows.tops (n % 3) (omega arith))
          ∙ ap₂ (λ u w. (Coordinate C).add u ((Coordinate C).mul ((Coordinate C).mul (scalar p C (at b n)) (x_to p C i)) w)) (t.value C g o) (o.is (n % 3) (omega arith))
          ∙ ordered (Coordinate C) _ g (scalar p C (at b n)) (x_to p C i) (y_to p C (n % 3))
          ∙ ap (λ u. (Coordinate C).mul u g) (sym step)
        where
          i : ℕ
          i = (n - 4 * (n % 3)) / 3

          here : pole i (n % 3) ≡ n
          here = omega arith

          step :
              portion p C b (First (n + 1)) (first (n + 1)) ≡ (Coordinate C).add (portion p C b (First n) (first n))
              ((Coordinate C).mul (scalar p C (at b n)) ((Coordinate C).mul (x_to p C i) (y_to p C (n % 3))))
          step =
              portion_step p C b (First n) (first n) (First (n + 1)) (first (n + 1)) i (n % 3) (omega arith) (omega (arith, here))
              (omega (arith, here)) (λ m k. omega arith) (λ m d k. omega (arith, here))
              ∙ ap (λ m. (Coordinate C).add (portion p C b (First n) (first n)) ((Coordinate C).mul (scalar p C (at b m)) ((Coordinate C).mul (x_to p C i) (y_to p C (n % 3))))) here

  pub part_skip : n < 4 * (n % 3) → TimesPart p b (n + 1) ys top r
  part_skip q =
      record {
        vec = t.vec;
        top_out = λ m k. t.top_out m (omega arith);
        value =
            λ C g o. t.value C g o
            ∙ ap (λ u. (Coordinate C).mul u g) (portion_same p C b (First n) (first n) (First (n + 1)) (first (n + 1)) (λ m w k. omega arith) (λ m w k. below m w k (ℕ_discrete m n)));
      }
    where
      below : (m : ℕ) → IsPole m → m < n + 1 → Dec (m ≡ n) → m < n
      below m w k (yes d) = absurd (w (subst IsGap (sym d) (gap_of n q)))
      below m w k (no d) = omega arith

  module _ {m : Monomial} (o : IsEntry n m) where
    -- the entry's numbers by the class of n
    by-class : (m.power ≡ n % 3) × (m.pole ≡ n - 4 * (n % 3)) × (4 * (n % 3) ≤ n)
    by-class = let (y, x, q) = entry-class n (omega (arith, h.inside)) o.proper in (o.power ∙ y, o.pole ∙ x, q)

    pub turn_asked : AxpyAsked p r (at b n) (row ys m.power) m.pole (top + 4 * m.power)
    turn_asked = let (y, x, q) = by-class in rw (y, x) (part-asked q)

    pub turn_more : {r' : List ℕ} → Added p r (at b n) (row ys m.power) m.pole (top + 4 * m.power) r' → TimesPart p b (n + 1) ys top r'
    turn_more a = let (y, x, q) = by-class in part-more q (rw (sym x, sym y) a)

  pub turn_skip : y_at n ≡ 3 → TimesPart p b (n + 1) ys top r
  turn_skip k = part_skip (entry-gap n (omega (arith, h.inside)) (omega arith))

pub part_as : {p n top : ℕ} {b : List ℕ} {ys : List (List ℕ)} {r r' : List ℕ} → r' ≡ r → TimesPart p b n ys top r → TimesPart p b n ys top r'
part_as {p} {n} {top} {b} {ys} e t = subst (λ l. TimesPart p b n ys top l) (sym e) t

pub part_end : {p e top n : ℕ} {b : List ℕ} {ys : List (List ℕ)} {r : List ℕ} → TimesAsked p b e ys top → TimesPart p b n ys top r → n ≡ e → Times p b e ys top r
part_end {p} {e} {top} {n} {b} {ys} {r} h t q =
    record {
      vec = t.vec;
      top_out = λ m k. t.top_out m (omega arith);
      value = λ C g o. t.value C g o ∙ ap (λ u. (Coordinate C).mul u g) (portion_all p C b (First n) (first n) (λ m k. h.b_top m (omega arith)));
    }
