-- The loop of times_y: the places of the classes 0 and 1 move by 4, and then each place n of class 2 adds its multiple of y³. When it is at n
-- the result is y times the part of v without its places of class 2 from n on.
--   Reached n          the places of the classes 0 and 1, and those below n; reached: it is decided
--   shifted_vec shifted_top        what shift_y gives is a vector
--   shifted_value      it is y times the part of v of the classes 0 and 1
--   YPart              the loop's invariant
--   y-start y-asked y-more y-end   its start, what a turn asks and does, and its end
use mathlib.Core.Path.{◌≡◌, refl, sym, ◌∙◌, ap, ap₂, subst}
use mathlib.Core.List.{List}
use mathlib.Core.Logic.{◌⊎◌, inl, inr, ⊎_elim}
use Prim.Native.Nat.{ℕ, zero, suc, ◌+◌, ◌-◌, ◌/◌, ◌%◌, ◌≤◌, ◌<◌}
use native.Mathlib.Omega.{arith}
use native.Mathlib.Decide.{dec_lt}
use Rattle.algebra.specs.Ring.{CommRing}
use Rattle.algebra.proofs.Solve.{solve, ◌⊞◌, ◌⊠◌}
use Rattle.algebra.proofs.Norm.{unit}
use Rattle.field.specs.Residue.{Z, el}
use Rattle.field.proofs.Element.{el-zero}
use Rattle.curve.specs.Curve.{Curve, Coordinate, y}
use Rattle.curve.specs.Curve as K
use Rattle.curve.proofs.Coefficient.{at_ext}
use Rattle.curve.specs.Pole.{pole}
use Rattle.curve.specs.Monomial.{power}
use Rattle.vector.specs.Vector.{Vec, Top, at, res, element, x_to, y_to, scalar}
use Rattle.vector.specs.Contract.{Added, AxpyAsked}
use Rattle.multiplication.specs.Contract.{Shifted, Cube, TimesYAsked, TimesY}
use Rattle.curve.proofs.Monomial.{at-y_0_straight, at-y_1_straight, at-y_2_straight}
use Rattle.vector.proofs.Element.{element-at, added_value}
use Rattle.terms.proofs.Portion.{portion, portion_in, portion_out, portion_all, portion_step}

abbrev pub Reached : ℕ → ℕ → Type 0
Reached n m = (m % 3 < 2) ⊎ (m < n)

either : {A B : Type 0} → Dec A → Dec B → Dec (A ⊎ B)
either (yes a) d = yes (inl a)
either (no a) (yes b) = yes (inr b)
either (no a) (no b) = no (⊎_elim a b)

pub reached : (n m : ℕ) → Dec (Reached n m)
reached n m = either (dec_lt (m % 3) 2) (dec_lt m n)

module _ {v r : List ℕ} {top : ℕ} (s : Shifted v top r) where
  -- what holds of 0 and of each number of v holds of each number of r
  shifted_all : (P : ℕ → Type 0) → P 0 → ((n : ℕ) → P (at v n)) → (n : ℕ) → P (at r n)
  shifted_all P z f n = go (dec_lt n 4) (dec_lt (n - 4) top) (dec_lt ((n - 4) % 3) 2)
    where
      from : (m : ℕ) → n ≡ m + 4 → P (at r (m + 4)) → P (at r n)
      from m e w = subst (λ k. P (at r k)) (sym e) w

      go : Dec (n < 4) → Dec (n - 4 < top) → Dec ((n - 4) % 3 < 2) → P (at r n)
      go (yes l) d e = subst P (sym (s.low n l)) z
      go (no l) (no d) e = from (n - 4) (omega arith) (subst P (sym (s.high (n - 4) (omega arith))) z)
      go (no l) (yes d) (yes e) = from (n - 4) (omega arith) (subst P (sym (s.moved (n - 4) d e)) (f (n - 4)))
      go (no l) (yes d) (no e) = from (n - 4) (omega arith) (subst P (sym (s.dropped (n - 4) (omega arith))) z)

  -- r at n + 4 for n of the classes 0 and 1
  shifted_at : Top v top → (n : ℕ) → n % 3 < 2 → at r (n + 4) ≡ at v n
  shifted_at t n c = go (dec_lt n top)
    where
      go : Dec (n < top) → at r (n + 4) ≡ at v n
      go (yes l) = s.moved n l c
      go (no l) = s.high n (omega arith) ∙ sym (t n (omega arith))

  pub shifted_vec : (p : ℕ) → Vec p v → Top v top → Vec p r
  shifted_vec p h t =
      record {
        len = s.len;
        below = shifted_all (λ a. a < p) (omega (arith, h.below 0)) h.below;
        gap_1 = s.low 1 (omega arith);
        gap_2 = s.low 2 (omega arith);
        gap_5 = shifted_at t 1 (omega arith) ∙ h.gap_1;
      }

  pub shifted_top : Top r (top + 4)
  shifted_top n l = ap (at r) {x = n} {y = n - 4 + 4} (omega arith) ∙ s.high (n - 4) (omega arith)

  pub shifted_value : (p : ℕ) (C : Curve (Z p)) → Top v top → element p C r ≡ (Coordinate C).mul (y C) (portion p C v (Reached 8) (reached 8))
  shifted_value p C t = at_ext C go
    where
      g : (Coordinate C).Car
      g = portion p C v (Reached 8) (reached 8)

      low : (i j : ℕ) → j ≤ 1 → pole i j % 3 < 2 → K.at C i j g ≡ res p v (pole i j)
      low i j l c = portion_in p C v (Reached 8) (reached 8) i j (omega arith) (inl c)

      none : (i : ℕ) → ¬ Reached 8 (pole i 2)
      none i (inl c) = omega arith
      none i (inr c) = omega arith

      flat : (i : ℕ) → K.at C i 2 g ≡ (Z p).zero
      flat i = portion_out p C v (Reached 8) (reached 8) i 2 (omega arith) (none i)

      empty : (n : ℕ) → n % 3 ≡ 0 → Dec (n < 4) → at r n ≡ 0
      empty n c (yes l) = s.low n l
      empty n c (no l) = ap (at r) {x = n} {y = n - 4 + 4} (omega arith) ∙ s.dropped (n - 4) (omega arith)

      moved_at : (n m : ℕ) → m ≡ n + 4 → n % 3 < 2 → res p r m ≡ res p v n
      moved_at n m e c = ap (el p) (ap (at r) e ∙ shifted_at t n c)

      go : (i j : ℕ) → j ≤ 2 → K.at C i j (element p C r) ≡ K.at C i j ((Coordinate C).mul (y C) g)
      go i zero l =
          element-at p C r i 0 l
          ∙ ap (el p) (empty (pole i 0) (omega arith) (dec_lt (pole i 0) 4))
          ∙ el-zero p
          ∙ sym (at-y_0_straight C g flat i)
      go i (suc zero) l =
          element-at p C r i 1 l
          ∙ moved_at (pole i 0) (pole i 1) (omega arith) (omega arith)
          ∙ sym (at-y_1_straight C g flat i ∙ low i 0 (omega arith) (omega arith))
      go i (suc (suc zero)) l =
          element-at p C r i 2 l
          ∙ moved_at (pole i 1) (pole i 2) (omega arith) (omega arith)
          ∙ sym (at-y_2_straight C g flat i ∙ low i 1 (omega arith) (omega arith))
      go i (suc (suc (suc j))) l = absurd (omega arith)

pub record YPart (p : ℕ) (y3 v : List ℕ) (top n : ℕ) (r : List ℕ) : Type 0 where
  pub vec : Vec p r
  pub top_out : Top r (top + 4)
  pub class : n % 3 ≡ 2
  pub start : 8 ≤ n
  pub value : (C : Curve (Z p)) → Cube p C y3 → element p C r ≡ (Coordinate C).mul (y C) (portion p C v (Reached n) (reached n))

pub y-start : {p top : ℕ} {y3 v r : List ℕ} → TimesYAsked p y3 v top → Shifted v top r → YPart p y3 v top 8 r
y-start {p} {top} {y3} {v} {r} h s =
    record {
      vec = shifted_vec s p h.v_vec h.v_top;
      top_out = shifted_top s;
      class = omega arith;
      start = omega arith;
      value = λ C o. shifted_value s p C h.v_top;
    }

y-two : (p : ℕ) (C : Curve (Z p)) → y_to p C 2 ≡ (Coordinate C).mul (y C) ((Coordinate C).mul (y C) (Coordinate C).one)
unfolding power
y-two p C = refl

-- y times one more place of class 2
ordered : (R : CommRing) (y u s x : R.Car) → R.add (R.mul y u) (R.mul (R.mul s x) (R.mul y (R.mul y y))) ≡ R.mul y (R.add u (R.mul s (R.mul x (R.mul y (R.mul y R.one)))))
ordered R = solve R 4 (λ y u s x. y ⊠ u ⊞ s ⊠ x ⊠ (y ⊠ (y ⊠ y))) (λ y u s x. y ⊠ (u ⊞ s ⊠ (x ⊠ (y ⊠ (y ⊠ unit))))) tt

module _ {p top n : ℕ} {y3 v r : List ℕ} (h : TimesYAsked p y3 v top) (t : YPart p y3 v top n r) (l : n < top) where
  pub y-asked : AxpyAsked p r (at v n) y3 (n - 8) 13
  y-asked =
      record {
        r_vec = t.vec;
        b_vec = h.y3_vec;
        c_below = h.v_vec.below n;
        class = omega (arith, t.class, t.start);
        room = omega (arith, h.room);
      }

  pub y-more : {r' : List ℕ} → Added p r (at v n) y3 (n - 8) 13 r' → YPart p y3 v top (n + 3) r'
  y-more {r'} a =
      record {
        vec = a.vec;
        top_out = λ m k. a.high m (omega (arith, t.start)) ∙ t.top_out m k;
        class = omega (arith, t.class);
        start = omega (arith, t.start);
        value = value;
      }
    where
      i : ℕ
      i = (n - 8) / 3

      here : pole i 2 ≡ n
      here = omega (arith, t.class, t.start)

      more : (m : ℕ) → Reached n m → Reached (n + 3) m
      more m (inl c) = inl c
      more m (inr c) = inr (omega arith)

      less : (m : ℕ) → ¬ (m ≡ pole i 2) → Reached (n + 3) m → Reached n m
      less m d (inl c) = inl c
      less m d (inr c) = go (dec_lt m n)
        where
          go : Dec (m < n) → Reached n m
          go (yes k) = inr k
          go (no k) = inl (omega (arith, here, t.class))

      none : ¬ Reached n (pole i 2)
      none (inl c) = omega (arith, here, t.class)
      none (inr c) = omega (arith, here)

      value : (C : Curve (Z p)) → Cube p C y3 → element p C r' ≡ (Coordinate C).mul (y C) (portion p C v (Reached (n + 3)) (reached (n + 3)))
      value C o =
          added_value p C t.vec h.y3_vec (omega (arith, t.class, t.start)) a h.y3_top
          ∙ ap₂ (λ u w. (Coordinate C).add u ((Coordinate C).mul ((Coordinate C).mul (scalar p C (at v n)) (x_to p C i)) w)) (t.value C o) o.is
          ∙ ordered (Coordinate C) (y C) _ (scalar p C (at v n)) (x_to p C i)
          ∙ ap ((Coordinate C).mul (y C)) (sym step)
        where
          step :
              portion p C v (Reached (n + 3)) (reached (n + 3)) ≡ (Coordinate C).add (portion p C v (Reached n) (reached n))
              ((Coordinate C).mul (scalar p C (at v n)) ((Coordinate C).mul (x_to p C i) ((Coordinate C).mul (y C) ((Coordinate C).mul (y C) (Coordinate C).one))))
          step =
              portion_step p C v (Reached n) (reached n) (Reached (n + 3)) (reached (n + 3)) i 2 (omega arith) none (inr (omega (arith, here))) more less
              ∙ ap₂ (λ m w. (Coordinate C).add (portion p C v (Reached n) (reached n)) ((Coordinate C).mul (scalar p C (at v m)) ((Coordinate C).mul (x_to p C i) w))) here (y-two p C)

pub y-end : {p top n : ℕ} {y3 v r : List ℕ} → TimesYAsked p y3 v top → YPart p y3 v top n r → top ≤ n → TimesY p y3 v top r
y-end {p} {top} {n} {y3} {v} {r} h t q =
    record {
      vec = t.vec;
      top_out = t.top_out;
      value = λ C o. t.value C o ∙ ap ((Coordinate C).mul (y C)) (portion_all p C v (Reached n) (reached n) (λ m k. h.v_top m (above m k)));
    }
  where
    above : (m : ℕ) → ¬ Reached n m → top ≤ m
    above m k = go (dec_lt m n)
      where
        go : Dec (m < n) → top ≤ m
        go (yes l) = absurd (k (inr l))
        go (no l) = omega arith
