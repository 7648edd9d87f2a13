-- The binary algorithm of Euclid on an odd prime p and a: what a turn keeps, and what its end gives.
--   sign p n               1, or −1 where n holds
--   State p a x y cx cy k n     x and y are odd, x·cy + y·cx = p, and modulo p: a·cy = 2^k·y and a·cx = −2^k·x, both times the sign
--   state-start            at x = p, y·2^k = a, cx = 0, cy = 1
--   state-bits state-sum   k is below 64, and cx + cy at most p
--   greater_first greater_second   what a turn does where y < x, and where x < y
--   Turn turn              the numbers after a turn, and that they are a State of lesser numbers
use Rattle.std.proofs.Common.{◌≡◌, ℕ, ◌+◌, ◌*◌, ◌/◌, ◌%◌, ◌^◌, ◌<◌, ◌≤◌, Bool, true, false, not, ltb, [], ◌∷◌, sym, refl, ap, ◌∙◌, subst, ap₂, mul-le-mul_right, mod-eq_of_lt, mul_comm, mul-le-mul, mul-le-mul_left, lt_of_not-le, arith, pow_pos, pow_mono, pow-add, ltb-false, ltb-true}
use mathlib.Core.Bool.{cond, beq}
use native.Mathlib.Nat.{mul-mod_right}
use lib.Count.{count_trailing_zeros}
use Rattle.algebra.specs.Ring.{CommRing}
use Rattle.algebra.proofs.Laws.{neg-neg, neg-zero, one-mul, mul-zero}
use Rattle.algebra.proofs.Solve.{solve_from, given, ◌⊞◌, ◌⊠◌, ⊟◌}
use Rattle.algebra.proofs.Norm.{unit}
use Rattle.prime.specs.Prime.{Prime}
use Rattle.field.specs.Residue.{Z, el}
use Rattle.field.proofs.Element.{el-add, el-mul, el-zero, el-one, el_self}
use Rattle.field.proofs.Invert.{prime-rest}
use Rattle.inversion.proofs.Zeros.{Part, trailing, part-below, part-other, part-quotient, part-times, part-odd}

abbrev pub sign : (p : ℕ) → Bool → (Z p).Car
sign p true = (Z p).neg (Z p).one
sign p false = (Z p).one

pub record State (p a x y cx cy k : ℕ) (n : Bool) : Type 0 where
  pub whole : x * cy + y * cx ≡ p
  pub x_odd : x % 2 ≡ 1
  pub y_odd : y % 2 ≡ 1
  pub y_below : y < p
  pub small : x * y * 2 ^ k < 18446744073709551616
  pub first : (Z p).mul (el p a) (el p cy) ≡ (Z p).mul (sign p n) (el p (2 ^ k * y))
  pub second : (Z p).mul (el p a) (el p cx) ≡ (Z p).neg ((Z p).mul (sign p n) (el p (2 ^ k * x)))

-- the identities of a turn, in every ring
module _ (R : CommRing) where
  same_side : (A C S Y T : R.Car) → R.mul A C ≡ R.mul S Y → R.mul A (R.mul C T) ≡ R.mul S (R.mul Y T)
  same_side A C S Y T h =
      solve_from R 5 (λ A C S Y T. given T (A ⊠ C) (S ⊠ Y) ∷ []) (λ A C S Y T. A ⊠ (C ⊠ T)) (λ A C S Y T. S ⊠ (Y ⊠ T)) tt A C S Y T (h, tt)

  other_side : (A D S X T : R.Car) → R.mul A D ≡ R.neg (R.mul S X) → R.mul A (R.mul D T) ≡ R.mul (R.neg S) (R.mul X T)
  other_side A D S X T h =
      solve_from R 5 (λ A D S X T. given T (A ⊠ D) (⊟ (S ⊠ X)) ∷ []) (λ A D S X T. A ⊠ (D ⊠ T)) (λ A D S X T. ⊟ S ⊠ (X ⊠ T)) tt A D S X T (h, tt)

  module _ (A C D S X Y W : R.Car) (f : R.mul A C ≡ R.mul S Y) (g : R.mul A D ≡ R.neg (R.mul S X)) where
    same_rest : R.add W Y ≡ X → R.mul A (R.add D C) ≡ R.neg (R.mul S W)
    same_rest h =
        solve_from R 7 (λ A C D S X Y W. given unit (A ⊠ C) (S ⊠ Y) ∷ given unit (A ⊠ D) (⊟ (S ⊠ X)) ∷ given S (W ⊞ Y) X ∷ [])
        (λ A C D S X Y W. A ⊠ (D ⊞ C)) (λ A C D S X Y W. ⊟ (S ⊠ W)) tt A C D S X Y W (f, (g, (h, tt)))

    other-rest : R.add W X ≡ Y → R.mul A (R.add D C) ≡ R.neg (R.mul (R.neg S) W)
    other-rest h =
        solve_from R 7 (λ A C D S X Y W. given unit (A ⊠ C) (S ⊠ Y) ∷ given unit (A ⊠ D) (⊟ (S ⊠ X)) ∷ given (⊟ S) (W ⊞ X) Y ∷ [])
        (λ A C D S X Y W. A ⊠ (D ⊞ C)) (λ A C D S X Y W. ⊟ (⊟ S ⊠ W)) tt A C D S X Y W (f, (g, (h, tt)))

odd_pos : (n : ℕ) → n % 2 ≡ 1 → 0 < n
odd_pos n h = omega arith

-- the powers of 2 of a turn: T = 2^z, and q = 2^k
scaled : (k z n : ℕ) → 2 ^ (k + z) * n ≡ 2 ^ k * n * 2 ^ z
scaled k z n = ap (λ (m : ℕ). m * n) (pow-add 2 k z) ∙ swap (2 ^ k) (2 ^ z) n
  where
    swap : (q t n : ℕ) → q * t * n ≡ q * n * t
    swap q t n = omega arith

el_scaled : (p k z n : ℕ) → el p (2 ^ (k + z) * n) ≡ (Z p).mul (el p (2 ^ k * n)) (el p (2 ^ z))
el_scaled p k z n = ap (el p) (scaled k z n) ∙ el-mul p (2 ^ k * n) (2 ^ z)

-- 2^(k + z)·w + 2^k·y = 2^k·x where w·2^z + y = x
rest_scaled : (p k z w x y : ℕ) → w * 2 ^ z + y ≡ x → (Z p).add (el p (2 ^ (k + z) * w)) (el p (2 ^ k * y)) ≡ el p (2 ^ k * x)
rest_scaled p k z w x y e = sym (el-add p _ _) ∙ ap (el p) (ap (λ (m : ℕ). m + 2 ^ k * y) (scaled k z w) ∙ sum (2 ^ k) (2 ^ z) ∙ ap (λ (m : ℕ). 2 ^ k * m) e)
  where
    sum : (q t : ℕ) → q * w * t + q * y ≡ q * (w * t + y)
    sum q t = omega arith

small_scaled : (k z w x y b : ℕ) → w * 2 ^ z + y ≡ x → x * y * 2 ^ k < b → w * y * 2 ^ (k + z) < b
small_scaled k z w x y b e h = subst (λ (m : ℕ). w * y * m < b) (sym (pow-add 2 k z)) (go (2 ^ k) (2 ^ z) e h)
  where
    go : (q t : ℕ) → w * t + y ≡ x → x * y * q < b → w * y * (q * t) < b
    go q t e h = omega (arith, ap (λ (m : ℕ). m * (y * q)) e)

module _ {p a x y cx cy k : ℕ} {n : Bool} (s : State p a x y cx cy k n) where
  pub greater_first : (w z : ℕ) → w % 2 ≡ 1 → w * 2 ^ z + y ≡ x → State p a w y (cx + cy) (cy * 2 ^ z) (k + z) n
  greater_first w z o e =
      record {
        whole = keep (2 ^ z) e;
        x_odd = o;
        y_odd = s.y_odd;
        y_below = s.y_below;
        small = small_scaled k z w x y _ e s.small;
        first = ap ((Z p).mul (el p a)) (el-mul p cy (2 ^ z)) ∙ same_side (Z p) _ _ _ _ _ s.first ∙ ap ((Z p).mul (sign p n)) (sym (el_scaled p k z y));
        second = ap ((Z p).mul (el p a)) (el-add p cx cy) ∙ same_rest (Z p) _ _ _ _ _ _ _ s.first s.second (rest_scaled p k z w x y e);
      }
    where
      keep : (t : ℕ) → w * t + y ≡ x → w * (cy * t) + y * (cx + cy) ≡ p
      keep t e = omega (arith, ap (λ (m : ℕ). m * cy) e, s.whole)

  pub greater_second : (w z : ℕ) → w % 2 ≡ 1 → w * 2 ^ z + x ≡ y → (m : Bool) → sign p m ≡ (Z p).neg (sign p n) → State p a w x (cx + cy) (cx * 2 ^ z) (k + z) m
  greater_second w z o e m flip =
      record {
        whole = keep (2 ^ z) e;
        x_odd = o;
        y_odd = s.x_odd;
        y_below = omega (arith, e, s.y_below);
        small = small_scaled k z w y x _ e (other (2 ^ k) s.small);
        first =
            ap ((Z p).mul (el p a)) (el-mul p cx (2 ^ z)) ∙ other_side (Z p) _ _ _ _ _ s.second
            ∙ ap₂ (Z p).mul (sym flip) (sym (el_scaled p k z x));
        second =
            ap ((Z p).mul (el p a)) (el-add p cx cy) ∙ other-rest (Z p) _ _ _ _ _ _ _ s.first s.second (rest_scaled p k z w y x e)
            ∙ ap (λ v. (Z p).neg ((Z p).mul v (el p (2 ^ (k + z) * w)))) (sym flip);
      }
    where
      keep : (t : ℕ) → w * t + x ≡ y → w * (cx * t) + x * (cx + cy) ≡ p
      keep t e = omega (arith, ap (λ (m : ℕ). m * cx) e, s.whole)

      other : (q : ℕ) → x * y * q < 18446744073709551616 → y * x * q < 18446744073709551616
      other q h = omega arith

  pub state-bits : k < 64
  state-bits = lt_of_not-le (λ (h : 64 ≤ k). over (2 ^ k) s.small (pow_mono {i = 64} {j = k} h))
    where
      over : (q : ℕ) → x * y * q < 18446744073709551616 → 2 ^ 64 ≤ q → ⊥
      over q h l = omega (arith, mul-le-mul_right {m = 1} {n = x * y} q (mul-le-mul {n₁ = 1} {m₁ = 1} {n₂ = x} {m₂ = y} (odd_pos x s.x_odd) (odd_pos y s.y_odd)))

  pub state-sum : cx + cy ≤ p
  state-sum =
      omega (arith, s.whole, mul-le-mul_right {m = 1} {n = x} cy (odd_pos x s.x_odd), mul-le-mul_right {m = 1} {n = y} cx (odd_pos y s.y_odd))

pub state-start : (p a k : ℕ) → Part k a → p % 2 ≡ 1 → p < 4294967296 → a < p → State p a p (a / 2 ^ k) 0 1 k false
state-start p a k part o b l = subst (λ (y : ℕ). State p a p y 0 1 k false) (sym (part-quotient k a part)) (at part.odd part.is_odd part.is)
  where
    less : (y t : ℕ) → 0 < t → y * t ≡ a → y < p
    less y t h e = omega (arith, mul-le-mul_left {m = 1} {n = t} y h)

    bound : (y t : ℕ) → y * t ≡ a → p * y * t < 18446744073709551616
    bound y t e = omega (arith, ap (λ (n : ℕ). p * n) e, mul-le-mul {n₁ = p} {m₁ = a} {n₂ = 4294967295} {m₂ = 4294967295} (omega arith) (omega arith))

    at : (y : ℕ) → y % 2 ≡ 1 → y * 2 ^ k ≡ a → State p a p y 0 1 k false
    at y yo e =
        record {
          whole = omega arith;
          x_odd = o;
          y_odd = yo;
          y_below = less y (2 ^ k) (pow_pos k) e;
          small = bound y (2 ^ k) e;
          first = ap ((Z p).mul (el p a)) (el-one p) ∙ (Z p).mul_one (el p a) ∙ ap (el p) (sym e ∙ mul_comm y (2 ^ k)) ∙ sym (one-mul (Z p) _);
          second =
              ap ((Z p).mul (el p a)) (el-zero p) ∙ mul-zero (Z p) (el p a) ∙ sym (neg-zero (Z p))
              ∙ ap (Z p).neg (sym (mul-zero (Z p) (Z p).one) ∙ ap ((Z p).mul (Z p).one) (sym (mul-zero (Z p) (el p (2 ^ k))) ∙ ap ((Z p).mul (el p (2 ^ k))) (sym (el_self p)) ∙ sym (el-mul p (2 ^ k) p)));
        }

flip_true : (p : ℕ) (n : Bool) → sign p (not (beq n true)) ≡ (Z p).neg (sign p n)
flip_true p true = sym (neg-neg (Z p) (Z p).one)
flip_true p false = refl

flip_false : (n : Bool) → n ≡ not (beq n false)
flip_false true = refl
flip_false false = refl

-- x and y differ, because p is a prime
differ : (p x y cx cy : ℕ) → Prime p → x * cy + y * cx ≡ p → 0 < y → y < p → ¬ (y ≡ 1) → ¬ (x ≡ y)
differ p x y cx cy h e pos l n same = omega (arith, prime-rest p h y (above y pos n) l, sym (ap (λ (m : ℕ). m % y) product) ∙ mul-mod_right y (cx + cy))
  where
    above : (y : ℕ) → 0 < y → ¬ (y ≡ 1) → 1 < y
    above y pos n = omega arith

    product : y * (cx + cy) ≡ p
    product = omega (arith, e, ap (λ (m : ℕ). m * cy) same)

pub record Turn (p a x y cx cy k z d c l : ℕ) (n : Bool) : Type 0 where
  pub zeros : z < 64
  pub state : State p a (d / 2 ^ z) l (cx + cy) (c * 2 ^ z % 18446744073709551616) (k + z) n
  pub less : d / 2 ^ z + l < x + y

module _ {p a x y cx cy k : ℕ} {n : Bool} (h : Prime p) (b : p < 4294967296) (s : State p a x y cx cy k n) (ne : ¬ (y ≡ 1)) where
  exactly : (w l c z : ℕ) (m : Bool) → State p a w l (cx + cy) (c * 2 ^ z) (k + z) m → State p a w l (cx + cy) (c * 2 ^ z % 18446744073709551616) (k + z) m
  exactly w l c z m t = subst (λ (e : ℕ). State p a w l (cx + cy) e (k + z) m) (sym (mod-eq_of_lt (fits (c * 2 ^ z) (state-sum t)))) t
    where
      fits : (e : ℕ) → cx + cy + e ≤ p → e < 18446744073709551616
      fits e g = omega arith

  lessens : (w z l r : ℕ) → w * 2 ^ z + l ≡ r → w + l ≤ r
  lessens w z l r e = omega (arith, e, mul-le-mul_left {m = 1} {n = 2 ^ z} w (pow_pos z))

  first_turn : (z d : ℕ) → Part z d → d < 18446744073709551616 → d + y ≡ x → Turn p a x y cx cy k z d cy y n
  first_turn z d part below e =
      let whole : d / 2 ^ z * 2 ^ z + y ≡ x = ap (λ (m : ℕ). m + y) (part-times z d part) ∙ e in
      record {
        zeros = part-below z d part below;
        state = exactly _ _ _ _ _ (greater_first s (d / 2 ^ z) z (part-odd z d part) whole);
        less = omega (arith, lessens (d / 2 ^ z) z y x whole, odd_pos y s.y_odd);
      }

  second_turn : (z d : ℕ) (m : Bool) → sign p m ≡ (Z p).neg (sign p n) → Part z d → d < 18446744073709551616 → d + x ≡ y → Turn p a x y cx cy k z d cx x m
  second_turn z d m flip part below e =
      let whole : d / 2 ^ z * 2 ^ z + x ≡ y = ap (λ (m : ℕ). m + x) (part-times z d part) ∙ e in
      record {
        zeros = part-below z d part below;
        state = exactly _ _ _ _ _ (greater_second s (d / 2 ^ z) z (part-odd z d part) whole m flip);
        less = omega (arith, lessens (d / 2 ^ z) z x y whole, odd_pos x s.x_odd);
      }

  at-chosen : {z d c l d' c' l' : ℕ} {m : Bool} → d ≡ d' → c ≡ c' → l ≡ l' → Turn p a x y cx cy k z d' c' l' m → Turn p a x y cx cy k z d c l m
  at-chosen {z} {d} {c} {l} {d'} {c'} {l'} {m} d_is c_is l_is t =
      subst (λ (i : ℕ). Turn p a x y cx cy k z i c l m) (sym d_is)
      (subst (λ (i : ℕ). Turn p a x y cx cy k z d' i l m) (sym c_is) (subst (λ (i : ℕ). Turn p a x y cx cy k z d' c' i m) (sym l_is) t))

  pub turn : (up down d c l : ℕ) → up < 18446744073709551616 → down < 18446744073709551616
      → (up + x) % 18446744073709551616 ≡ y → (down + y) % 18446744073709551616 ≡ x
      → d ≡ cond (ltb x y) up down → c ≡ cond (ltb x y) cx cy → l ≡ cond (ltb x y) x y
      → Turn p a x y cx cy k (count_trailing_zeros 64 down) d c l (not (beq n (ltb x y)))
  turn up down d c l up-below down-below up_is down_is d_is c_is l_is = go (ltb x y) refl d_is c_is l_is
    where
      z : ℕ
      z = count_trailing_zeros 64 down

      go : (t : Bool) → ltb x y ≡ t → d ≡ cond t up down → c ≡ cond t cx cy → l ≡ cond t x y → Turn p a x y cx cy k z d c l (not (beq n t))
      go true e d_is c_is l_is =
          let g = ltb-true x y e in
          let sum : up + x ≡ y = omega arith in
          let both : down + up ≡ 18446744073709551616 = omega arith in
          let part = part-other z down up (trailing 64 down (omega arith) down-below) (omega arith) both in
          at-chosen d_is c_is l_is (second_turn z up (not (beq n true)) (flip_true p n) part up-below sum)
      go false e d_is c_is l_is =
          let g = ltb-false x y e in
          let apart = differ p x y cx cy h s.whole (odd_pos y s.y_odd) s.y_below ne in
          let sum : down + y ≡ x = omega arith in
          let part = trailing 64 down (omega arith) down-below in
          at-chosen d_is c_is l_is (subst (Turn p a x y cx cy k z down cy y) (flip_false n) (first_turn z down part down-below sum))
