-- Taking a lead away, and dividing by it.
--   cleared            what clear's store after axpy gives
--   made_monic         what make_monic's store after scale gives
--   already_monic      a vector with the lead 1 is left alone
use mathlib.Core.Path.{◌≡◌, refl, sym, ◌∙◌, ap, ap₂}
use mathlib.Core.List.{List}
use Prim.Native.Nat.{ℕ, suc, ◌+◌, ◌-◌, ◌/◌, ◌<◌}
use native.Mathlib.Omega.{arith}
use native.Mathlib.Decide.{dec_lt}
use lib.ListN.{length, set}
use Rattle.algebra.specs.Ring.{CommRing}
use Rattle.algebra.proofs.Laws as L
use Rattle.algebra.proofs.Solve.{solve, ◌⊞◌, ◌⊠◌, ⊟◌}
use Rattle.ideal.specs.Poles.{IsGap}
use Rattle.field.specs.Residue.{Z, el}
use Rattle.field.proofs.Element.{el-zero, el-one, el_pos}
use Rattle.field.specs.Inverse.{inverse}
use Rattle.prime_field.specs.Field.{F}
use Rattle.field.proofs.Invert.{prime-large, inverse_unique}
use Rattle.field.specs.Contract.{Is}
use Rattle.curve.specs.Curve.{Curve, Coordinate, constant}
use Rattle.curve.proofs.Coefficient.{constant-one, constant-neg, constant-mul}
use Rattle.vector.specs.Vector.{Vec, Top, at, res, element, x_to, scalar}
use Rattle.vector.specs.Contract.{Added, ClearAsked, Cleared, MonicAsked, MadeMonic, Scaled}
use Rattle.vector.proofs.Loop.{gap-zero, set_cases, vec_set}
use Rattle.vector.proofs.Element.{element-scale, added_value}

module _ {p n d c : ℕ} {v b w : List ℕ} (h : ClearAsked p v n b d) (i : Is p c ((Z p).neg (res p v n))) (a : Added p v c b (n - d) d w) where
  inside : n < length w
  inside = omega (arith, a.vec.len, h.inside)

  opposite : (R : CommRing) (u t : R.Car) → t ≡ R.one → R.add (R.mul (R.neg u) t) u ≡ R.zero
  opposite R u t e = ap (λ o. R.add (R.mul (R.neg u) o) u) e ∙ ap (λ o. R.add o u) (R.mul_one _) ∙ L.neg-add R u

  -- the store does what axpy would do at d, for b[d] is 1
  cleared_added : Added p v c b (n - d) (suc d) (set w n 0)
  cleared_added =
      record {
        vec = vec_set a.vec n 0 (omega (arith, i.below)) h.inside (λ g. refl);
        new = λ j l. set_cases (λ u. el p u ≡ (Z p).add ((Z p).mul (el p c) (res p b j)) (res p v (j + (n - d)))) w n 0 (j + (n - d)) inside (here j) (λ e. a.new j (omega (arith, h.fits)));
        low = λ m l. set_cases (λ u. u ≡ at v m) w n 0 m inside (λ e. absurd (omega arith)) (λ e. a.low m l);
        high = λ m l. set_cases (λ u. u ≡ at v m) w n 0 m inside (λ e. absurd (omega (arith, h.fits))) (λ e. a.high m (omega arith));
      }
    where
      here : (j : ℕ) → j + (n - d) ≡ n → el p 0 ≡ (Z p).add ((Z p).mul (el p c) (res p b j)) (res p v (j + (n - d)))
      here j e =
          let q : j ≡ d = omega (arith, h.fits) in
          el-zero p
          ∙ sym (opposite (Z p) (res p v n) (res p b j) (ap (res p b) q ∙ ap (el p) h.monic ∙ el-one p))
          ∙ ap₂ (λ u m. (Z p).add ((Z p).mul u (res p b j)) (res p v m)) (sym i.is) (sym e)

  take_back : (R : CommRing) (e s x b : R.Car) → e ≡ R.add (R.add e (R.mul (R.mul (R.neg s) x) b)) (R.mul (R.mul s x) b)
  take_back R = solve R 4 (λ e s x b. e) (λ e s x b. e ⊞ (⊟ s) ⊠ x ⊠ b ⊞ s ⊠ x ⊠ b) tt

  pub cleared : Cleared p v n b d (set w n 0)
  cleared =
      record {
        vec = cleared_added.vec;
        top = λ t m l. set_cases (λ u. u ≡ 0) w n 0 m inside (λ e. refl) (λ e. a.high m (omega (arith, h.fits)) ∙ t m (omega arith));
        value = value;
      }
    where
      value : (C : Curve (Z p)) → element p C v ≡ (Coordinate C).add (element p C (set w n 0)) ((Coordinate C).mul ((Coordinate C).mul (scalar p C (at v n)) (x_to p C ((n - d) / 3))) (element p C b))
      value C =
          take_back (Coordinate C) (element p C v) (scalar p C (at v n)) (x_to p C ((n - d) / 3)) (element p C b)
          ∙ ap (λ g. (Coordinate C).add g ((Coordinate C).mul ((Coordinate C).mul (scalar p C (at v n)) (x_to p C ((n - d) / 3))) (element p C b))) (sym whole)
        where
          whole : element p C (set w n 0) ≡ (Coordinate C).add (element p C v) ((Coordinate C).mul ((Coordinate C).mul ((Coordinate C).neg (scalar p C (at v n))) (x_to p C ((n - d) / 3))) (element p C b))
          whole =
              added_value p C h.v_vec h.b_vec (omega (arith, h.class, h.fits)) cleared_added h.b_top
              ∙ ap (λ g. (Coordinate C).add (element p C v) ((Coordinate C).mul ((Coordinate C).mul g (x_to p C ((n - d) / 3))) (element p C b))) (ap (constant C) i.is ∙ constant-neg C (res p v n))

module _ {p m : ℕ} {v : List ℕ} (h : MonicAsked p v m) where
  lead-nonzero : ¬ (res p v m ≡ (Z p).zero)
  lead-nonzero = el_pos p (at v m) h.lead (h.vec.below m)

  lead-inverse : (Z p).mul (res p v m) (inverse p (res p v m)) ≡ (Z p).one
  lead-inverse = (F p h.prime).mul_inv (res p v m) lead-nonzero

  -- from v' = u⁻¹·v for the lead u of v
  over_lead : {v' : List ℕ} → Vec p v' → at v' m ≡ 1 → Top v' (suc m) → ((n : ℕ) → res p v' n ≡ (Z p).mul (inverse p (res p v m)) (res p v n)) → MadeMonic p v m v'
  over_lead {v'} k o t e = record { vec = k; monic = o; top = t; value = value; back = back }
    where
      value : (C : Curve (Z p)) → element p C v' ≡ (Coordinate C).mul (constant C (inverse p (res p v m))) (element p C v)
      value C = element-scale p C v v' (inverse p (res p v m)) e

      back : (C : Curve (Z p)) → element p C v ≡ (Coordinate C).mul (scalar p C (at v m)) (element p C v')
      back C =
          sym (L.one-mul (Coordinate C) (element p C v))
          ∙ ap (λ g. (Coordinate C).mul g (element p C v)) (sym (constant-one C) ∙ ap (constant C) (sym lead-inverse) ∙ constant-mul C (res p v m) (inverse p (res p v m)))
          ∙ (Coordinate C).mul_assoc _ _ _
          ∙ ap ((Coordinate C).mul (scalar p C (at v m))) (sym (value C))

  pub already_monic : at v m ≡ 1 → MadeMonic p v m v
  already_monic o = over_lead h.vec o h.top (λ n. sym (L.one-mul (Z p) (res p v n)) ∙ ap (λ u. (Z p).mul u (res p v n)) one)
    where
      is_one : res p v m ≡ (Z p).one
      is_one = ap (el p) o ∙ el-one p

      one : (Z p).one ≡ inverse p (res p v m)
      one = inverse_unique p h.prime (res p v m) (Z p).one lead-nonzero ((Z p).mul_one _ ∙ is_one)

  pub made_monic : {c : ℕ} {w : List ℕ} → Is p c (inverse p (res p v m)) → Scaled p v c m w → MadeMonic p v m (set w m 1)
  made_monic {c} {w} i a =
      over_lead (vec_set a.vec m 1 (prime-large p h.prime) h.inside (λ g. absurd (gap g)))
      (set_cases (λ u. u ≡ 1) w m 1 m inside-w (λ e. refl) (λ e. absurd (e refl)))
      (λ n l. set_cases (λ u. u ≡ 0) w m 1 n inside-w (λ e. absurd (omega arith)) (λ e. a.high n (omega arith) ∙ h.top n l))
      (λ n. set_cases (λ u. el p u ≡ (Z p).mul (inverse p (res p v m)) (res p v n)) w m 1 n inside-w (here n) (λ e. there n e (dec_lt n m)))
    where
      inside-w : m < length w
      inside-w = omega (arith, a.vec.len, h.inside)

      gap : IsGap m → ⊥
      gap g = let z : at v m ≡ 0 = gap-zero h.vec m g in omega (arith, h.lead)

      here : (n : ℕ) → n ≡ m → el p 1 ≡ (Z p).mul (inverse p (res p v m)) (res p v n)
      here n e =
          el-one p
          ∙ sym lead-inverse
          ∙ (Z p).mul_comm _ _
          ∙ ap (λ k. (Z p).mul (inverse p (res p v m)) (res p v k)) (sym e)

      there : (n : ℕ) → ¬ (n ≡ m) → Dec (n < m) → res p w n ≡ (Z p).mul (inverse p (res p v m)) (res p v n)
      there n e (yes l) = a.new n l ∙ ap (λ u. (Z p).mul u (res p v n)) i.is
      there n e (no l) =
          ap (el p) (a.high n (omega arith) ∙ h.top n (omega arith))
          ∙ el-zero p
          ∙ sym (L.mul-zero (Z p) _)
          ∙ ap ((Z p).mul (inverse p (res p v m))) (sym (ap (el p) (h.top n (omega arith)) ∙ el-zero p))
