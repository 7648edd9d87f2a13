-- What the end of the binary algorithm gives.
--   prime-odd              a prime above 2 is odd
--   power-inverse          2^k has an inverse modulo an odd p
--   end-most               the result is at most p
--   finish                 the result is the inverse of a
--   small-inverse          0 and 1 are their own inverses
use Rattle.std.proofs.Common.{cond, ◌≡◌, ℕ, zero, suc, ◌+◌, ◌-◌, ◌*◌, ◌/◌, ◌%◌, ◌^◌, ◌<◌, ◌≤◌, Bool, true, false, [], ◌∷◌, sym, ap, ◌∙◌, ap₂, pow-suc, mul-one, arith}
use native.Mathlib.Nat.{add-mul-mod_self_right}
use Rattle.algebra.specs.Ring.{CommRing}
use Rattle.algebra.proofs.Laws.{neg-neg, one-mul, mul-zero, mul-neg, neg-mul, zero-add}
use Rattle.algebra.proofs.Solve.{solve_from, given, ◌⊞◌, ◌⊠◌, ⊟◌}
use Rattle.algebra.proofs.Norm.{unit}
use Rattle.prime.specs.Prime.{Prime}
use Rattle.field.specs.Residue.{Z, el}
use Rattle.field.specs.Contract.{Is}
use Rattle.field.specs.Inverse.{inverse}
use Rattle.field.proofs.Element.{el-add, el-mul, el-zero, el-one, el_self, el-neg, el_pos, el-same}
use Rattle.field.proofs.Invert.{inverse-zero, inverse_unique, prime-large, prime-rest, one_not_zero}
use Rattle.inversion.specs.Contract.{End}
use Rattle.inversion.proofs.Binary.{State, sign}

pub prime-odd : (p : ℕ) → Prime p → 2 < p → p % 2 ≡ 1
prime-odd p h l = omega (arith, prime-rest p h 2 (omega arith) l)

module _ (p : ℕ) (o : p % 2 ≡ 1) where
  half-of-one : (Z p).mul (el p 2) (el p ((p + 1) / 2)) ≡ (Z p).one
  half-of-one =
      let twice : 2 * ((p + 1) / 2) ≡ p + 1 = omega arith in
      sym (el-mul p 2 _) ∙ ap (el p) twice ∙ el-add p p 1 ∙ ap₂ (Z p).add (el_self p) (el-one p) ∙ zero-add (Z p) _

  more-power : (Q I T J : (Z p).Car) → (Z p).mul Q I ≡ (Z p).one → (Z p).mul T J ≡ (Z p).one → (Z p).mul ((Z p).mul Q T) ((Z p).mul I J) ≡ (Z p).one
  more-power Q I T J e f =
      solve_from (Z p) 4 (λ Q I T J. given (T ⊠ J) (Q ⊠ I) unit ∷ given unit (T ⊠ J) unit ∷ []) (λ Q I T J. Q ⊠ T ⊠ (I ⊠ J)) (λ Q I T J. unit) tt Q I T J (e, (f, tt))

  pub power-inverse : (k : ℕ) → (i : (Z p).Car) × ((Z p).mul (el p (2 ^ k)) i ≡ (Z p).one)
  power-inverse zero = ((Z p).one, (Z p).mul_one _ ∙ el-one p)
  power-inverse (suc k) = (
    (Z p).mul (power-inverse k).0 (el p ((p + 1) / 2)),
    ap (λ q. (Z p).mul q ((Z p).mul (power-inverse k).0 (el p ((p + 1) / 2)))) (ap (el p) (pow-suc 2 k) ∙ el-mul p (2 ^ k) 2)
        ∙ more-power _ _ _ _ (power-inverse k).1 half-of-one,
  )

pub end-most : {p c k : ℕ} {n : Bool} {r : ℕ} → End p c k n r → r ≤ p
end-most {p} {n = n} {r = r} e = go n e.half.0 e.half.1.most e.half.2
  where
    go : (n : Bool) (q : ℕ) → q ≤ p → r ≡ cond n (p - q) q → r ≤ p
    go true q h d = omega arith
    go false q h d = omega arith

el-chosen : (p q : ℕ) (n : Bool) → q ≤ p → el p (cond n (p - q) q) ≡ (Z p).mul (sign p n) (el p q)
el-chosen p q true h = el-neg p q h ∙ ap (Z p).neg (sym (one-mul (Z p) _)) ∙ sym (neg-mul (Z p) _ _)
el-chosen p q false h = sym (one-mul (Z p) _)

sign_square : (p : ℕ) (n : Bool) → (Z p).mul (sign p n) (sign p n) ≡ (Z p).one
sign_square p true = neg-mul (Z p) _ _ ∙ ap (Z p).neg (mul-neg (Z p) _ _) ∙ neg-neg (Z p) _ ∙ (Z p).mul_one _
sign_square p false = (Z p).mul_one _

-- A·(G·Q) = S·Q, Q·I = 1, D = S·G and S·S = 1 make A·D = 1
divided : (R : CommRing) (A G Q I S D : R.Car) → R.mul A (R.mul G Q) ≡ R.mul S Q → R.mul Q I ≡ R.one → D ≡ R.mul S G → R.mul S S ≡ R.one
    → R.mul A D ≡ R.one
divided R A G Q I S D e f g h =
    solve_from R 6 (λ A G Q I S D. given (S ⊠ I) (A ⊠ (G ⊠ Q)) (S ⊠ Q) ∷ given (⊟ (S ⊠ (A ⊠ G ⊞ ⊟ S))) (Q ⊠ I) unit ∷ given A D (S ⊠ G) ∷ given unit (S ⊠ S) unit ∷ [])
    (λ A G Q I S D. A ⊠ D) (λ A G Q I S D. unit) tt A G Q I S D (e, (f, (g, (h, tt))))

module _ {p : ℕ} (h : Prime p) where
  below_p : (a r : ℕ) → r ≤ p → (Z p).mul (el p a) (el p r) ≡ (Z p).one → r < p
  below_p a r l e = strict r l (λ (same : r ≡ p). one_not_zero p (prime-large p h) (sym e ∙ ap ((Z p).mul (el p a)) (ap (el p) same ∙ el_self p) ∙ mul-zero (Z p) _))
    where
      strict : (r : ℕ) → r ≤ p → ¬ (r ≡ p) → r < p
      strict r l n = omega arith

  module _ {a x y cx cy k : ℕ} {n : Bool} {r : ℕ} (o : p % 2 ≡ 1) (pos : 0 < a) (below : a < p) where
    pub finish : State p a x y cx cy k n → y ≡ 1 → End p cy k n r → Is p r (inverse p (el p a))
    finish s one e =
        let q = e.half.0 in
        let m = e.half.1.is.0 in
        let Q = el p (2 ^ k) in
        let quotient : (Z p).mul (el p q) Q ≡ el p cy = sym (el-mul p q (2 ^ k)) ∙ ap (el p) e.half.1.is.1 ∙ el-same p (cy + m * p) cy (add-mul-mod_self_right cy m p) in
        let start : (Z p).mul (el p a) ((Z p).mul (el p q) Q) ≡ (Z p).mul (sign p n) Q =
        ap ((Z p).mul (el p a)) quotient ∙ s.first ∙ ap (λ (i : ℕ). (Z p).mul (sign p n) (el p (2 ^ k * i))) one ∙ ap (λ (i : ℕ). (Z p).mul (sign p n) (el p i)) (mul-one (2 ^ k)) in
        let signed : el p r ≡ (Z p).mul (sign p n) (el p q) = ap (el p) e.half.2 ∙ el-chosen p q n e.half.1.most in
        let product : (Z p).mul (el p a) (el p r) ≡ (Z p).one = divided (Z p) (el p a) (el p q) Q (power-inverse p o k).0 (sign p n) (el p r) start (power-inverse p o k).1 signed (sign_square p n) in
        record { below = below_p a r (end-most e) product; is = inverse_unique p h (el p a) (el p r) (el_pos p a pos below) product }

pub small-inverse : (p a : ℕ) → Prime p → a < 2 → Is p a (inverse p (el p a))
small-inverse p zero h l =
    record {
      below = omega (arith, prime-large p h);
      is = el-zero p ∙ sym (inverse-zero p (omega (arith, prime-large p h))) ∙ ap (inverse p) (sym (el-zero p));
    }
small-inverse p (suc zero) h l =
    record {
      below = prime-large p h;
      is = inverse_unique p h (el p 1) (el p 1) (el_pos p 1 (omega arith) (prime-large p h)) (ap ((Z p).mul (el p 1)) (el-one p) ∙ (Z p).mul_one _ ∙ el-one p);
    }
small-inverse p (suc (suc a)) h l = absurd (omega arith)
