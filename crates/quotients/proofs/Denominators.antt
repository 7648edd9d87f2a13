-- The products of the denominators before each coefficient's: what they say of the denominators, and how the quotients come from them.
--   zero-refused, unit-passes      the product of all is zero exactly if p divides some denominator
--   product-first, product_suc     the product before the first place, and before the next one
--   unit_step          from the inverse of a product to that of the one before it
--   quotient_step      the quotient at a place, from the product before it and the inverse of the product with it
use mathlib.Core.Path.{◌≡◌, refl, sym, ap, ap₂, ◌∙◌}
use mathlib.Core.List.{List, [], ◌∷◌}
use Prim.Native.Nat.{ℕ, zero, suc, ◌<◌}
use native.Mathlib.Omega.{arith}
use native.Mathlib.Decide.{ℕ_discrete}
use lib.ListN.{get_or}
use lib.IntN.{ℤ}
use Rattle.algebra.specs.Ring.{CommRing}
use Rattle.algebra.proofs.Laws as L
use Rattle.algebra.proofs.Norm.{unit}
use Rattle.algebra.proofs.Solve.{solve_from, given, ◌⊠◌}
use Rattle.prime.specs.Prime.{Prime}
use Rattle.field.specs.Residue.{Z, el}
use Rattle.field.specs.Contract.{Is}
use Rattle.field.proofs.Element.{el-zero, el_pos}
use Rattle.prime_field.specs.Field.{F}
use Rattle.curve.proofs.Poles.{no-zero_divisors}
use Rattle.record.specs.Fractions.{residue, denominator, Quotient, DenominatorsPass}
use Rattle.record.proofs.Fractions.{denominator-zero, denominator-unit}
use Rattle.quotients.specs.Contract.{Residues, product_before, Products}

-- q·m = 1 with q = b·d gives m·d times b = 1
unit_step_ring : (R : CommRing) (b d m : R.Car) → R.mul (R.mul b d) m ≡ R.one → R.mul b (R.mul m d) ≡ R.one
unit_step_ring R b d m e = solve_from R 3 (λ b d m. given unit (b ⊠ d ⊠ m) unit ∷ []) (λ b d m. b ⊠ (m ⊠ d)) (λ b d m. unit) tt b d m (e, tt)

quotient_step_ring : (R : CommRing) (b d m n : R.Car) → R.mul (R.mul b d) m ≡ R.one → R.mul (R.mul n (R.mul b m)) d ≡ n
quotient_step_ring R b d m n e =
    solve_from R 4 (λ b d m n. given n (b ⊠ d ⊠ m) unit ∷ []) (λ b d m n. n ⊠ (b ⊠ m) ⊠ d) (λ b d m n. n) tt b d m n (e, tt)

module _ (p : ℕ) (d : List ℕ) where
  pub product-first : (Z p).one ≡ product_before p d zero
  unfolding product_before
  product-first = refl

  pub product_suc : (i : ℕ) → product_before p d (suc i) ≡ (Z p).mul (product_before p d i) (el p (get_or d i 0))
  unfolding product_before
  product_suc i = refl

  product-zero : (i j : ℕ) → j < i → el p (get_or d j 0) ≡ (Z p).zero → product_before p d i ≡ (Z p).zero
  product-zero zero j l e = absurd (omega arith)
  product-zero (suc i) j l e = product_suc i ∙ go (ℕ_discrete j i) (product-zero i j)
    where
      go : Dec (j ≡ i) → (j < i → el p (get_or d j 0) ≡ (Z p).zero → product_before p d i ≡ (Z p).zero)
          → (Z p).mul (product_before p d i) (el p (get_or d i 0)) ≡ (Z p).zero
      go (yes q) h = ap ((Z p).mul (product_before p d i)) (ap (λ (k : ℕ). el p (get_or d k 0)) (sym q) ∙ e) ∙ L.mul-zero (Z p) (product_before p d i)
      go (no q) h = ap (λ (x : (Z p).Car). (Z p).mul x (el p (get_or d i 0))) (h (omega arith) e) ∙ L.zero-mul (Z p) (el p (get_or d i 0))

  module _ (h : Prime p) where
    product-unit : (i : ℕ) → ((j : ℕ) → j < i → ¬ (el p (get_or d j 0) ≡ (Z p).zero)) → ¬ (product_before p d i ≡ (Z p).zero)
    product-unit zero n e = (F p h).nontrivial (product-first ∙ e)
    product-unit (suc i) n e =
        n i (omega arith)
        (no-zero_divisors (F p h) (product_before p d i) (el p (get_or d i 0)) (sym (product_suc i) ∙ e)
        (product-unit i (λ j l. n j (omega arith))))

    module _ {s r : List ℕ} (residues : Residues s p d) (products : Products p d r) where
      last : Is p (get_or r 9 0) (product_before p d 9)
      last = products.each 9 (omega arith)

      pub zero-refused : get_or r 9 0 ≡ 0 → ¬ DenominatorsPass s p
      zero-refused e f =
          product-unit 9 (λ j l g. denominator-unit p h (denominator s j) (f j l) (sym (residues.each j l).is ∙ g)) (sym last.is ∙ ap (el p) e ∙ el-zero p)

      pub unit-passes : ¬ (get_or r 9 0 ≡ 0) → DenominatorsPass s p
      unit-passes n i l e =
          el_pos p (get_or r 9 0) (omega (arith, n)) last.below
          (last.is ∙ product-zero 9 i l ((residues.each i l).is ∙ denominator-zero p h (denominator s i) e))

-- the loop from the last coefficient to the first: m is the inverse of the product before the coefficient k + 1
module _ (p : ℕ) (d : List ℕ) (k m : ℕ) (inverse : (Z p).mul (product_before p d (suc k)) (el p m) ≡ (Z p).one) where
  abbrev b : (Z p).Car
  b = product_before p d k

  abbrev x : (Z p).Car
  x = el p (get_or d k 0)

  parts : (Z p).mul ((Z p).mul b x) (el p m) ≡ (Z p).one
  parts = ap (λ (y : (Z p).Car). (Z p).mul y (el p m)) (sym (product_suc p d k)) ∙ inverse

  pub unit_step : {m' : ℕ} → Is p m' ((Z p).mul (el p m) x) → (Z p).mul b (el p m') ≡ (Z p).one
  unit_step e = ap ((Z p).mul b) e.is ∙ unit_step_ring (Z p) b x (el p m) parts

  pub quotient_step : {a : ℤ} {e b' n v q : ℕ} → Is p (get_or d k 0) (el p e) → Is p b' b → Is p n (residue p a) → Is p v ((Z p).mul (el p b') (el p m))
      → Is p q ((Z p).mul (el p n) (el p v)) → Quotient p a e q
  quotient_step {a} {e} {b'} {n} {v} {q} hd hb hn hv hq =
      record {
        below = hq.below;
        times =
            ap₂ (Z p).mul (hq.is ∙ ap₂ (Z p).mul hn.is (hv.is ∙ ap (λ (y : (Z p).Car). (Z p).mul y (el p m)) hb.is)) (sym hd.is)
            ∙ quotient_step_ring (Z p) b x (el p m) (residue p a) parts;
      }
