-- What is known in the loops over the coefficients.
--   Read s p i r               the denominators before ci are in r, modulo p
--   read_start, read_more, read_done           where the loop over the denominators begins, a turn of it, where it ends
--   Filled p d i r             the products up to that before place i are in r
--   filled-start, filled_more, filled_done     the same of the loop over the products
--   Divided s p d m i r        the quotients from ci on are in r, and m is the inverse of the product before place i
--   divided-start, divided-more, divided_done  the same of the loop over the quotients
use mathlib.Core.Path.{◌≡◌, refl, sym, ap, ap₂, ◌∙◌, subst}
use mathlib.Core.List.{List}
use Prim.Native.Nat.{ℕ, suc, ◌+◌, ◌-◌, ◌<◌, ◌≤◌}
use native.Mathlib.Omega.{arith}
use native.Mathlib.Decide.{ℕ_discrete}
use lib.ListN.{length, get_or, set, replicate, length-set}
use lib.Seq.{get_or-set_same, get_or-set_other}
use Rattle.field.specs.Residue.{Z, el}
use Rattle.field.specs.Contract.{Is}
use Rattle.field.specs.Inverse.{inverse}
use Rattle.field.proofs.Element.{el-one, el_pos}
use Rattle.prime_field.specs.Field.{F}
use Rattle.record.specs.Fractions.{residue, numerator, denominator, Quotient}
use Rattle.quotients.specs.Contract.{Residues, product_before, Products, QuotientsAsked, Quotients}
use Rattle.quotients.proofs.Denominators.{product-first, product_suc, unit_step, quotient_step}

-- what holds at each place that is asked for holds after a store
stored : (P : ℕ → ℕ → Type 0) (xs : List ℕ) (k v : ℕ) → k < length xs → P k v → (j : ℕ) → (¬ (j ≡ k) → P j (get_or xs j 0)) → P j (get_or (set xs k v) j 0)
stored P xs k v l at j other = go (ℕ_discrete j k)
  where
    go : Dec (j ≡ k) → P j (get_or (set xs k v) j 0)
    go (yes e) = subst (λ (i : ℕ). P i (get_or (set xs k v) i 0)) (sym e) (subst (P k) (sym (get_or-set_same xs k v 0 l)) at)
    go (no n) = subst (P j) (sym (get_or-set_other xs k j v 0 n)) (other n)

module _ (s : List ℕ) (p : ℕ) where
  pub record Read (i : ℕ) (r : List ℕ) : Type 0 where
    pub long : length r ≡ 9
    pub each : (j : ℕ) → j < i → Is p (get_or r j 0) (el p (denominator s j))

  pub read_start : Read 0 (replicate 9 0)
  read_start = record { long = refl; each = λ j h. absurd (omega arith) }

  pub read_more : {i v : ℕ} {r : List ℕ} → i < 9 → Read i r → Is p v (el p (denominator s i)) → Read (i + 1) (set r i v)
  read_more {i} {v} {r} l f hv =
      record {
        long = length-set r i v ∙ f.long;
        each = λ j h. stored (λ j n. Is p n (el p (denominator s j))) r i v (omega (arith, f.long)) hv j (λ n. f.each j (omega arith));
      }

  pub read_done : {i : ℕ} {r : List ℕ} → 9 ≤ i → Read i r → Residues s p r
  read_done l f = record { nine = f.long; each = λ i h. f.each i (omega arith) }

module _ (p : ℕ) (d : List ℕ) where
  pub record Filled (i : ℕ) (r : List ℕ) : Type 0 where
    pub long : length r ≡ 10
    pub each : (j : ℕ) → j ≤ i → Is p (get_or r j 0) (product_before p d j)

  pub filled-start : 1 < p → Filled 0 (replicate 10 1)
  filled-start l =
      record {
        long = refl;
        each = λ j h. subst (λ (k : ℕ). Is p (get_or (replicate 10 1) k 0) (product_before p d k)) (omega arith) (record { below = l; is = el-one p ∙ product-first p d });
      }

  pub filled_more : {i v : ℕ} {r : List ℕ} → i < 9 → Filled i r → Is p v ((Z p).mul (el p (get_or r i 0)) (el p (get_or d i 0)))
      → Filled (i + 1) (set r (i + 1) v)
  filled_more {i} {v} {r} l f hv = subst (λ (n : ℕ). Filled n (set r n v)) (omega arith) next
    where
      new : Is p v (product_before p d (suc i))
      new =
          record {
            below = hv.below;
            is = hv.is ∙ ap (λ (x : (Z p).Car). (Z p).mul x (el p (get_or d i 0))) (f.each i (omega arith)).is ∙ sym (product_suc p d i);
          }

      next : Filled (suc i) (set r (suc i) v)
      next =
          record {
            long = length-set r (suc i) v ∙ f.long;
            each = λ j h. stored (λ j n. Is p n (product_before p d j)) r (suc i) v (omega (arith, f.long)) new j (λ n. f.each j (omega arith));
          }

  pub filled_done : {i : ℕ} {r : List ℕ} → 9 ≤ i → Filled i r → Products p d r
  filled_done l f = record { ten = f.long; each = λ i h. f.each i (omega arith) }

module _ (s : List ℕ) (p : ℕ) (d : List ℕ) where
  pub record Divided (m i : ℕ) (r : List ℕ) : Type 0 where
    pub long : length r ≡ 9
    pub below : m < p
    pub inverse : (Z p).mul (product_before p d i) (el p m) ≡ (Z p).one
    pub each : (j : ℕ) → i ≤ j → j < 9 → Quotient p (numerator s j) (denominator s j) (get_or r j 0)

  pub divided-start : {before : List ℕ} {m : ℕ} → QuotientsAsked s p d before → Is p m (inverse p (el p (get_or before 9 0))) → Divided m 9 (replicate 9 0)
  divided-start {before} {m} a h =
      record {
        long = refl;
        below = h.below;
        inverse =
            ap₂ (Z p).mul (sym last.is) h.is ∙ (F p a.prime).mul_inv (el p (get_or before 9 0)) (el_pos p (get_or before 9 0) (omega (arith, a.unit)) last.below);
        each = λ j l g. absurd (omega arith);
      }
    where
      last : Is p (get_or before 9 0) (product_before p d 9)
      last = a.products.each 9 (omega arith)

  module _ {before r : List ℕ} {m i : ℕ} (few : i ≤ 9) (more : 0 < i) (a : QuotientsAsked s p d before) (g : Divided m i r) where
    abbrev k : ℕ
    k = i - 1

    f : Divided m (suc k) r
    f = subst (λ (n : ℕ). Divided m n r) (omega arith) g

    pub divided-more : {n v q m' : ℕ} → Is p n (residue p (numerator s k)) → Is p v ((Z p).mul (el p (get_or before k 0)) (el p m))
        → Is p q ((Z p).mul (el p n) (el p v)) → Is p m' ((Z p).mul (el p m) (el p (get_or d k 0))) → Divided m' k (set r k q)
    divided-more {n} {v} {q} {m'} hn hv hq hm =
        record {
          long = length-set r k q ∙ f.long;
          below = hm.below;
          inverse = unit_step p d k m f.inverse hm;
          each =
              λ j g b.
              stored (λ j c. Quotient p (numerator s j) (denominator s j) c) r k q (omega (arith, f.long))
              (quotient_step p d k m f.inverse (a.residues.each k (omega arith)) (a.products.each k (omega arith)) hn hv hq) j (λ n. f.each j (omega arith) b);
        }

  pub divided_done : {m i : ℕ} {r : List ℕ} → i ≤ 0 → Divided m i r → Quotients s p r
  divided_done l f = record { nine = f.long; each = λ i h. f.each i (omega arith) h }
