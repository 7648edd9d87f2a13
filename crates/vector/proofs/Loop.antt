-- What one turn of each loop does, over plain variables.
--   gap-zero           a vector is 0 at a gap
--   set_cases          what holds of the new number at n and of the old ones elsewhere holds after a store
--   vec_set            a store keeps a vector, if the new number is below p, and 0 at a gap
--   zeros-at, zeros-vec           an array of zeros, and the zero vector
--   zero_is            a number below p whose residue is zero is 0
--   added_start, added_more, added_end            axpy; added_none with the factor 0, added_skip at a number 0
--   scaled_start, scaled_more, scaled_end         scale
--   paired_start, paired_more, paired_end         dot
use mathlib.Core.Path.{◌≡◌, refl, sym, ◌∙◌, ap, subst}
use mathlib.Core.List.{List}
use mathlib.Core.Logic.{inl, inr}
use Prim.Native.Nat.{ℕ, zero, suc, ◌+◌, ◌-◌, ◌%◌, ◌<◌, ◌≤◌}
use native.Mathlib.Omega.{arith}
use native.Mathlib.Decide.{ℕ_discrete}
use lib.ListN.{length, set, length-set, replicate}
use lib.Seq.{get_or-set_same, get_or-set_other}
use Rattle.algebra.proofs.Laws as L
use Rattle.field.specs.Residue.{Z, el}
use Rattle.field.proofs.Element.{el-zero, el_inj}
use Rattle.field.specs.Contract.{Is}
use Rattle.ideal.specs.Poles.{IsGap}
use Rattle.vector.specs.Vector.{Vec, at, res, width}
use Rattle.vector.specs.Contract.{AxpyAsked, Added, ScaleAsked, Scaled, total, pairing}

pub gap-zero : {p : ℕ} {v : List ℕ} → Vec p v → (n : ℕ) → IsGap n → at v n ≡ 0
gap-zero {v = v} h n (inl e) = ap (at v) e ∙ h.gap_1
gap-zero {v = v} h n (inr (inl e)) = ap (at v) e ∙ h.gap_2
gap-zero {v = v} h n (inr (inr e)) = ap (at v) e ∙ h.gap_5

pub set_cases : (P : ℕ → Type 0) (l : List ℕ) (n v m : ℕ) → n < length l → (m ≡ n → P v) → (¬ (m ≡ n) → P (at l m)) → P (at (set l n v) m)
set_cases P l n v m h f g = go (ℕ_discrete m n)
  where
    go : Dec (m ≡ n) → P (at (set l n v) m)
    go (yes e) = rw (e, get_or-set_same l n v 0 h) (f e)
    go (no e) = rw (get_or-set_other l n m v 0 e) (g e)

pub vec_set : {p : ℕ} {r : List ℕ} → Vec p r → (n v : ℕ) → v < p → n < width → (IsGap n → v ≡ 0) → Vec p (set r n v)
vec_set {p} {r} h n v b l z =
    record {
      len = length-set r n v ∙ h.len;
      below = λ m. set_cases (λ a. a < p) r n v m (omega arith) (λ e. b) (λ e. h.below m);
      gap_1 = set_cases (λ a. a ≡ 0) r n v 1 (omega arith) (λ e. z (inl (sym e))) (λ e. h.gap_1);
      gap_2 = set_cases (λ a. a ≡ 0) r n v 2 (omega arith) (λ e. z (inr (inl (sym e)))) (λ e. h.gap_2);
      gap_5 = set_cases (λ a. a ≡ 0) r n v 5 (omega arith) (λ e. z (inr (inr (sym e)))) (λ e. h.gap_5);
    }

gap_down : (i s : ℕ) → s % 3 ≡ 0 → IsGap (i + s) → IsGap i
gap_down i s h (inl e) = inl (omega arith)
gap_down i s h (inr (inl e)) = inr (inl (omega arith))
gap_down i s h (inr (inr e)) = go (ℕ_discrete i 5)
  where
    go : Dec (i ≡ 5) → IsGap i
    go (yes d) = inr (inr d)
    go (no d) = inr (inl (omega arith))

pub zero_is : {p v : ℕ} → 0 < p → Is p v (Z p).zero → v ≡ 0
zero_is {p} {v} h i = el_inj p v 0 i.below h (i.is ∙ sym (el-zero p))

pub added_start : {p c s e : ℕ} {r b : List ℕ} → AxpyAsked p r c b s e → Added p r c b s 0 r
added_start h =
    record { vec = h.r_vec; new = λ i l. absurd (omega arith); low = λ n l. refl; high = λ n l. refl }

pub added_none : {p c s e : ℕ} {r b : List ℕ} → AxpyAsked p r c b s e → c ≡ 0 → Added p r c b s e r
added_none {p} {c} {s} {e} {r} {b} h z =
    record { vec = h.r_vec; new = λ i l. sym (same i); low = λ n l. refl; high = λ n l. refl }
  where
    same : (i : ℕ) → (Z p).add ((Z p).mul (el p c) (res p b i)) (res p r (i + s)) ≡ res p r (i + s)
    same i =
        ap (λ a. (Z p).add ((Z p).mul a (res p b i)) (res p r (i + s))) (ap (el p) z ∙ el-zero p)
        ∙ ap (λ a. (Z p).add a (res p r (i + s))) (L.zero-mul (Z p) _)
        ∙ L.zero-add (Z p) _

pub added_more :
    {p c s e i v : ℕ} {r b r' : List ℕ} → AxpyAsked p r c b s e → Added p r c b s i r' → i < e →
    Is p v ((Z p).add ((Z p).mul (el p c) (res p b i)) (res p r' (i + s))) → Added p r c b s (i + 1) (set r' (i + s) v)
added_more {p} {c} {s} {e} {i} {v} {r} {b} {r'} h a l n =
    record {
      vec = vec_set a.vec (i + s) v n.below (omega (arith, h.room)) none;
      new = λ j m. set_cases (λ w. el p w ≡ (Z p).add ((Z p).mul (el p c) (res p b j)) (res p r (j + s))) r' (i + s) v (j + s) inside (λ d. here j (omega arith)) (λ d. a.new j (omega arith));
      low = λ j m. set_cases (λ w. w ≡ at r j) r' (i + s) v j inside (λ d. absurd (omega arith)) (λ d. a.low j m);
      high = λ j m. set_cases (λ w. w ≡ at r j) r' (i + s) v j inside (λ d. absurd (omega arith)) (λ d. a.high j (omega arith));
    }
  where
    inside : i + s < length r'
    inside = omega (arith, a.vec.len, h.room)

    here : (j : ℕ) → j ≡ i → el p v ≡ (Z p).add ((Z p).mul (el p c) (res p b j)) (res p r (j + s))
    here j d =
        n.is
        ∙ ap (λ w. (Z p).add ((Z p).mul (el p c) (res p b i)) (el p w)) (a.high (i + s) (omega arith))
        ∙ ap (λ k. (Z p).add ((Z p).mul (el p c) (res p b k)) (res p r (k + s))) (sym d)

    none : IsGap (i + s) → v ≡ 0
    none g =
        zero_is (omega (arith, h.c_below)) (record { below = n.below; is = n.is ∙ nothing })
      where
        nothing : (Z p).add ((Z p).mul (el p c) (res p b i)) (res p r' (i + s)) ≡ (Z p).zero
        nothing =
            ap (λ w. (Z p).add ((Z p).mul (el p c) (el p w)) (res p r' (i + s))) (gap-zero h.b_vec i (gap_down i s h.class g))
            ∙ ap (λ w. (Z p).add ((Z p).mul (el p c) (el p 0)) (el p w)) (gap-zero a.vec (i + s) g)
            ∙ ap (λ u. (Z p).add ((Z p).mul (el p c) u) u) (el-zero p)
            ∙ ap (λ u. (Z p).add u (Z p).zero) (L.mul-zero (Z p) _)
            ∙ (Z p).add_zero _

pub added_skip : {p c s i : ℕ} {r b r' : List ℕ} → Added p r c b s i r' → at b i ≡ 0 → Added p r c b s (i + 1) r'
added_skip {p} {c} {s} {i} {r} {b} {r'} a z =
    record {
      vec = a.vec;
      new = λ j m. go j m (ℕ_discrete j i);
      low = a.low;
      high = λ n m. a.high n (omega arith);
    }
  where
    here : res p r' (i + s) ≡ (Z p).add ((Z p).mul (el p c) (res p b i)) (res p r (i + s))
    here =
        ap (el p) (a.high (i + s) (omega arith))
        ∙ sym (cc (ap (el p) z, el-zero p, L.mul-zero (Z p) (el p c), L.zero-add (Z p) (res p r (i + s))))

    go : (j : ℕ) → j < i + 1 → Dec (j ≡ i) → res p r' (j + s) ≡ (Z p).add ((Z p).mul (el p c) (res p b j)) (res p r (j + s))
    go j m (yes d) = subst (λ k. res p r' (k + s) ≡ (Z p).add ((Z p).mul (el p c) (res p b k)) (res p r (k + s))) (sym d) here
    go j m (no d) = a.new j (omega arith)

pub added_end : {p c s e i : ℕ} {r b r' : List ℕ} → Added p r c b s i r' → i ≡ e → Added p r c b s e r'
added_end {p} {c} {s} {r = r} {b = b} {r' = r'} a d = subst (λ k. Added p r c b s k r') d a

pub scaled_start : {p c e : ℕ} {v : List ℕ} → ScaleAsked p v c e → Scaled p v c 0 v
scaled_start h = record { vec = h.v_vec; new = λ i l. absurd (omega arith); high = λ n l. refl }

pub scaled_more : {p c e i u : ℕ} {v v' : List ℕ} → ScaleAsked p v c e → Scaled p v c i v' → i < e → Is p u ((Z p).mul (el p c) (res p v' i)) → Scaled p v c (i + 1) (set v' i u)
scaled_more {p} {c} {e} {i} {u} {v} {v'} h a l n =
    record {
      vec = vec_set a.vec i u n.below (omega (arith, h.room)) none;
      new = λ j m. set_cases (λ w. el p w ≡ (Z p).mul (el p c) (res p v j)) v' i u j inside (λ d. here j d) (λ d. a.new j (omega arith));
      high = λ j m. set_cases (λ w. w ≡ at v j) v' i u j inside (λ d. absurd (omega arith)) (λ d. a.high j (omega arith));
    }
  where
    inside : i < length v'
    inside = omega (arith, a.vec.len, h.room)

    here : (j : ℕ) → j ≡ i → el p u ≡ (Z p).mul (el p c) (res p v j)
    here j d =
        n.is
        ∙ ap (λ w. (Z p).mul (el p c) (el p w)) (a.high i (omega arith))
        ∙ ap (λ k. (Z p).mul (el p c) (res p v k)) (sym d)

    none : IsGap i → u ≡ 0
    none g =
        zero_is (omega (arith, h.c_below))
        (record { below = n.below; is = n.is ∙ ap (λ w. (Z p).mul (el p c) (el p w)) (gap-zero a.vec i g) ∙ ap ((Z p).mul (el p c)) (el-zero p) ∙ L.mul-zero (Z p) _ })

pub scaled_end : {p c e i : ℕ} {v v' : List ℕ} → Scaled p v c i v' → i ≡ e → Scaled p v c e v'
scaled_end {p} {c} {v = v} {v' = v'} a d = subst (λ k. Scaled p v c k v') d a

pub zeros-at : (k n : ℕ) → at (replicate k 0) n ≡ 0
zeros-at zero n = refl
zeros-at (suc k) zero = refl
zeros-at (suc k) (suc n) = zeros-at k n

pub zeros-vec : (p : ℕ) → 0 < p → Vec p (replicate 26 0)
zeros-vec p h =
    record { len = refl; below = λ n. subst (λ a. a < p) (sym (zeros-at 26 n)) h; gap_1 = refl; gap_2 = refl; gap_5 = refl }

pub paired_start : (p : ℕ) (a b : List ℕ) (s from : ℕ) → 0 < p → Is p 0 (pairing p a b s from from)
paired_start p a b s from h =
    record { below = h; is = el-zero p ∙ ap (total (Z p) (λ i. (Z p).mul (res p a (from + i)) (res p b (from + i - s)))) {x = 0} {y = from - from} (omega arith) }

pub paired_more :
    {p r r' : ℕ} (a b : List ℕ) (s from n : ℕ) → from ≤ n → Is p r (pairing p a b s from n) →
    Is p r' ((Z p).add ((Z p).mul (res p a n) (res p b (n - s))) (el p r)) → Is p r' (pairing p a b s from (n + 1))
paired_more {p} {r} {r'} a b s from n h i j =
    record {
      below = j.below;
      is =
          j.is
          ∙ ap ((Z p).add ((Z p).mul (res p a n) (res p b (n - s)))) i.is
          ∙ ap (λ m. (Z p).add ((Z p).mul (res p a m) (res p b (m - s))) (pairing p a b s from n)) {x = n} {y = from + (n - from)} (omega arith)
          ∙ ap (total (Z p) (λ k. (Z p).mul (res p a (from + k)) (res p b (from + k - s)))) {x = suc (n - from)} {y = n + 1 - from} (omega arith);
    }

pub paired_end : {p r : ℕ} (a b : List ℕ) (s from n to : ℕ) → n - from ≡ to - from → Is p r (pairing p a b s from n) → Is p r (pairing p a b s from to)
paired_end {p} a b s from n to e i =
    record { below = i.below; is = i.is ∙ ap (total (Z p) (λ k. (Z p).mul (res p a (from + k)) (res p b (from + k - s)))) e }
