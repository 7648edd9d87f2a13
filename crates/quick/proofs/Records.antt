-- Divisors by value and their records, for the conditions of the quick sum.
--   given_31               a divisor of kind 31 that was read, with its kind in hand
--   given-number           the numbers of the record are those of the value
--   typical-there, typical-back    the record is typical exactly if the value is
--   same-there, same_back  the records are equal exactly if the numbers are the same
--   pivot_sum-is, pivot_double-is  the determinants by bytes are those by value
--   short-there, short_back        the curve is short exactly if its ground is
use mathlib.Core.Path.{◌≡◌, sym, ◌∙◌, ap, subst}
use mathlib.Core.List.{List, [], ◌∷◌}
use Prim.Native.Nat.{ℕ, zero, suc, ◌+◌, ◌*◌, ◌<◌, ◌≤◌}
use native.Mathlib.Omega.{arith}
use lib.ListN.{get_or, take}
use Rattle.algebra.specs.Ring.{CommRing}
use Rattle.algebra.proofs.Laws.{neg-zero, neg-neg}
use Rattle.field.specs.Residue.{Z, el}
use Rattle.field.proofs.Element.{el-zero, el_inj}
use Rattle.field.proofs.Invert.{prime-large}
use Rattle.curve.specs.Curve.{Curve}
use Rattle.divisor.specs.Kind.{Kind, k31}
use Rattle.columns.specs.Pivots.{pivot_sum, pivot_double}
use Rattle.layout.specs.Layout.{number4, record_bytes}
use Rattle.equation.specs.Equation.{curve_of}
use Rattle.ground.specs.declared.Ground.{Ground}
use Rattle.basis.specs.declared.Divisor.{Divisor}
use Rattle.basis.specs.Divisor.{numbers_of, residues, BasisValue}
use Rattle.record.specs.Curve.{modulus, equation, limit, accepted_prime, accepted_below}
use Rattle.record.specs.Divisor.{OfKind, number_at}
use Rattle.record.specs.Value.{bytes_of}
use Rattle.record.proofs.Written.{bytes_of-kind, bytes_of-number}
use Rattle.record.proofs.Accepted.{same_kind}
use Rattle.checks.specs.Contract.{equation_value}
use Rattle.reader.specs.Reading.{On, GivenOn}
use Rattle.usual.specs.Contract.{IsLower}
use Rattle.usual.proofs.Matrices.{lower-is}
use Rattle.entries.specs.Contract.{lower_of}
use Rattle.calls.specs.Quick.{Typical, Short}
use Rattle.quick.specs.Served.{ShortGround, TypicalValue}

-- what a divisor of kind 31 is, its kind in hand
pub record Given31 (c a : List ℕ) (x : Divisor) : Type 0 where
  pub based : BasisValue (modulus c) (equation c) k31 x
  pub bytes : bytes_of k31 x ≡ a
  pub limited : modulus c ≤ limit

module _ {c a : List ℕ} {x : Divisor} where
  pub given_31 : modulus c ≤ limit → GivenOn c a x → x.kind ≡ k31 → Given31 c a x
  given_31 l v e =
      let q = sym v.based.shaped.kind ∙ e in
      record { based = subst (λ κ. BasisValue (modulus c) (equation c) κ x) q v.based; bytes = subst (λ κ. bytes_of κ x ≡ a) q v.bytes; limited = l }

  pub given-number : Given31 c a x → (i : ℕ) → i < 9 → number4 a (4 + 4 * i) ≡ get_or (numbers_of x) i 0
  given-number h i l =
      ap (λ s. number4 s (4 + 4 * i)) (sym h.bytes) ∙ bytes_of-number k31 x (λ j. omega (arith, h.based.shaped.below j, h.limited)) i l

  pub given-residue : Given31 c a x → (i : ℕ) → i < 9 → number_at (modulus c) a i ≡ residues (modulus c) x i
  given-residue h i l = ap (el (modulus c)) (given-number h i l)

  pub typical-there : Given31 c a x → ¬ (x.n2 ≡ 0) → Typical a
  typical-there h n = record { kind = subst (λ s. OfKind s k31) h.bytes (bytes_of-kind k31 x); second = λ e. n (sym (given-number h 2 (omega arith)) ∙ e) }

pub typical-back : (c a : List ℕ) (x : Divisor) → modulus c ≤ limit → GivenOn c a x → Typical a → TypicalValue x
typical-back c a x l v t = record { kind = kind; second = λ e. t.second (given-number (given_31 l v kind) 2 (omega arith) ∙ e) }
  where
    kind : x.kind ≡ k31
    kind =
        v.based.shaped.kind
        ∙ (same_kind a v.kind k31 (subst (λ s. OfKind s v.kind) v.bytes (bytes_of-kind v.kind x)) t.kind)

-- nine elements by place
abbrev places : {A : Type 0} → A → A → A → A → A → A → A → A → A → ℕ → A
places e0 e1 e2 e3 e4 e5 e6 e7 e8 zero = e0
places e0 e1 e2 e3 e4 e5 e6 e7 e8 (suc zero) = e1
places e0 e1 e2 e3 e4 e5 e6 e7 e8 (suc (suc zero)) = e2
places e0 e1 e2 e3 e4 e5 e6 e7 e8 (suc (suc (suc zero))) = e3
places e0 e1 e2 e3 e4 e5 e6 e7 e8 (suc (suc (suc (suc zero)))) = e4
places e0 e1 e2 e3 e4 e5 e6 e7 e8 (suc (suc (suc (suc (suc zero))))) = e5
places e0 e1 e2 e3 e4 e5 e6 e7 e8 (suc (suc (suc (suc (suc (suc zero)))))) = e6
places e0 e1 e2 e3 e4 e5 e6 e7 e8 (suc (suc (suc (suc (suc (suc (suc zero))))))) = e7
places e0 e1 e2 e3 e4 e5 e6 e7 e8 (suc (suc (suc (suc (suc (suc (suc (suc i)))))))) = e8

module _ (k : CommRing) (n n' : ℕ → k.Car) (e : (i : ℕ) → i < 9 → n i ≡ n' i) where
  -- the numbers on the way from n to n'
  abbrev between : 𝕀 → ℕ → k.Car
  between t =
      places (e 0 (omega arith) t) (e 1 (omega arith) t) (e 2 (omega arith) t) (e 3 (omega arith) t) (e 4 (omega arith) t) (e 5 (omega arith) t) (e 6 (omega arith) t)
      (e 7 (omega arith) t) (e 8 (omega arith) t)

  double-same : (C : Curve k) → pivot_double C n ≡ pivot_double C n'
  double-same C t = pivot_double C (between t)

sum_same : (k : CommRing) (n n' m m' : ℕ → k.Car) → ((i : ℕ) → i < 9 → n i ≡ n' i) → ((i : ℕ) → i < 9 → m i ≡ m' i) → pivot_sum k n m ≡ pivot_sum k n' m'
sum_same k n n' m m' e f t = pivot_sum k (between k n n' e t) (between k m m' f t)

module _ {c a b : List ℕ} {x y : Divisor} (h : Given31 c a x) (h' : Given31 c b y) where
  pub same-there : numbers_of x ≡ numbers_of y → a ≡ b
  unfolding bytes_of
  same-there e = sym h.bytes ∙ ap (λ ns. record_bytes 31 (take 9 ns)) e ∙ h'.bytes

  pub same_back : a ≡ b → numbers_of x ≡ numbers_of y
  same_back e t =
      same 0 (omega arith) t ∷ same 1 (omega arith) t ∷ same 2 (omega arith) t ∷ same 3 (omega arith) t ∷ same 4 (omega arith) t ∷ same 5 (omega arith) t ∷ same 6 (omega arith) t
      ∷ same 7 (omega arith) t ∷ same 8 (omega arith) t ∷ []
    where
      same : (i : ℕ) → i < 9 → get_or (numbers_of x) i 0 ≡ get_or (numbers_of y) i 0
      same i l = sym (given-number h i l) ∙ ap (λ s. number4 s (4 + 4 * i)) e ∙ given-number h' i l

  pub pivot_sum-is : pivot_sum (Z (modulus c)) (number_at (modulus c) a) (number_at (modulus c) b) ≡ pivot_sum (Z (modulus c)) (residues (modulus c) x) (residues (modulus c) y)
  pivot_sum-is = sum_same (Z (modulus c)) _ _ _ _ (given-residue h) (given-residue h')

  pub pivot_double-is : pivot_double (equation c) (number_at (modulus c) a) ≡ pivot_double (equation c) (residues (modulus c) x)
  pivot_double-is = double-same (Z (modulus c)) _ _ (given-residue h) (equation c)

-- −c is zero exactly if c is
module _ (p n m : ℕ) (pos : 0 < p) (below : n < p) (below' : m < p) (e : el p n ≡ (Z p).neg (el p m)) where
  zero-there : n ≡ 0 → m ≡ 0
  zero-there h = el_inj p m 0 below' pos (sym (neg-neg (Z p) (el p m)) ∙ ap (Z p).neg (sym e ∙ ap (el p) h ∙ el-zero p) ∙ neg-zero (Z p) ∙ sym (el-zero p))

  zero-back : m ≡ 0 → n ≡ 0
  zero-back h = el_inj p n 0 below pos (e ∙ ap (Z p).neg (ap (el p) h ∙ el-zero p) ∙ neg-zero (Z p) ∙ sym (el-zero p))

module _ {c : List ℕ} {g : Ground} (o : On c g) where
  lower : IsLower (modulus c) (curve_of (equation_value c)) (lower_of g.cube)
  lower = lower-is o.ground.cube_is.cube

  large : 0 < modulus c
  large = omega (arith, prime-large (modulus c) (accepted_prime c o.accepted))

  pub short-there : ShortGround g → Short c
  short-there s =
      record {
        large = subst (λ p. 3 < p) o.ground.modulus s.large;
        c5 = zero-there (modulus c) _ _ large (o.ground.cube_is.vec.below 8) (accepted_below c o.accepted 5 (omega arith)) lower.n8_is s.at_8;
        c6 = zero-there (modulus c) _ _ large (o.ground.cube_is.vec.below 9) (accepted_below c o.accepted 6 (omega arith)) lower.n9_is s.at_9;
        c8 = zero-there (modulus c) _ _ large (o.ground.cube_is.vec.below 11) (accepted_below c o.accepted 8 (omega arith)) lower.n11_is s.at_11;
      }

  pub short_back : Short c → ShortGround g
  short_back s =
      record {
        large = subst (λ p. 3 < p) (sym o.ground.modulus) s.large;
        at_8 = zero-back (modulus c) _ _ large (o.ground.cube_is.vec.below 8) (accepted_below c o.accepted 5 (omega arith)) lower.n8_is s.c5;
        at_9 = zero-back (modulus c) _ _ large (o.ground.cube_is.vec.below 9) (accepted_below c o.accepted 6 (omega arith)) lower.n9_is s.c6;
        at_11 = zero-back (modulus c) _ _ large (o.ground.cube_is.vec.below 11) (accepted_below c o.accepted 8 (omega arith)) lower.n11_is s.c8;
      }
