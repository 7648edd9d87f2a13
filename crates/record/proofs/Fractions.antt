-- Records of fractions, and the curve records that they are reduced to.
--   fractions_sound        what is checked refuses nothing that it passes, and with one number only
--   denominator-unit, denominator-zero     a denominator is not zero modulo p exactly if p does not divide it
--   quotient-one           there is at most one quotient by a number that p does not divide
--   reduced_exists, reduced-one    there is exactly one reduced curve, if p is a prime and divides no denominator
--   below-words            p and nine numbers below it are words
--   written-modulus, written-coefficient   what is read of the curve record of p and nine numbers
--   written-curve          it is accepted if p and the numbers pass and the curve is nonsingular
--   reduced-cause          the reduced curve can be refused with 5 only, as singular
use mathlib.Core.Path.{◌≡◌, refl, sym, ap, ◌∙◌, subst}
use mathlib.Core.Logic.{◌⊎◌, inl, inr}
use mathlib.Core.List.{List, [], ◌∷◌, ◌++◌}
use Prim.Native.Nat.{ℕ, zero, suc, ◌%◌, ◌<◌, ◌≤◌}
use native.Mathlib.Omega.{arith}
use native.Mathlib.Nat.{zero-mod}
use native.Mathlib.Decide.{dec_lt}
use lib.ListN.{length, get_or, get_or-eq_default}
use lib.Seq.{ext_get_or}
use lib.IntN.{ℤ}
use Rattle.algebra.specs.Ring.{CommRing, Field}
use Rattle.algebra.proofs.Norm.{unit}
use Rattle.algebra.proofs.Solve.{solve_from, given, ◌⊞◌, ◌⊠◌, ⊟◌}
use Rattle.prime.specs.Prime.{Prime}
use Rattle.field.specs.Residue.{Z, el, num}
use Rattle.field.proofs.Element.{el-zero, el-same, el_mod_same, el_inj, el-num, num-lt}
use Rattle.field.proofs.Invert.{prime-large}
use Rattle.prime_field.specs.Field.{F}
use Rattle.nonsingular.specs.Nonsingular.{Nonsingular}
use Rattle.layout.specs.Layout.{Words, number4, record_bytes}
use Rattle.layout.proofs.Bytes.{length_record}
use Rattle.layout.proofs.Record.{alone_length, alone-kind, alone-number}
use Rattle.record.specs.Cause.{Stage, FirstCause, Passes}
use Rattle.record.specs.Curve.{limit, curve_kind, modulus, coefficient_number, equation, curve_form, prime_stage, below_stage, nonsingular_stage, curve_stages, AcceptedCurve}
use Rattle.record.specs.Fractions.{numerator, denominator, residue, Quotient, ReducedCurve, DenominatorsPass, fractions_stages}
use Rattle.record.proofs.Cause.{AllSound, sound_must, passes_refuses, passes_append, first_append}

pub fractions_sound : (s : List ℕ) (p : ℕ) → AllSound (fractions_stages s p)
fractions_sound s p = (sound_must _ _, (sound_must _ _, (sound_must _ _, (sound_must _ _, tt))))

-- x·d = a and y·d = a make x = y, if d has the inverse i
same-quotient : (R : CommRing) (x y d i a : R.Car) → R.mul x d ≡ a → R.mul y d ≡ a → R.mul d i ≡ R.one → x ≡ y
same-quotient R x y d i a e f g =
    solve_from R 5 (λ x y d i a. given i (x ⊠ d) a ∷ given (⊟ i) (y ⊠ d) a ∷ given (y ⊞ ⊟ x) (d ⊠ i) unit ∷ []) (λ x y d i a. x) (λ x y d i a. y) tt
    x y d i a (e, (f, (g, tt)))

-- n·i times d is n, if d has the inverse i
quotient-times : (R : CommRing) (n d i : R.Car) → R.mul d i ≡ R.one → R.mul (R.mul n i) d ≡ n
quotient-times R n d i e = solve_from R 3 (λ n d i. given n (d ⊠ i) unit ∷ []) (λ n d i. n ⊠ i ⊠ d) (λ n d i. n) tt n d i (e, tt)

-- f 0, f 1, …, n of them
row : (ℕ → ℕ) → ℕ → List ℕ
row f zero = []
row f (suc n) = f 0 ∷ row (λ i. f (suc i)) n

row_length : (f : ℕ → ℕ) (n : ℕ) → length (row f n) ≡ n
unfolding row
row_length f zero = refl
row_length f (suc n) = ap suc (row_length (λ i. f (suc i)) n)

row_at : (f : ℕ → ℕ) (n i : ℕ) → i < n → get_or (row f n) i 0 ≡ f i
unfolding row
row_at f zero i l = absurd (omega arith)
row_at f (suc n) zero l = refl
row_at f (suc n) (suc i) l = row_at (λ i. f (suc i)) n i (omega arith)

module _ (p : ℕ) (h : Prime p) where
  pub denominator-zero : (d : ℕ) → d % p ≡ 0 → el p d ≡ (Z p).zero
  denominator-zero d e = el-same p d 0 (e ∙ sym (zero-mod p)) ∙ el-zero p

  pub denominator-unit : (d : ℕ) → ¬ (d % p ≡ 0) → ¬ (el p d ≡ (Z p).zero)
  denominator-unit d n e = n (el_mod_same p d 0 (omega (arith, prime-large p h)) (e ∙ sym (el-zero p)) ∙ zero-mod p)

  pub quotient-one : (a : ℤ) (d c c' : ℕ) → ¬ (d % p ≡ 0) → Quotient p a d c → Quotient p a d c' → c ≡ c'
  quotient-one a d c c' n q q' =
      el_inj p c c' q.below q'.below
      (same-quotient (Z p) (el p c) (el p c') (el p d) ((F p h).inv (el p d)) _ q.times q'.times ((F p h).mul_inv (el p d) (denominator-unit d n)))

  quotient : ℤ → ℕ → ℕ
  quotient a d = num p ((Z p).mul (residue p a) ((F p h).inv (el p d)))

  quotient_is : (a : ℤ) (d : ℕ) → ¬ (d % p ≡ 0) → Quotient p a d (quotient a d)
  unfolding quotient
  quotient_is a d n =
      record {
        below = num-lt p _ (omega (arith, prime-large p h));
        times =
            ap (λ (y : (Z p).Car). (Z p).mul y (el p d)) (el-num p _)
            ∙ quotient-times (Z p) (residue p a) (el p d) ((F p h).inv (el p d)) ((F p h).mul_inv (el p d) (denominator-unit d n));
      }

  pub reduced_exists : (s : List ℕ) → DenominatorsPass s p → (w : List ℕ) × ReducedCurve s p w
  reduced_exists s pass = (record_bytes curve_kind (p ∷ row c 9), record { cs = row c 9; nine = row_length c 9; each = each; bytes = refl })
    where
      c : ℕ → ℕ
      c i = quotient (numerator s i) (denominator s i)

      each : (i : ℕ) → i < 9 → Quotient p (numerator s i) (denominator s i) (get_or (row c 9) i 0)
      each i l = subst (Quotient p (numerator s i) (denominator s i)) (sym (row_at c 9 i l)) (quotient_is (numerator s i) (denominator s i) (pass i l))

  pub reduced-one : (s w w' : List ℕ) → DenominatorsPass s p → ReducedCurve s p w → ReducedCurve s p w' → w ≡ w'
  reduced-one s w w' n r r' = r.bytes ∙ ap (λ (cs : List ℕ). record_bytes curve_kind (p ∷ cs)) same ∙ sym r'.bytes
    where
      same : r.cs ≡ r'.cs
      same =
          ext_get_or 0 r.cs r'.cs (r.nine ∙ sym r'.nine)
          (λ i l. let l : i < 9 = omega (arith, r.nine) in quotient-one _ _ _ _ (n i l) (r.each i l) (r'.each i l))

-- what is checked of a curve record before 5
abbrev before_5 : List ℕ → List Stage
before_5 w = curve_form w ++ prime_stage (modulus w) ∷ below_stage (modulus w) (coefficient_number w) ∷ []

before_5_sound : (w : List ℕ) → AllSound (before_5 w)
before_5_sound w = (sound_must _ _, (sound_must _ _, (sound_must _ _, (sound_must _ _, (sound_must _ _, tt)))))

module _ (p : ℕ) (cs : List ℕ) (nine : length cs ≡ 9) where
  abbrev w : List ℕ
  w = record_bytes curve_kind (p ∷ cs)

  pub below-words : p ≤ limit → ((i : ℕ) → i < 9 → get_or cs i 0 < p) → Words (p ∷ cs)
  below-words few below zero = omega arith
  below-words few below (suc k) = go (dec_lt k 9)
    where
      go : Dec (k < 9) → get_or cs k 0 < 4294967296
      go (yes l) = omega (arith, below k l)
      go (no l) = omega (arith, get_or-eq_default cs 0 {n = k} (omega arith))

  module _ (words : Words (p ∷ cs)) where
    pub written-modulus : modulus w ≡ p
    written-modulus = alone-number curve_kind (p ∷ cs) words 0 (omega arith)

    pub written-coefficient : (i : ℕ) → i < 9 → coefficient_number w i ≡ get_or cs i 0
    written-coefficient i l =
        ap (λ (k : ℕ). number4 w k) (omega arith) ∙ alone-number curve_kind (p ∷ cs) words (suc i) (omega arith)

    module _ (prime : Prime p) (few : p ≤ limit) (below : (i : ℕ) → i < 9 → get_or cs i 0 < p) where
      before_5_passes : Passes (before_5 w)
      before_5_passes =
          let long : length w ≡ 44 = omega (arith, length_record curve_kind (p ∷ cs), nine) in
          let own = alone_length curve_kind (p ∷ cs) (omega (arith, nine)) in (
            (omega (arith, long), own),
            (
              alone-kind curve_kind (p ∷ cs) (omega arith),
              (
                long,
                (
                  subst (λ (n : ℕ). Prime n × (n ≤ limit)) (sym written-modulus) (prime, few),
                  (λ i l. rw (written-coefficient i l, written-modulus) (below i l), tt),
                ),
              ),
            ),
          )

      pub written-curve : Nonsingular (equation w) → AcceptedCurve w
      written-curve smooth = (passes_append (before_5 w) (nonsingular_stage (modulus w) (equation w) ∷ [])).1 (before_5_passes, (smooth, tt))

      written-cause : (n : ℕ) → FirstCause (curve_stages w) n → (n ≡ 5) × (¬ Nonsingular (equation w))
      written-cause n f = go ((first_append (before_5 w) (nonsingular_stage (modulus w) (equation w) ∷ []) n).0 f)
        where
          go : FirstCause (before_5 w) n ⊎ (Passes (before_5 w) × FirstCause (nonsingular_stage (modulus w) (equation w) ∷ []) n)
              → (n ≡ 5) × (¬ Nonsingular (equation w))
          go (inl g) = absurd (passes_refuses (before_5 w) (before_5_sound w) before_5_passes n g)
          go (inr (_, inl (x, e))) = (e, x)
          go (inr (_, inr (_, z))) = absurd z

pub reduced-cause : (s : List ℕ) (p : ℕ) (w : List ℕ) → Prime p → p ≤ limit → ReducedCurve s p w → (n : ℕ) → FirstCause (curve_stages w) n
    → (n ≡ 5) × (¬ Nonsingular (equation w))
reduced-cause s p w prime few r n f =
    subst (λ (v : List ℕ). (n ≡ 5) × (¬ Nonsingular (equation v))) (sym r.bytes)
    (written-cause p r.cs r.nine (below-words p r.cs r.nine few below) prime few below n (subst (λ (v : List ℕ). FirstCause (curve_stages v) n) r.bytes f))
  where
    below : (i : ℕ) → i < 9 → get_or r.cs i 0 < p
    below i l = (r.each i l).below
