-- Document 02, 2026-01: "For p = 5, −1/2 becomes 2. Fractions are taken as written, so 5/5 is refused there."
--   half_becomes_two, least_becomes_two, fifths_refused    the examples hold by the definitions, and the call answers accordingly
use mathlib.Core.Path.{◌≡◌, refl, sym, ◌∙◌}
use mathlib.Core.Logic.{inl, inr}
use mathlib.Core.Bool.{Bool}
use mathlib.Core.List.{List, [], ◌∷◌}
use Prim.Native.Nat.{ℕ, suc, ◌+◌, ◌*◌, ◌%◌, ◌≤◌, ◌<◌}
use native.Mathlib.Omega.{arith}
use native.Mathlib.Nat.{zero-mod}
use lib.Dec.{T, ltb, eqb, ltb→lt, eqb→eq}
use lib.ListN.{length, get_or}
use lib.IntN.{ℤ, pos, negsuc}
use Rattle.algebra.proofs.Norm.{num}
use Rattle.algebra.proofs.Solve.{◌⊠◌}
use Rattle.algebra.proofs.Test.{both, both_left, both_right, all_below, all_below-at}
use Rattle.prime.specs.Prime.{Prime}
use Rattle.field.specs.Residue.{Z, el}
use Rattle.field.proofs.Element.{cancel, el-zero, el-add, el-mul, el-same}
use Rattle.layout.specs.Layout.{number2, number4, bytes2, bytes4, all_bytes4, record_bytes}
use Rattle.record.specs.Cause.{FirstCause, Passes}
use Rattle.record.specs.Curve.{limit, curve_kind, AcceptedCurve}
use Rattle.record.specs.Fractions.{fractions_kind, fractions_size, signed, numerator, denominator, residue, Quotient, AcceptedReduced, FractionsForm, fractions_stages}
use Rattle.calls.specs.Answer.{minus}
use Rattle.calls.proofs.Answers.{writes_refused, writes_enough}
use Rattle.calls.proofs.Determined.{reduce_determined}
use Rattle.worked.specs.Fractions.{minus_half, five_fifths, least_numerator, two, Becomes, Refused}
use Rattle.worked.proofs.Tests.{prime_sound}
use Rattle.worked.proofs.Vanish.{x, y}
use Rattle.worked.proofs.Accepted.{curve_sound}

-- c·d has the residue of a
abbrev same : (p : ℕ) → ℤ → (d c : ℕ) → Bool
same p (pos n) d c = eqb (c * d % p) (n % p)
same p (negsuc n) d c = eqb ((c * d + suc n) % p) 0

same_sound : (p : ℕ) (a : ℤ) (d c : ℕ) → T (same p a d c) → (Z p).mul (el p c) (el p d) ≡ residue p a
unfolding residue
same_sound p (pos n) d c t = sym (el-mul p c d) ∙ el-same p (c * d) n (eqb→eq (c * d % p) (n % p) t)
same_sound p (negsuc n) d c t =
    sym (el-mul p c d)
    ∙ cancel (Z p) (el p (c * d)) (el p (suc n)) ((Z p).neg (el p (suc n)))
    (sym (el-add p (c * d) (suc n)) ∙ el-same p (c * d + suc n) 0 (eqb→eq ((c * d + suc n) % p) 0 t ∙ sym (zero-mod p)) ∙ el-zero p)
    ((Z p).add_comm _ _ ∙ (Z p).add_neg _)

-- length and kind are right
abbrev formed : List ℕ → Bool
formed s = both (eqb (length s) fractions_size) (both (eqb (number2 s 0) (length s)) (eqb (number2 s 2) fractions_kind))

formed_sound : (s : List ℕ) → T (formed s) → FractionsForm s
formed_sound s t =
    let long = eqb→eq (length s) fractions_size (both_left (eqb (length s) fractions_size) _ t) in
    let t₁ = both_right (eqb (length s) fractions_size) _ t in
    let own = eqb→eq (number2 s 0) (length s) (both_left (eqb (number2 s 0) (length s)) _ t₁) in
    ((omega (arith, long), own), eqb→eq (number2 s 2) fractions_kind (both_right (eqb (number2 s 0) (length s)) _ t₁), long)

module _ (s : List ℕ) (p : ℕ) where
  -- p does not divide the i-th denominator, and c is the quotient
  abbrev divided : (i c : ℕ) → Bool
  divided i c = both (ltb 0 (denominator s i % p)) (both (ltb c p) (same p (numerator s i) (denominator s i) c))

  divided_sound : (i c : ℕ) → T (divided i c) → (¬ (denominator s i % p ≡ 0)) × Quotient p (numerator s i) (denominator s i) c
  divided_sound i c t =
      let unit = ltb→lt 0 (denominator s i % p) (both_left (ltb 0 (denominator s i % p)) _ t) in
      let t₁ = both_right (ltb 0 (denominator s i % p)) _ t in (
        λ e. omega (arith, unit, e),
        record {
          below = ltb→lt c p (both_left (ltb c p) _ t₁);
          times = same_sound p (numerator s i) (denominator s i) c (both_right (ltb c p) _ t₁);
        },
      )

  -- the nine numbers cs are the quotients
  abbrev all-divided : List ℕ → Bool
  all-divided cs = all_below (λ i. divided i (get_or cs i 0)) 9

  module _ (form : T (formed s)) (modulus : Prime p × (p ≤ limit)) where
    becomes : (cs : List ℕ) → length cs ≡ 9 → T (all-divided cs) → AcceptedCurve (record_bytes curve_kind (p ∷ cs))
        → Becomes s p (record_bytes curve_kind (p ∷ cs))
    becomes cs nine t A = (good, λ out r out' l e. reduce_determined s p out r _ out' _ e (writes_enough (fractions_stages s p) passes _ l good refl refl))
      where
        each : (i : ℕ) → i < 9 → (¬ (denominator s i % p ≡ 0)) × Quotient p (numerator s i) (denominator s i) (get_or cs i 0)
        each i l = divided_sound i (get_or cs i 0) (all_below-at (λ j. divided j (get_or cs j 0)) 9 t i l)

        good : AcceptedReduced s p (record_bytes curve_kind (p ∷ cs))
        good = (record { cs = cs; nine = nine; each = λ i l. (each i l).1; bytes = refl }, A)

        passes : Passes (fractions_stages s p)
        passes = (formed_sound s form, (modulus, (λ i l. (each i l).0, ((record_bytes curve_kind (p ∷ cs), good), tt))))

    refused : (i : ℕ) → i < 9 → denominator s i % p ≡ 0 → Refused s p 13
    refused i l e = (first, λ out r out' h. reduce_determined s p out r (minus 13) out' out h (writes_refused (fractions_stages s p) 13 first refl refl))
      where
        first : FirstCause (fractions_stages s p) 13
        first = inr (formed_sound s form, inr (modulus, inl (λ f. f i l e, refl)))

five : Prime 5 × (5 ≤ limit)
five = (prime_sound 5 tt, omega arith)

-- Fx = 4x³ and Fy = 3y²
two-accepted : AcceptedCurve two
unfolding number2 number4 bytes2 bytes4 all_bytes4 record_bytes
two-accepted = curve_sound two (record { s = num 3 ⊠ x; t = num 4 ⊠ y }) tt

abbrev two-numbers : List ℕ
two-numbers = 2 ∷ 0 ∷ 0 ∷ 0 ∷ 0 ∷ 0 ∷ 0 ∷ 0 ∷ 0 ∷ []

becomes_two : (s : List ℕ) → T (formed s) → T (all-divided s 5 two-numbers) → Becomes s 5 two
becomes_two s f t = becomes s 5 f five two-numbers refl t two-accepted

pub half_becomes_two : Becomes minus_half 5 two
unfolding number2 number4 bytes2 bytes4 all_bytes4 record_bytes signed
half_becomes_two = becomes_two minus_half tt tt

pub least_becomes_two : Becomes least_numerator 5 two
unfolding number2 number4 bytes2 bytes4 all_bytes4 record_bytes signed
least_becomes_two = becomes_two least_numerator tt tt

pub fifths_refused : Refused five_fifths 5 13
unfolding number2 number4 bytes2 bytes4 all_bytes4 record_bytes
fifths_refused = refused five_fifths 5 tt five 0 (omega arith) refl
