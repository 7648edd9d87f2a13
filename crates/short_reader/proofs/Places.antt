-- Where the numbers and the filling of a short record stand: 32 bits behind its start.
--   bits-behind        the bits of s from 32 + b on are those of its body from b on
--   number-bits        the i-th number by its bits
--   body_below         the body is as long as its bytes
--   filling-bits       the filling by its bits
--   filling-holds, filling-fails     these are 0 exactly if the filling is zero
--   filling-yes, filling-no, filling-answer      … as filling_zero reads them
use mathlib.Core.Path.{◌≡◌, sym, ap, ap₂, ◌∙◌}
use mathlib.Core.List.{List}
use Prim.Native.Nat.{ℕ, ◌+◌, ◌*◌, ◌/◌, ◌%◌, ◌^◌, ◌<◌}
use native.Mathlib.Nat.{div-eq_of_lt, div-lt_iff_lt-mul, mod-eq_of_lt, lt_of_lt_of_le}
use native.Mathlib.Omega.{arith}
use lib.ListN.{length, get_or, drop, length-drop}
use lib.Pow.{pow_pos, pow_mono, shr-shr, shr_lt}
use Rattle.std.specs.Prelude.{nat_eq}
use Rattle.algebra.specs.Answers.{Answers}
use Rattle.divisor.specs.Kind.{Kind, count}
use Rattle.layout.specs.Layout.{Bytes}
use Rattle.layout.proofs.Bytes.{bytes_drop}
use Rattle.packing.specs.Packing.{packed, unpacked, filled}
use Rattle.packing.proofs.Laws.{unpacked-at, packed_drop, packed-below}
use Rattle.record.specs.Cause.{Passes}
use Rattle.short.specs.Short.{width, OfShort, body, short_form}
use Rattle.short_reader.specs.Reading.{FillingZero}

module _ (s : List ℕ) (b : Bytes s) where
  pub bits-behind : (k : ℕ) → packed 8 s / 2 ^ (32 + k) ≡ body s / 2 ^ k
  bits-behind k = sym (shr-shr (packed 8 s) 32 k) ∙ ap (λ (n : ℕ). n / 2 ^ k) (sym (packed_drop 8 4 s b))

  pub number-bits : (w c i : ℕ) → i < c → packed 8 s / 2 ^ (32 + w * i) % 2 ^ w ≡ get_or (unpacked w c (body s)) i 0
  number-bits w c i h = ap (λ (n : ℕ). n % 2 ^ w) (bits-behind (w * i)) ∙ sym (unpacked-at w c (body s) i h)

  module _ (w c : ℕ) (long : length s ≡ 4 + filled w c) where
    body_below : body s < 2 ^ (8 + w * c)
    body_below =
        lt_of_lt_of_le (packed-below 8 (drop 4 s) (bytes_drop 4 s b)) (pow_mono {i = 8 * length (drop 4 s)} {j = 8 + w * c} (omega (arith, length-drop 4 s)))

    pub filling-bits : packed 8 s / 2 ^ (32 + w * c) % 2 ^ 8 ≡ body s / 2 ^ (w * c)
    filling-bits = ap (λ (n : ℕ). n % 2 ^ 8) (bits-behind (w * c)) ∙ mod-eq_of_lt (shr_lt 8 (w * c) body_below)

    pub filling-holds : packed 8 s / 2 ^ (32 + w * c) % 2 ^ 8 ≡ 0 → body s < 2 ^ (w * c)
    filling-holds e =
        let none : body s / 2 ^ (w * c) < 1 = omega (arith, filling-bits) in
        omega (arith, (div-lt_iff_lt-mul {k = 2 ^ (w * c)} {x = body s} {y = 1} (pow_pos (w * c))).0 none)

    pub filling-fails : body s < 2 ^ (w * c) → packed 8 s / 2 ^ (32 + w * c) % 2 ^ 8 ≡ 0
    filling-fails h = filling-bits ∙ div-eq_of_lt h

-- what is read of the form's kind and of the width
module _ (p : ℕ) (s : List ℕ) (b : Bytes s) (form : Passes (short_form p s)) (w n rest : ℕ) (wide : w ≡ width p)
    (many : (κ : Kind) → OfShort s κ → n ≡ count κ) (read : rest ≡ packed 8 s / 2 ^ (32 + w * n) % 2 ^ 8) where
  read_at : (κ : Kind) → OfShort s κ → rest ≡ packed 8 s / 2 ^ (32 + width p * count κ) % 2 ^ 8
  read_at κ e = read ∙ ap₂ (λ (v c : ℕ). packed 8 s / 2 ^ (32 + v * c) % 2 ^ 8) wide (many κ e)

  pub filling-yes : rest ≡ 0 → FillingZero p s
  filling-yes z κ e = filling-holds s b (width p) (count κ) (form.1.1.0 κ e) (sym (read_at κ e) ∙ z)

  pub filling-no : ¬ (rest ≡ 0) → ¬ FillingZero p s
  filling-no n f =
      let κ = form.1.0.0 in
      let e = form.1.0.1 in
      n (read_at κ e ∙ filling-fails s b (width p) (count κ) (form.1.1.0 κ e) (f κ e))

  pub filling-answer : Answers (FillingZero p s) (nat_eq rest 0)
  filling-answer = record { holds = λ e. filling-yes (grind arith); fails = λ e. filling-no (grind arith) }
