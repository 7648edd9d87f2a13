-- What the reader of a short record finds, stage by stage. The form of the bytes s is accepted; κ is the kind for which s stands, and `long` the record.
--   old-kind, short-kind     the number n of the kind of s is 100 more than that of the kind for which s stands
--   number-moved       a number by another name of the width and of the count
--   value-bytes        the record of the value that is read of s is `long`
--   long-cause         `long` is refused with 8 or with 9
--   refused_8, refused_15, refused_9     a number that is not below p; a filling bit; no basis
--   refused            `long` is refused, and no filling bit is set
--   given_15, given    `long` is accepted: a filling bit; an accepted short record
use mathlib.Core.Path.{◌≡◌, refl, sym, ap, ◌∙◌, subst}
use mathlib.Core.Logic.{◌⊎◌, inl, inr}
use mathlib.Core.List.{List}
use Prim.Native.Nat.{ℕ, ◌+◌, ◌-◌, ◌*◌, ◌<◌, ◌≤◌}
use native.Mathlib.Omega.{arith}
use lib.ListN.{length, get_or, take}
use lib.Seq.{ext_get_or, get_or-take, length-take-le}
use Rattle.std.specs.Prelude.{Ok}
use Rattle.field.specs.Residue.{Z, el}
use Rattle.curve.specs.Curve.{Curve}
use Rattle.divisor.specs.Kind.{Kind, code, count, size, IsBasis}
use Rattle.divisor.proofs.Codes.{count_small, basis-same}
use Rattle.layout.specs.Layout.{number2, number4, record_bytes}
use Rattle.packing.proofs.Laws.{length_unpacked}
use Rattle.basis.specs.Divisor.{numbers_of}
use Rattle.basis.specs.declared.Divisor.{Divisor}
use Rattle.record.specs.Cause.{FirstCause, Passes}
use Rattle.record.specs.Divisor.{OfKind, number_at, divisor_stages}
use Rattle.record.specs.Value.{bytes_of}
use Rattle.record.proofs.Accepted.{same_kind}
use Rattle.record.proofs.Written.{written-kind, written_length, written-own, written-number}
use Rattle.reader.specs.Reading.{DivisorGiven}
use Rattle.short.specs.Short.{width, OfShort, body, short_numbers, short_residue, short_form, short_stages}
use Rattle.short.proofs.Accepted.{same-short, short-words}
use Rattle.short_reader.specs.Reading.{Number, ValueOf, FillingZero, ShortRead}

pub old-kind : (s : List ℕ) (κ : Kind) (n : ℕ) → n ≡ number2 s 2 → OfShort s κ → n - 100 ≡ code κ
old-kind s κ n e h = omega (arith, h)

pub short-kind : (s : List ℕ) (κ : Kind) (n : ℕ) → n ≡ number2 s 2 → 100 ≤ n → n - 100 ≡ code κ → OfShort s κ
short-kind s κ n e least h = omega (arith, e)

pub number-moved : {w w' c c' : ℕ} → w ≡ w' → c ≡ c' → (s : List ℕ) (i n : ℕ) → Number w c s i n → Number w' c' s i n
number-moved {w} {w'} {c} {c'} e f s i n h = subst (λ (v : ℕ). Number v c' s i n) e (subst (λ (d : ℕ). Number w d s i n) f h)

abbrev pub long_of : ℕ → Kind → List ℕ → List ℕ
long_of p κ s = record_bytes (code κ) (short_numbers p κ s)

pub value-bytes : (p : ℕ) (κ : Kind) (s : List ℕ) (x : Divisor) → ValueOf p s κ x → bytes_of κ x ≡ long_of p κ s
unfolding bytes_of
value-bytes p κ s x v =
    let many : length (take (count κ) (numbers_of x)) ≡ count κ = length-take-le (count κ) (numbers_of x) (count_small κ) in
    ap (record_bytes (code κ))
    (ext_get_or
    0
    (take (count κ) (numbers_of x))
    (short_numbers p κ s)
    (many ∙ sym (length_unpacked (width p) (count κ) (body s)))
    (λ i l.
    let few : i < count κ = omega (arith, many) in
    get_or-take (count κ) (numbers_of x) i 0 few ∙ (v.number i (omega (arith, count_small κ))).is few))

module _ (p : ℕ) (C : Curve (Z p)) (fits : p ≤ 4294967296) (s : List ℕ) (form : Passes (short_form p s)) where
  abbrev κ : Kind
  κ = form.1.0.0

  is_short : OfShort s κ
  is_short = form.1.0.1

  abbrev long : List ℕ
  long = long_of p κ s

  many : length (short_numbers p κ s) ≡ count κ
  many = length_unpacked (width p) (count κ) (body s)

  long-kind : OfKind long κ
  long-kind = written-kind κ (short_numbers p κ s) many

  number_is : (i : ℕ) → i < count κ → number4 long (4 + 4 * i) ≡ get_or (short_numbers p κ s) i 0
  number_is i l = written-number κ (short_numbers p κ s) many (short-words p C fits κ s) i l

  residue-is : (i : ℕ) → i < count κ → number_at p long i ≡ short_residue p κ s i
  residue-is i l = ap (el p) (number_is i l)

  -- what holds for κ holds for every kind for which s stands
  for_kind : (P : Kind → Type 0) → P κ → (κ' : Kind) → OfShort s κ' → P κ'
  for_kind P h κ' e = subst P (same-short s κ κ' is_short e) h

  abbrev Below : Type 0
  Below = (κ' : Kind) → OfKind long κ' → (i : ℕ) → i < count κ' → number4 long (4 + 4 * i) < p

  abbrev Based : Type 0
  Based = (κ' : Kind) → OfKind long κ' → IsBasis C κ' (number_at p long)

  pub long-cause : (n : ℕ) → FirstCause (divisor_stages p C long) n → ((¬ Below) × (n ≡ 8)) ⊎ (Below × (¬ Based) × (n ≡ 9))
  long-cause n (inl (fails, e)) = absurd (fails (omega (arith, written_length κ (short_numbers p κ s) many), written-own κ (short_numbers p κ s) many))
  long-cause n (inr (_, inl (fails, e))) = absurd (fails (κ, long-kind))
  long-cause n (inr (_, inr (_, inl (fails, e)))) =
      absurd (fails (λ κ' q. subst (λ (k : Kind). length long ≡ size k) (same_kind long κ κ' long-kind q) (written_length κ (short_numbers p κ s) many)))
  long-cause n (inr (_, inr (_, inr (_, inl r)))) = inl r
  long-cause n (inr (_, inr (_, inr (_, inr (b, inl r))))) = inr (b, r.0, r.1)
  long-cause n (inr (_, inr (_, inr (_, inr (b, inr (_, f)))))) = absurd f

  short-below : Below → (κ' : Kind) → OfShort s κ' → (i : ℕ) → i < count κ' → get_or (short_numbers p κ' s) i 0 < p
  short-below h =
      for_kind (λ (q : Kind). (i : ℕ) → i < count q → get_or (short_numbers p q s) i 0 < p)
      (λ i l. subst (λ (m : ℕ). m < p) (number_is i l) (h κ long-kind i l))

  pub refused_8 : (n : ℕ) → FirstCause (divisor_stages p C long) n → n ≡ 8 → FirstCause (short_stages p C s) 8
  refused_8 n f e = go (long-cause n f)
    where
      go : ((¬ Below) × (n ≡ 8)) ⊎ (Below × (¬ Based) × (n ≡ 9)) → FirstCause (short_stages p C s) 8
      go (inl (fails, _)) =
          inr (
            form.0,
            inr (
              form.1.0,
              inr (
                form.1.1.0,
                inl (
                  λ h.
                      fails
                      (λ κ' q.
                      subst (λ (k : Kind). (i : ℕ) → i < count k → number4 long (4 + 4 * i) < p) (same_kind long κ κ' long-kind q)
                      (λ i l. subst (λ (m : ℕ). m < p) (sym (number_is i l)) (h κ is_short i l))),
                  refl,
                ),
              ),
            ),
          )
      go (inr (_, _, nine)) = absurd (omega (arith, e, nine))

  pub filling-cause : Below → ¬ FillingZero p s → FirstCause (short_stages p C s) 15
  filling-cause h n = inr (form.0, inr (form.1.0, inr (form.1.1.0, inr (short-below h, inl (n, refl)))))

  pub refused_15 : (n : ℕ) → FirstCause (divisor_stages p C long) n → ¬ (n ≡ 8) → ¬ FillingZero p s → FirstCause (short_stages p C s) 15
  refused_15 n f e z = go (long-cause n f)
    where
      go : ((¬ Below) × (n ≡ 8)) ⊎ (Below × (¬ Based) × (n ≡ 9)) → FirstCause (short_stages p C s) 15
      go (inl (_, eight)) = absurd (e eight)
      go (inr (h, _, _)) = filling-cause h z

  pub refused_9 : (n : ℕ) → FirstCause (divisor_stages p C long) n → ¬ (n ≡ 8) → FillingZero p s → FirstCause (short_stages p C s) n
  refused_9 n f e z = go (long-cause n f)
    where
      go : ((¬ Below) × (n ≡ 8)) ⊎ (Below × (¬ Based) × (n ≡ 9)) → FirstCause (short_stages p C s) n
      go (inl (_, eight)) = absurd (e eight)
      go (inr (h, fails, nine)) =
          inr (
            form.0,
            inr (
              form.1.0,
              inr (
                form.1.1.0,
                inr (
                  short-below h,
                  inr (
                    z,
                    inl (
                      λ b.
                          fails
                          (λ κ' q.
                          subst (λ (k : Kind). IsBasis C k (number_at p long)) (same_kind long κ κ' long-kind q)
                          (basis-same C (short_residue p κ s) (number_at p long) κ (λ i l. sym (residue-is i l)) (b κ is_short))),
                      nine,
                    ),
                  ),
                ),
              ),
            ),
          )

  pub refused : (n : ℕ) → FirstCause (divisor_stages p C long) n → FillingZero p s → FirstCause (short_stages p C s) n
  refused n f z = go (long-cause n f)
    where
      go : ((¬ Below) × (n ≡ 8)) ⊎ (Below × (¬ Based) × (n ≡ 9)) → FirstCause (short_stages p C s) n
      go (inl (_, eight)) = subst (FirstCause (short_stages p C s)) (sym eight) (refused_8 n f eight)
      go (inr (_, _, nine)) = refused_9 n f (λ eight. absurd (omega (arith, eight, nine))) z

  pub given_15 : {r : Divisor} → DivisorGiven p C long r → ¬ FillingZero p s → FirstCause (short_stages p C s) 15
  given_15 g z = filling-cause g.accepted.1.1.1.0 z

  pub given : {r : Divisor} → DivisorGiven p C long r → FillingZero p s → ShortRead p C s (Ok r)
  given g z = (
    (
      form.0,
      (
        form.1.0,
        (
          form.1.1.0,
          (
            short-below g.accepted.1.1.1.0,
            (
              z,
              (
                for_kind (λ (q : Kind). IsBasis C q (short_residue p q s))
                    (basis-same C (number_at p long) (short_residue p κ s) κ residue-is (g.accepted.1.1.1.1.0 κ long-kind)),
                tt,
              ),
            ),
          ),
        ),
      ),
    ),
    (κ, is_short, g),
  )
