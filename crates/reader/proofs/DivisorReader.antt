-- What the reader of a divisor finds, stage by stage. r is the value that it reads of the bytes s, whose form is accepted, and κ their kind.
--   value-shaped, value-holds      r has the kind and the numbers of s
--   refused_8, refused_9, given    a number that is not below p; no basis; an accepted divisor
--   basis_asked, found-no_basis, found-basis    the same by the test of basis
--   next-short, next_field, next-refused, next-given     the record at the start of a list's bytes
use mathlib.Core.Path.{◌≡◌, refl, ap, ◌∙◌, subst}
use mathlib.Core.Bool.{Bool, true, false}
use mathlib.Core.Logic.{inl, inr}
use mathlib.Core.List.{List}
use Prim.Native.Nat.{ℕ, ◌+◌, ◌*◌, ◌<◌, ◌≤◌}
use native.Mathlib.Omega.{arith}
use Rattle.std.specs.Prelude.{Ok}
use native.Mathlib.Decide.{dec_lt}
use lib.ListN.{length, get_or, take, get_or-eq_default}
use Rattle.prime.specs.Prime.{Prime}
use Rattle.field.specs.Residue.{Z, el}
use Rattle.curve.specs.Curve.{Curve}
use Rattle.divisor.specs.Kind.{Kind, count, size, IsBasis}
use Rattle.layout.specs.Layout.{Bytes, number2, number4}
use Rattle.ground.specs.declared.Ground.{Ground}
use Rattle.ground.specs.Ground.{Grounded}
use Rattle.basis.specs.Divisor.{numbers_of, residues, Shaped}
use Rattle.basis.specs.declared.Divisor.{Divisor}
use Rattle.basis.specs.Contract.{BasisAsked, BasisTest}
use Rattle.record.specs.Cause.{FirstCause, Passes}
use Rattle.checks.specs.Contract.{AllBelow, ValueOf}
use Rattle.record.specs.Divisor.{OfKind, number_at, divisor_form, divisor_stages}
use Rattle.record.specs.Listed.{next_stages}
use Rattle.reader.specs.Reading.{DivisorGiven, NextRead}
use Rattle.record.proofs.Accepted.{Reads, reads_accepted, same_kind}
use Rattle.checks.proofs.Answer.{below_at, at-below}
use Rattle.divisor.proofs.Codes.{count_small, basis-same}
use Rattle.record.proofs.Written.{Holds, read_back, read_based}

module _ (p : ℕ) (prime : Prime p) (s : List ℕ) (r : Divisor) {κ : Kind} (is_kind : OfKind s κ) (v : ValueOf κ s r) (form : Passes (divisor_form s)) where
  long : length s ≡ size κ
  long = form.1.1.0 κ is_kind

  number_is : (i : ℕ) → i < count κ → get_or (numbers_of r) i 0 ≡ number4 s (4 + 4 * i)
  number_is i h = (v.number i (omega (arith, count_small κ))).is (omega (arith, long))

  -- past the count the value is 0
  number_past : (i : ℕ) → count κ ≤ i → get_or (numbers_of r) i 0 ≡ 0
  number_past i h = go (dec_lt i 9)
    where
      go : Dec (i < 9) → get_or (numbers_of r) i 0 ≡ 0
      go (yes l) = (v.number i l).past (omega (arith, long))
      go (no l) = get_or-eq_default (numbers_of r) 0 {n = i} (omega arith)

  all_below : ((i : ℕ) → i < count κ → number4 s (4 + 4 * i) < p) → (i : ℕ) → get_or (numbers_of r) i 0 < p
  all_below h i = go (dec_lt i (count κ))
    where
      go : Dec (i < count κ) → get_or (numbers_of r) i 0 < p
      go (yes l) = omega (arith, number_is i l, h i l)
      go (no l) = omega (arith, number_past i (omega arith), prime.two_le)

  bounds : AllBelow p (numbers_of r) → (i : ℕ) → i < count κ → number4 s (4 + 4 * i) < p
  bounds h i l = omega (arith, number_is i l, below_at p (numbers_of r) h i (omega (arith, count_small κ)))

  pub value-shaped : AllBelow p (numbers_of r) → Shaped p κ r
  value-shaped h = record { kind = v.kind; below = all_below (bounds h) }

  pub value-holds : AllBelow p (numbers_of r) → Holds p κ s r
  value-holds h = record { shaped = value-shaped h; number = number_is }

  module _ (C : Curve (Z p)) where
    pub refused_8 : ¬ AllBelow p (numbers_of r) → FirstCause (divisor_stages p C s) 8
    refused_8 n = inr (form.0, inr (form.1.0, inr (form.1.1.0, inl (λ h. n (at-below p (numbers_of r) (λ i _. all_below (h κ is_kind) i)), refl))))

    of_bounds : AllBelow p (numbers_of r) → (κ' : Kind) → OfKind s κ' → (i : ℕ) → i < count κ' → number4 s (4 + 4 * i) < p
    of_bounds h κ' e = subst (λ (q : Kind). (i : ℕ) → i < count q → number4 s (4 + 4 * i) < p) (same_kind s κ κ' is_kind e) (bounds h)

    pub refused_9 : AllBelow p (numbers_of r) → ¬ IsBasis C κ (residues p r) → FirstCause (divisor_stages p C s) 9
    refused_9 h n =
        inr (
          form.0,
          inr (
            form.1.0,
            inr (
              form.1.1.0,
              inr (of_bounds h, inl (λ b. n (read_based p C κ s r (value-holds h) (b κ is_kind)).basis, refl)),
            ),
          ),
        )

    pub given : AllBelow p (numbers_of r) → Bytes s → IsBasis C κ (residues p r) → DivisorGiven p C s r
    given h y b =
        record {
          accepted = reads_accepted p C κ s reads;
          kind = κ;
          based = record { shaped = value-shaped h; basis = b };
          bytes = read_back p C κ s r (value-holds h) y reads;
        }
      where
        reads : Reads p C κ s
        reads =
            record {
              kind = is_kind;
              own = form.0.1;
              long = long;
              below = bounds h;
              basis = basis-same C (residues p r) (number_at p s) κ (λ i l. ap (el p) (number_is i l)) b;
            }

module _ {g : Ground} (s : List ℕ) (r : Divisor) {κ : Kind} (is_kind : OfKind s κ) (v : ValueOf κ s r) (form : Passes (divisor_form s)) (below : AllBelow g.p (numbers_of r)) (G : Grounded g) where
  abbrev C : Curve (Z g.p)
  C = G.ready.setting.curve

  shaped : Shaped g.p κ r
  shaped = value-shaped g.p G.ready.setting.prime s r is_kind v form below

  pub basis_asked : BasisAsked g.p g.cube r
  basis_asked = record { ready = G.ready; kind = κ; shaped = shaped }

  pub found-no_basis : {b : Bool} → BasisTest g.p g.cube r b → b ≡ false → FirstCause (divisor_stages g.p C s) 9
  found-no_basis t n = refused_9 g.p G.ready.setting.prime s r is_kind v form C below ((t G.ready κ shaped).fails n)

  pub found-basis : {b : Bool} → BasisTest g.p g.cube r b → b ≡ true → Bytes s → DivisorGiven g.p C s r
  found-basis t y h = given g.p G.ready.setting.prime s r is_kind v form C below h ((t G.ready κ shaped).holds y)

module _ (p : ℕ) (C : Curve (Z p)) (s : List ℕ) where
  pub next-short : length s < 4 → FirstCause (next_stages p C s) 6
  next-short h = inl (λ g. omega arith, refl)

  module _ (long : 4 ≤ length s) where
    pub next_field : ¬ ((4 ≤ number2 s 0) × (number2 s 0 ≤ length s)) → FirstCause (next_stages p C s) 6
    next_field n = inr (long, inl (n, refl))

    module _ (n : ℕ) (own : n ≡ number2 s 0) (least : 4 ≤ n) (most : n ≤ length s) where
      field : (4 ≤ number2 s 0) × (number2 s 0 ≤ length s)
      field = (omega arith, omega arith)

      pub next-refused : (k : ℕ) → FirstCause (divisor_stages p C (take n s)) k → FirstCause (next_stages p C s) k
      next-refused k f = inr (long, inr (field, subst (λ (m : ℕ). FirstCause (divisor_stages p C (take m s)) k) own f))

      pub next-given : (r : Divisor) → DivisorGiven p C (take n s) r → NextRead p C s (Ok (r, n))
      next-given r g = ((long, (field, subst (λ (m : ℕ). Passes (divisor_stages p C (take m s))) own g.accepted)), own, g)
