-- What the reader of a short record finds on a ground, by what it reads of the record of the value x.
--   of_8                       the refusal with the number 8
--   positive, short_asked      the modulus of a ground is not 0; so a form that is accepted may be read
--   cause-form                 a form that is not accepted
--   found_8                    the record is refused with 8
--   found_15                   it is not, and the filling is not zero
--   found-read                 the filling is zero: what is read of the record stands
use mathlib.Core.Path.{◌≡◌, refl, ap, ◌∙◌, subst}
use mathlib.Core.Logic.{inl}
use mathlib.Core.List.{List}
use Prim.Native.Nat.{ℕ, ◌<◌, ◌≤◌}
use native.Mathlib.Omega.{arith}
use Rattle.std.specs.Prelude.{Result, Ok, Err}
use Rattle.field.specs.Residue.{Z}
use Rattle.curve.specs.Curve.{Curve}
use Rattle.ground.specs.declared.Ground.{Ground}
use Rattle.ground.specs.Ground.{Grounded}
use Rattle.basis.specs.declared.Divisor.{Divisor}
use Rattle.refusal.specs.Refusal.{number_of}
use Rattle.refusal.specs.declared.Refusal.{Refusal}
use Rattle.refusal.specs.declared.Refusal.TheVariants as refusal
use Rattle.record.specs.Cause.{FirstCause, Passes}
use Rattle.record.specs.Value.{bytes_of}
use Rattle.record.proofs.Cause.{first_append}
use Rattle.divisor.specs.Kind.{Kind}
use Rattle.reader.specs.Reading.{DivisorRead}
use Rattle.short.proofs.Accepted.{same-short}
use Rattle.short.specs.Short.{OfShort, short_form, short_rest, short_stages}
use Rattle.short_reader.specs.Reading.{ShortAsked, ValueOf, FillingZero, ValueRead, ShortRead}
use Rattle.short_reader.proofs.ShortReader.{long_of, value-bytes, refused_8, refused_15, refused, given_15, given}

of_8 : (n : Refusal) → number_of n ≡ 8 → n ≡ refusal.Number
of_8 refusal.Number e = refl
of_8 n e = absurd (omega (arith, e))

module _ {g : Ground} (G : Grounded g) where
  abbrev C : Curve (Z g.p)
  C = G.ready.setting.curve

  pub positive : 0 < g.p
  positive = omega (arith, G.ready.setting.prime.two_le)

  fits : g.p ≤ 4294967296
  fits = omega (arith, G.small)

  pub short_asked : {s : List ℕ} → Passes (short_form g.p s) → ShortAsked g.p s
  short_asked f = record { positive = positive; form = f }

  pub cause-form : (s : List ℕ) (n : ℕ) → FirstCause (short_form g.p s) n → FirstCause (short_stages g.p C s) n
  cause-form s n f = (first_append (short_form g.p s) (short_rest g.p C s) n).1 (inl f)

  module _ (s : List ℕ) (x : Divisor) (form : Passes (short_form g.p s)) {κ : Kind} (stands : OfShort s κ) (v : ValueOf g.p s κ x) (a : Result Divisor Refusal)
      (h : ValueRead g.p C x a) where
    read_long : DivisorRead g.p C (long_of g.p form.1.0.0 s) a
    read_long =
        let same : bytes_of x.kind x ≡ long_of g.p form.1.0.0 s =
        ap (λ (ν : Kind). bytes_of ν x) v.kind
        ∙ value-bytes g.p κ s x v
        ∙ ap (λ (ν : Kind). long_of g.p ν s) (same-short s κ form.1.0.0 stands form.1.0.1) in
        subst (λ (t : List ℕ). DivisorRead g.p C t a) same h

    pub found_8 : a ≡ Err refusal.Number → FirstCause (short_stages g.p C s) 8
    found_8 e = refused_8 g.p C fits s form 8 (subst (λ (b : Result Divisor Refusal). DivisorRead g.p C (long_of g.p form.1.0.0 s) b) e read_long) refl

    pub found_15 : ¬ (a ≡ Err refusal.Number) → ¬ FillingZero g.p s → FirstCause (short_stages g.p C s) 15
    found_15 e z = go a refl read_long
      where
        go : (b : Result Divisor Refusal) → a ≡ b → DivisorRead g.p C (long_of g.p form.1.0.0 s) b → FirstCause (short_stages g.p C s) 15
        go (Ok r) q d = given_15 g.p C fits s form d z
        go (Err n) q d = refused_15 g.p C fits s form (number_of n) d (λ eight. e (q ∙ ap Err (of_8 n eight))) z

    pub found-read : FillingZero g.p s → ShortRead g.p C s a
    found-read z = go a read_long
      where
        go : (b : Result Divisor Refusal) → DivisorRead g.p C (long_of g.p form.1.0.0 s) b → ShortRead g.p C s b
        go (Ok r) d = given g.p C fits s form d z
        go (Err n) d = refused g.p C fits s form (number_of n) d z
