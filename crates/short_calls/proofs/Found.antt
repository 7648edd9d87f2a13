-- What the two calls found, on the curve of the bytes c.
--   fits, write_asked, cast_fits   a divisor record was read: its short form may be written, and the length fits
--   short_writes                   the short form is written
--   curve_refused, short_found     the curve was refused; a short record was read
use mathlib.Core.Path.{◌≡◌, refl, sym, ap, ◌∙◌, subst}
use mathlib.Core.Logic.{inl}
use mathlib.Core.List.{List, ◌++◌}
use Prim.Native.Nat.{ℕ, ◌+◌, ◌*◌, ◌<◌, ◌≤◌}
use native.Mathlib.Omega.{arith}
use lib.ListN.{length, take}
use lib.Seq.{ext_get_or, get_or-take, length-take-le}
use lib.IntN.{pos}
use mir.Syntax.{w32}
use mir.Val.{SFits, to_z}
use Rattle.std.specs.Prelude.{Result, Ok, Err}
use Rattle.divisor.specs.Kind.{Kind, count}
use Rattle.divisor.proofs.Codes.{count_small}
use Rattle.layout.specs.Layout.{number4, numbers}
use Rattle.layout.proofs.Read.{length_numbers, numbers-at}
use Rattle.ground.specs.declared.Ground.{Ground}
use Rattle.ground.specs.Ground.{AtGround}
use Rattle.basis.specs.Divisor.{numbers_of, Shaped}
use Rattle.basis.specs.declared.Divisor.{Divisor}
use Rattle.refusal.specs.Refusal.{number_of}
use Rattle.refusal.specs.declared.Refusal.{Refusal}
use Rattle.record.specs.Cause.{FirstCause}
use Rattle.record.specs.Curve.{modulus, equation, curve_stages, accepted_limit}
use Rattle.record.specs.Divisor.{OfKind}
use Rattle.record.proofs.Cause.{first_append}
use Rattle.record.proofs.Written.{bytes_of-kind, bytes_of-number}
use Rattle.reader.specs.Reading.{On, GivenOn, done}
use Rattle.reader.proofs.Answer.{given-bytes}
use Rattle.reader.proofs.Ground.{at-curve}
use Rattle.calls.specs.Call.{room}
use Rattle.calls.proofs.Answers.{writes_enough}
use Rattle.classes.specs.Found.{Found}
use Rattle.classes.specs.Made.{one_stages, OneOn}
use Rattle.classes.proofs.Made.{one-passes, done-found}
use Rattle.short.specs.Short.{short_bytes}
use Rattle.short.specs.ShortCall.{short_of, IsShort, IsLong, Shorten}
use Rattle.short_reader.specs.Reading.{ShortRead}
use Rattle.short_writer.specs.Contract.{short_of_value, ShortWriteAsked, ShortWriteAnswer}
use Rattle.short_calls.proofs.Write.{write_fits, wrote}

module _ (c a : List ℕ) (x : Divisor) (small : modulus c ≤ 4294967296) (g : GivenOn c a x) where
  abbrev κ : Kind
  κ = x.kind

  -- the numbers of the record are those of the value
  given-numbers : numbers a 4 (count κ) ≡ take (count κ) (numbers_of x)
  given-numbers =
      let many : length (take (count κ) (numbers_of x)) ≡ count κ = length-take-le (count κ) (numbers_of x) (count_small κ) in
      ext_get_or
      0
      (numbers a 4 (count κ))
      (take (count κ) (numbers_of x))
      (length_numbers a 4 (count κ) ∙ sym many)
      (λ i l.
      let few : i < count κ = omega (arith, length_numbers a 4 (count κ)) in
      numbers-at a 4 (count κ) i few
      ∙ ap (λ (s : List ℕ). number4 s (4 + 4 * i)) (sym (given-bytes g))
      ∙ bytes_of-number κ x (λ j. omega (arith, g.based.shaped.below j)) i few
      ∙ sym (get_or-take (count κ) (numbers_of x) i 0 few))

  given-short : IsShort c a (short_of_value (modulus c) κ x)
  given-short = (
    κ,
    subst (λ (s : List ℕ). OfKind s κ) (given-bytes g) (bytes_of-kind κ x),
    ap (short_bytes (modulus c) κ) (sym given-numbers),
  )

-- what of_one makes of a divisor record: the modulus of the curve, and the divisor by value
module _ (c a : List ℕ) {Post : Ground → Divisor → ℕ × Divisor → Type 0} (each : (g : Ground) (x : Divisor) (t : ℕ × Divisor) → Post g x t → t ≡ (g.p, x))
    {p : ℕ} {x : Divisor} (o : OneOn c a Post (p, x)) where
  is : ◌≡◌ {A = ℕ × Divisor} (p, x) (modulus c, o.value)
  is = each o.ground o.value (p, x) o.made ∙ ap (λ (q : ℕ). (q, o.value)) o.on.ground.modulus

  pub fits : p ≤ 4294967296
  fits = omega (arith, ap (λ (t : ℕ × Divisor). t.0) is, accepted_limit c o.on.accepted)

  pub given : GivenOn c a x
  given = subst (GivenOn c a) (sym (ap (λ (t : ℕ × Divisor). t.1) is)) o.given

  shaped : Shaped p x.kind x
  shaped = subst (λ (q : ℕ). Shaped q x.kind x) (sym (ap (λ (t : ℕ × Divisor). t.0) is)) (record { kind = refl; below = given.based.shaped.below })

  pub write_asked : {out : List ℕ} → room ≤ length out → ShortWriteAsked p x out
  write_asked l = record { shaped = shaped; enough = l }

  pub cast_fits : {out out' : List ℕ} {n : ℕ} → ShortWriteAnswer p x out out' n → SFits w32 (pos n)
  cast_fits {out} {out'} {n} h = write_fits p fits x out out' n h

  pub short_writes : {out out' : List ℕ} {n : ℕ} → room ≤ length out → ShortWriteAnswer p x out out' n → Shorten c a out (to_z w32 n) out'
  short_writes {out} {out'} {n} l h =
      let z = wrote p fits x out out' n h in
      writes_enough (one_stages c a) (one-passes o) (short_of_value p x.kind x) l
      (subst (λ (q : ℕ). IsShort c a (short_of_value q x.kind x)) (sym (ap (λ (t : ℕ × Divisor). t.0) is))
      (given-short c a x (omega (arith, accepted_limit c o.on.accepted)) given))
      z.0 z.1

module _ (c s : List ℕ) where
  found-short : (r : Result Divisor Refusal) → ShortRead (modulus c) (equation c) s r → Found c (short_of c s) (IsLong c s) r
  found-short (Ok x) (accepted, (κ, e, g)) = (accepted, (_, (κ, e, refl), g))
  found-short (Err e) f = f

  pub curve_refused : (e : Refusal) → FirstCause (curve_stages c) (number_of e) → Found c (curve_stages c ++ short_of c s) (IsLong c s) (Err e)
  curve_refused e f = (first_append (curve_stages c) (short_of c s) (number_of e)).1 (inl f)

  pub short_found : (r : Result Divisor Refusal) {g : Ground} → On c g → AtGround g (λ p C. ShortRead p C s r)
      → Found c (curve_stages c ++ short_of c s) (IsLong c s) r
  short_found r {g} o h =
      done-found c (short_of c s) (IsLong c s) {Post = λ _ q. ShortRead (modulus c) (equation c) s q} r (λ _ _ q. found-short r q)
      (done g o (at-curve o (λ p C. ShortRead p C s r) h))
