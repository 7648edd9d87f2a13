-- What follows from an answer, for every call.
--   sound_append           stages that refuse with one number each, one list after the other
--   writes_refused, writes_short, writes_enough    the answers of a call that writes: refused before the buffer, for the buffer, a record
--   writes_one, returns_one    two answers to the same input agree, if at most one result is good
--   Answered Good out r out'   the two answers of a call whose stages are all passed but for the buffer's length: a short buffer is
--                          refused with 10 and stays; else a good record is written
--   answer                 there is no other
--   divisor_stages_sound, one_sound, two_sound, list_of_sound    what a call checks refuses nothing that it passes, and with
--                          one number only
--   record_fits            a record takes 4 to 40 bytes
use mathlib.Core.Path.{◌≡◌, refl, sym, ◌∙◌, ap}
use mathlib.Core.Logic.{◌⊎◌, inl, inr}
use mathlib.Core.List.{List, [], ◌∷◌, ◌++◌}
use Prim.Native.Nat.{ℕ, ◌<◌, ◌≤◌}
use native.Mathlib.Omega.{arith}
use lib.ListN.{length, drop}
use lib.IntN.{ℤ, pos}
use Rattle.divisor.specs.Kind.{Kind}
use Rattle.record.specs.Cause.{Stage, FirstCause, Passes}
use Rattle.record.specs.Curve.{modulus, equation, curve_stages}
use Rattle.record.proofs.Cause.{AllSound, sound_must, passes_refuses, one-cause, passes_append, first_append}
use Rattle.divisor.proofs.Codes.{size-least, size-most}
use Rattle.record.proofs.Accepted.{Reads, accepted_reads}
use Rattle.record.proofs.Lists.{curve_sound, divisor_sound, list_sound}
use Rattle.calls.specs.Answer.{minus, buffer, Writes, refused, written, Returns, answered}
use Rattle.calls.specs.Class.{Record}
use Rattle.calls.specs.Call.{divisor_of, list_of, room}

pub sound_append : (ss ts : List Stage) → AllSound ss → AllSound ts → AllSound (ss ++ ts)
sound_append [] ts a b = b
sound_append (s ∷ ss) ts a b = (a.0, sound_append ss ts a.1 b)

-- a call that writes is refused before the buffer, for the buffer, or writes a record
module _ {least : ℕ} (ss : List Stage) {Good : List ℕ → Type 0} {out : List ℕ} {r : ℤ} {out' : List ℕ} where
  pub writes_refused : (n : ℕ) → FirstCause ss n → r ≡ minus n → out' ≡ out → Writes least ss Good out r out'
  writes_refused n f e q = refused n ((first_append ss (buffer least out) n).1 (inl f)) e q

  pub writes_short : Passes ss → length out < least → r ≡ minus 10 → out' ≡ out → Writes least ss Good out r out'
  writes_short p l e q = refused 10 ((first_append ss (buffer least out) 10).1 (inr (p, inl (λ m. omega (arith, l, m), refl)))) e q

  pub writes_enough : Passes ss → (w : List ℕ) → least ≤ length out → Good w → r ≡ pos (length w) → out' ≡ w ++ drop (length w) out
      → Writes least ss Good out r out'
  writes_enough p w l g e q = written w ((passes_append ss (buffer least out)).1 (p, (l, tt))) g e q

module _ (ss : List Stage) (sound : AllSound ss) where
  module _ (least : ℕ) (out : List ℕ) where
    all_sound : AllSound (ss ++ buffer least out)
    all_sound = sound_append ss (buffer least out) sound (sound_must 10 (least ≤ length out), tt)

    pub writes_one : {Good : List ℕ → Type 0} → ((w w' : List ℕ) → Passes ss → Good w → Good w' → w ≡ w')
        → {r s : ℤ} {out' out'' : List ℕ} → Writes least ss Good out r out' → Writes least ss Good out s out'' → (r ≡ s) × (out' ≡ out'')
    writes_one one (refused n f e q) (refused m g e' q') = (e ∙ ap minus (one-cause (ss ++ buffer least out) all_sound n m f g) ∙ sym e', q ∙ sym q')
    writes_one one (refused n f e q) (written w p g e' q') = absurd (passes_refuses (ss ++ buffer least out) all_sound p n f)
    writes_one one (written w p g e q) (refused n f e' q') = absurd (passes_refuses (ss ++ buffer least out) all_sound p n f)
    writes_one one (written w p g e q) (written w' p' g' e' q') =
        let same : w ≡ w' = one w w' ((passes_append ss (buffer least out)).0 p).0 g g' in (
          e ∙ ap (λ (v : List ℕ). pos (length v)) same ∙ sym e',
          q ∙ ap (λ (v : List ℕ). v ++ drop (length v) out) same ∙ sym q',
        )

  pub returns_one : {Good : ℤ → Type 0} → ((r s : ℤ) → Passes ss → Good r → Good s → r ≡ s) → {r s : ℤ} → Returns ss Good r → Returns ss Good s
      → r ≡ s
  returns_one one (refused n f e) (refused m g e') = e ∙ ap minus (one-cause ss sound n m f g) ∙ sym e'
  returns_one one (refused n f e) (answered p g) = absurd (passes_refuses ss sound p n f)
  returns_one one (answered p g) (refused n f e) = absurd (passes_refuses ss sound p n f)
  returns_one one {r} {s} (answered p g) (answered p' g') = one r s p g g'

pub data Answered (Good : List ℕ → Type 0) (out : List ℕ) (r : ℤ) (out' : List ℕ) : Type 0 where
  short : length out < room → r ≡ minus 10 → out' ≡ out → Answered Good out r out'
  enough : (w : List ℕ) → room ≤ length out → Good w → r ≡ pos (length w) → out' ≡ w ++ drop (length w) out → Answered Good out r out'

pub answer : (ss : List Stage) → AllSound ss → Passes ss → {Good : List ℕ → Type 0} {out : List ℕ} {r : ℤ} {out' : List ℕ}
    → Writes room ss Good out r out' → Answered Good out r out'
answer ss sound p {Good} {out} {r} {out'} (refused n f e q) = go ((first_append ss (buffer room out) n).0 f)
  where
    go : FirstCause ss n ⊎ (Passes ss × FirstCause (buffer room out) n) → Answered Good out r out'
    go (inl g) = absurd (passes_refuses ss sound p n g)
    go (inr (_, inl (h, k))) = short (omega (arith, h)) (e ∙ ap minus k) q
    go (inr (_, inr (_, g))) = absurd g
answer ss sound p {out = out} (written w q g e e') = enough w ((passes_append ss (buffer room out)).0 q).1.0 g e e'

-- What is checked before the buffer: of a curve and one divisor, of a curve and two divisors, of a curve and a list.
module _ (c a : List ℕ) where
  pub divisor_stages_sound : AllSound (divisor_of c a)
  divisor_stages_sound = divisor_sound (modulus c) (equation c) a

  pub one_sound : AllSound (curve_stages c ++ divisor_of c a)
  one_sound = sound_append (curve_stages c) (divisor_of c a) (curve_sound c) divisor_stages_sound

  pub list_of_sound : AllSound (curve_stages c ++ list_of c a)
  list_of_sound = sound_append (curve_stages c) (list_of c a) (curve_sound c) (sound_must _ _, (list_sound (modulus c) (equation c) a, tt))

pub two_sound : (c a b : List ℕ) → AllSound (curve_stages c ++ divisor_of c a ++ divisor_of c b)
two_sound c a b =
    sound_append (curve_stages c) (divisor_of c a ++ divisor_of c b) (curve_sound c)
    (sound_append (divisor_of c a) (divisor_of c b) (divisor_stages_sound c a) (divisor_stages_sound c b))

-- The demand: a record takes 4 to 40 bytes, so that it fits in a buffer that is not refused.
pub record_fits : (c w : List ℕ) → Record c w → (4 ≤ length w) × (length w ≤ room)
record_fits c w r = go (accepted_reads (modulus c) (equation c) w r.1)
  where
    go : (κ : Kind) × Reads (modulus c) (equation c) κ w → (4 ≤ length w) × (length w ≤ room)
    go (κ, h) = (omega (arith, h.long, size-least κ), omega (arith, h.long, size-most κ))
