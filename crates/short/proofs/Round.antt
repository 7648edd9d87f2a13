-- Document 02, 2026-09: "Two calls move a record to the short form and back, and either way round returns the bytes one began with." On an accepted curve c, for buffers
-- of 40 bytes or more.
--   ShortRecord c s        s is an accepted short record on the curve
--   Shortened, Lengthened  what a call gives of an accepted record, and that the other call then gives this record back
--   short_and_back         to the short form and back; the short form is never longer than the record
--   long_and_back          back and to the short form
--   short-one, long-one    a record has one short form, and a short record stands for one record
--   lengthen_sound         what the call back checks refuses nothing that it passes, and with one number only
--   shorten_determined, lengthen_determined     each input of the two calls has at most one answer
use mathlib.Core.Path.{◌≡◌, sym, ap, ◌∙◌, subst}
use mathlib.Core.List.{List, ◌++◌}
use Prim.Native.Nat.{ℕ, ◌<◌, ◌≤◌}
use native.Mathlib.Omega.{arith}
use lib.ListN.{length}
use lib.IntN.{ℤ}
use Rattle.divisor.specs.Kind.{Kind, code, count}
use Rattle.layout.specs.Layout.{Bytes, numbers, record_bytes}
use Rattle.layout.proofs.Bytes.{bytes_record}
use Rattle.record.specs.Cause.{Stage, Passes}
use Rattle.record.specs.Curve.{modulus, equation, curve_stages, AcceptedCurve, accepted_prime, accepted_limit}
use Rattle.record.proofs.Cause.{AllSound, passes_append}
use Rattle.record.proofs.Lists.{curve_sound}
use Rattle.record.proofs.Accepted.{Reads, accepted_reads, reads_accepted, reads_whole, same_kind}
use Rattle.calls.specs.Answer.{Gives, Writes}
use Rattle.calls.specs.Class.{Record}
use Rattle.calls.specs.Call.{divisor_of, room}
use Rattle.calls.proofs.Answers.{Answered, short, enough, answer, sound_append, one_sound, writes_one}
use Rattle.short.specs.Short.{short_bytes, short_numbers, AcceptedShort}
use Rattle.short.specs.ShortCall.{short_of, IsShort, IsLong, Shorten, Lengthen}
use Rattle.short.proofs.Width.{body-most}
use Rattle.short.proofs.Accepted.{ShortReads, same-short, short_sound, accepted_short, short-accepted, bytes-short, long_reads}
use Rattle.short.proofs.Whole.{short_of_record, back-numbers, short-whole, record_numbers_of}

abbrev pub ShortRecord : (c s : List ℕ) → Type 0
ShortRecord c s = Bytes s × AcceptedShort (modulus c) (equation c) s

pub record Shortened (c a out : List ℕ) (r : ℤ) (out' : List ℕ) : Type 0 where
  pub form : List ℕ
  pub given : Gives form out r out'
  pub accepted : ShortRecord c form
  pub no_longer : length form ≤ length a
  pub back : (free : List ℕ) (t : ℤ) (free' : List ℕ) → room ≤ length free → Lengthen c form free t free' → Gives a free t free'

pub record Lengthened (c s out : List ℕ) (r : ℤ) (out' : List ℕ) : Type 0 where
  pub whole : List ℕ
  pub given : Gives whole out r out'
  pub accepted : Record c whole
  pub no_shorter : length s ≤ length whole
  pub back : (free : List ℕ) (t : ℤ) (free' : List ℕ) → room ≤ length free → Shorten c whole free t free' → Gives s free t free'

-- a record has one short form, and a short record stands for one record
pub short-one : (c a w w' : List ℕ) → IsShort c a w → IsShort c a w' → w ≡ w'
short-one c a w w' (κ, e, q) (κ', e', q') =
    q ∙ ap (λ (k : Kind). short_bytes (modulus c) k (numbers a 4 (count k))) (same_kind a κ κ' e e') ∙ sym q'

pub long-one : (c s w w' : List ℕ) → IsLong c s w → IsLong c s w' → w ≡ w'
long-one c s w w' (κ, e, q) (κ', e', q') =
    q ∙ ap (λ (k : Kind). record_bytes (code k) (short_numbers (modulus c) k s)) (same-short s κ κ' e e') ∙ sym q'

pub lengthen_sound : (c s : List ℕ) → AllSound (curve_stages c ++ short_of c s)
lengthen_sound c s = sound_append (curve_stages c) (short_of c s) (curve_sound c) (short_sound (modulus c) (equation c) s)

pub shorten_determined : (c a out : List ℕ) (r t : ℤ) (out' out'' : List ℕ) → Shorten c a out r out' → Shorten c a out t out'' → (r ≡ t) × (out' ≡ out'')
shorten_determined c a out r t out' out'' h k =
    writes_one (curve_stages c ++ divisor_of c a) (one_sound c a) room out (λ w w' p g g'. short-one c a w w' g g') h k

pub lengthen_determined : (c s out : List ℕ) (r t : ℤ) (out' out'' : List ℕ) → Lengthen c s out r out' → Lengthen c s out t out'' → (r ≡ t) × (out' ≡ out'')
lengthen_determined c s out r t out' out'' h k =
    writes_one (curve_stages c ++ short_of c s) (lengthen_sound c s) room out (λ w w' p g g'. long-one c s w w' g g') h k

-- a call that passes all stages, with a buffer of 40 bytes, gives what is good
gives : (ss : List Stage) → AllSound ss → Passes ss → {Good : List ℕ → Type 0} {out : List ℕ} {r : ℤ} {out' : List ℕ} → room ≤ length out
    → Writes room ss Good out r out' → (w : List ℕ) × Good w × Gives w out r out'
gives ss sound p {Good} {out} {r} {out'} l h = go (answer ss sound p h)
  where
    go : Answered Good out r out' → (w : List ℕ) × Good w × Gives w out r out'
    go (short l' e q) = absurd (omega (arith, l, l'))
    go (enough w l' g e q) = (w, g, (e, q))

module _ (c : List ℕ) (A : AcceptedCurve c) where
  positive : 0 < modulus c
  positive = omega (arith, (accepted_prime c A).two_le)

  fits : modulus c ≤ 4294967296
  fits = omega (arith, accepted_limit c A)

  -- what the call to the short form gives of a record of kind κ
  given-short : (κ : Kind) (a w : List ℕ) → Reads (modulus c) (equation c) κ a → IsShort c a w → w ≡ short_bytes (modulus c) κ (numbers a 4 (count κ))
  given-short κ a w r (κ', e, q) = q ∙ ap (λ (k : Kind). short_bytes (modulus c) k (numbers a 4 (count k))) (same_kind a κ' κ e r.kind)

  given-long : (κ : Kind) (s w : List ℕ) → ShortReads (modulus c) (equation c) κ s → IsLong c s w → w ≡ record_bytes (code κ) (short_numbers (modulus c) κ s)
  given-long κ s w r (κ', e, q) = q ∙ ap (λ (k : Kind). record_bytes (code k) (short_numbers (modulus c) k s)) (same-short s κ' κ e r.kind)

  shortened : (κ : Kind) (a : List ℕ) → Bytes a → Reads (modulus c) (equation c) κ a → {out : List ℕ} {r : ℤ} {out' : List ℕ} (w : List ℕ) → IsShort c a w
      → Gives w out r out' → Shortened c a out r out'
  shortened κ a b h w g given =
      record {
        form = w;
        given = given;
        accepted = (subst Bytes (sym is) (bytes-short (modulus c) κ (numbers a 4 (count κ))), short-accepted (modulus c) (equation c) κ w reads);
        no_longer = omega (arith, reads.long, h.long, body-most (modulus c) κ fits);
        back =
            λ free t free' l k.
            let f = gives (curve_stages c ++ short_of c w) (lengthen_sound c w) ((passes_append (curve_stages c) (short_of c w)).1 (A, short-accepted (modulus c) (equation c) κ w reads)) l k in
            subst (λ (v : List ℕ). Gives v free t free') (given-long κ w f.0 reads f.1 ∙ again) f.2;
      }
    where
      is : w ≡ short_bytes (modulus c) κ (numbers a 4 (count κ))
      is = given-short κ a w h g

      reads : ShortReads (modulus c) (equation c) κ w
      reads = subst (λ (v : List ℕ). ShortReads (modulus c) (equation c) κ v) (sym is) (short_of_record (modulus c) (equation c) positive fits κ a h)

      again : record_bytes (code κ) (short_numbers (modulus c) κ w) ≡ a
      again =
          ap (λ (v : List ℕ). record_bytes (code κ) (short_numbers (modulus c) κ v)) is
          ∙ ap (record_bytes (code κ)) (back-numbers (modulus c) (equation c) positive fits κ a h)
          ∙ sym (reads_whole (modulus c) (equation c) κ a b h)

  pub short_and_back : (a out : List ℕ) (r : ℤ) (out' : List ℕ) → Record c a → room ≤ length out → Shorten c a out r out' → Shortened c a out r out'
  short_and_back a out r out' (b, accepted) l h =
      let k = accepted_reads (modulus c) (equation c) a accepted in
      let f = gives (curve_stages c ++ divisor_of c a) (one_sound c a) ((passes_append (curve_stages c) (divisor_of c a)).1 (A, accepted)) l h in
      shortened k.0 a b k.1 f.0 f.1 f.2

  lengthened : (κ : Kind) (s : List ℕ) → Bytes s → ShortReads (modulus c) (equation c) κ s → {out : List ℕ} {r : ℤ} {out' : List ℕ} (w : List ℕ) → IsLong c s w
      → Gives w out r out' → Lengthened c s out r out'
  lengthened κ s b h w g given =
      record {
        whole = w;
        given = given;
        accepted = (subst Bytes (sym is) (bytes_record (code κ) (short_numbers (modulus c) κ s)), reads_accepted (modulus c) (equation c) κ w reads);
        no_shorter = omega (arith, reads.long, h.long, body-most (modulus c) κ fits);
        back =
            λ free t free' l k.
            let f = gives (curve_stages c ++ divisor_of c w) (one_sound c w) ((passes_append (curve_stages c) (divisor_of c w)).1 (A, reads_accepted (modulus c) (equation c) κ w reads)) l k in
            subst (λ (v : List ℕ). Gives v free t free') (given-short κ w f.0 reads f.1 ∙ again) f.2;
      }
    where
      is : w ≡ record_bytes (code κ) (short_numbers (modulus c) κ s)
      is = given-long κ s w h g

      reads : Reads (modulus c) (equation c) κ w
      reads = subst (λ (v : List ℕ). Reads (modulus c) (equation c) κ v) (sym is) (long_reads (modulus c) (equation c) fits κ s h)

      again : short_bytes (modulus c) κ (numbers w 4 (count κ)) ≡ s
      again =
          ap (λ (v : List ℕ). short_bytes (modulus c) κ (numbers v 4 (count κ))) is
          ∙ ap (short_bytes (modulus c) κ) (record_numbers_of (modulus c) (equation c) fits κ s h)
          ∙ sym (short-whole (modulus c) (equation c) fits κ s h b)

  pub long_and_back : (s out : List ℕ) (r : ℤ) (out' : List ℕ) → ShortRecord c s → room ≤ length out → Lengthen c s out r out' → Lengthened c s out r out'
  long_and_back s out r out' (b, accepted) l h =
      let k = accepted_short (modulus c) (equation c) s accepted in
      let f = gives (curve_stages c ++ short_of c s) (lengthen_sound c s) ((passes_append (curve_stages c) (short_of c s)).1 (A, accepted)) l h in
      lengthened k.0 s b k.1 f.0 f.1 f.2
