-- One sum call on a pool in lent memory.
--   sized, slot_is         a slot of a pool of accepted records has a length field, and its bytes are the record
--   sum-slots              the sum call of the parts of the pool that two length fields give
--   is_call                a sum of two slots is a call on the pool
--   Wrote c r out'         what a call with a long enough buffer returns and leaves
--   wrote                  it wrote a record
--   made-short, made-long  what a call with a short buffer leaves, and another one
use mathlib.Core.Path.{◌≡◌, refl, sym, ap, ap₂, ◌∙◌, subst}
use mathlib.Core.List.{List, [], ◌∷◌, ◌++◌}
use Prim.Native.Nat.{ℕ, suc, ◌+◌, ◌-◌, ◌*◌, ◌<◌, ◌≤◌}
use native.Mathlib.Omega.{arith}
use lib.ListN.{length, get_or, take, drop, length-drop, get_or-append}
use lib.Seq.{get_or-take, get_or-drop, ext_get_or, length-take-le, take-append_seam}
use lib.IntN.{ℤ, pos}
use Rattle.layout.specs.Layout.{number2}
use Rattle.record.specs.Curve.{AcceptedCurve, curve_stages}
use Rattle.calls.specs.Class.{Record, IsSum}
use Rattle.calls.specs.Call.{Sum, divisor_of, room}
use Rattle.calls.specs.Pool.{PoolCall, entry, without, amount, written_by, pool_after, IsCall}
use Rattle.calls.proofs.Places.{long-enough, too_short, without_both, perm_length}
use Rattle.calls.proofs.Exists.{two-passes}
use Rattle.calls.proofs.Answers.{Answered, short, enough, answer, two_sound, record_fits}
use Rattle.slots.specs.Held.{slot, at_slot, Held, Copied}
use Rattle.slots.proofs.Slots.{held_more, length_more}
use Rattle.pool.specs.Run.{InSlot, Accepted, CallMade}

module _ (c s : List ℕ) (p : List (List ℕ)) (held : Held s p) (accepted : Accepted c p) (m : ℕ) (below : m < length p) where
  fits : (4 ≤ length (entry p m)) × (length (entry p m) ≤ room)
  fits = record_fits c (entry p m) (accepted m below)

  length_field : number2 s (slot m) ≡ length (entry p m)
  unfolding number2
  length_field =
      ap₂ (λ (a b : ℕ). a + 256 * b) (ap (λ (k : ℕ). get_or s k 0) (omega arith) ∙ held.bytes m 0 below (omega (arith, fits.0)))
      (held.bytes m 1 below (omega (arith, fits.0)))
      ∙ (accepted m below).1.0.1

  pub sized : InSlot s m
  sized = record { head = omega (arith, held.fits); whole = omega (arith, held.fits, length_field, fits.1) }

  pub slot_is : at_slot s m ≡ entry p m
  unfolding at_slot
  slot_is = ap (λ (n : ℕ). take n (drop (slot m) s)) length_field ∙ ext_get_or 0 _ (entry p m) long same
    where
      long : length (take (length (entry p m)) (drop (slot m) s)) ≡ length (entry p m)
      long = length-take-le (length (entry p m)) (drop (slot m) s) (omega (arith, length-drop (slot m) s, held.fits, fits.1))

      same : (k : ℕ) → k < length (take (length (entry p m)) (drop (slot m) s))
          → get_or (take (length (entry p m)) (drop (slot m) s)) k 0 ≡ get_or (entry p m) k 0
      same k l =
          let b : k < length (entry p m) = omega (arith, long) in
          get_or-take (length (entry p m)) (drop (slot m) s) k 0 b ∙ get_or-drop (slot m) s k 0 ∙ held.bytes m k below b

-- The part of s that a call is lent for slot m, of the n bytes that the length field gives, is the record there.
slot-part : (s : List ℕ) (m n : ℕ) → n ≡ number2 s (slot m) → take (slot m + n - slot m) (drop (slot m) s) ≡ at_slot s m
unfolding at_slot
slot-part s m n e =
    let same : slot m + n - slot m ≡ number2 s (slot m) = omega (arith, e) in ap (λ (k : ℕ). take k (drop (slot m) s)) same

pub sum-slots : (c s : List ℕ) (i j n m : ℕ) (out : List ℕ) (r z : ℤ) (out' : List ℕ) → n ≡ number2 s (slot i) → m ≡ number2 s (slot j) → z ≡ r
    → Sum c (take (slot i + n - slot i) (drop (slot i) s)) (take (slot j + m - slot j) (drop (slot j) s)) out r out'
    → Sum c (at_slot s i) (at_slot s j) out z out'
sum-slots c s i j n m out r z out' e f q h =
    subst (λ (a : List ℕ). Sum c a (at_slot s j) out z out') (slot-part s i n e)
    (subst (λ (b : List ℕ). Sum c (take (slot i + n - slot i) (drop (slot i) s)) b out z out') (slot-part s j m f)
    (subst (λ (y : ℤ). Sum c (take (slot i + n - slot i) (drop (slot i) s)) (take (slot j + m - slot j) (drop (slot j) s)) out y out') (sym q) h))

-- a record w of at most 40 bytes is at the start of the buffer, and its length is returned
pub record Wrote (c : List ℕ) (out : List ℕ) (r : ℤ) (out' : List ℕ) : Type 0 where
  pub w : List ℕ
  pub good : Record c w
  pub few : length w ≤ room
  pub returned : r ≡ pos (length w)
  pub leaves : out' ≡ w ++ drop (length w) out

module _ (c : List ℕ) (A : AcceptedCurve c) (s : List ℕ) (p : List (List ℕ)) (held : Held s p) (accepted : Accepted c p) (i j : ℕ)
    (i_below : i < length p) (j_below : j < length p) (apart : ¬ (i ≡ j)) (out : List ℕ) (r : ℤ) (out' : List ℕ)
    (sum : Sum c (at_slot s i) (at_slot s j) out r out') where
  abbrev pub call : PoolCall
  call = record { i = i; j = j; before = out; returned = r; after = out' }

  sum_of : Sum c (entry p i) (entry p j) out r out'
  sum_of =
      subst (λ (b : List ℕ). Sum c (entry p i) b out r out') (slot_is c s p held accepted j j_below)
      (subst (λ (a : List ℕ). Sum c a (at_slot s j) out r out') (slot_is c s p held accepted i i_below) sum)

  pub is_call : IsCall c p call
  is_call = record { i_below = i_below; j_below = j_below; apart = apart; sum = sum_of }

  pub wrote : room ≤ length out → Wrote c out r out'
  wrote l =
      go
      (answer (curve_stages c ++ divisor_of c (entry p i) ++ divisor_of c (entry p j)) (two_sound c (entry p i) (entry p j))
      (two-passes c A (entry p i) (entry p j) (accepted i i_below).1 (accepted j j_below).1) sum_of)
    where
      go : Answered (IsSum c (entry p i) (entry p j)) out r out' → Wrote c out r out'
      go (short m e q) = absurd (omega arith)
      go (enough w m g e q) = record { w = w; good = g.accepted; few = (record_fits c w g.accepted).1; returned = e; leaves = q }

  pub made-short : length out < room → CallMade c p i j out s (length p)
  made-short l = record {
    call = call;
    i_is = refl;
    j_is = refl;
    buffer = refl;
    made = is_call;
    held = subst (Held s) (sym stays) held;
    left = ap length stays;
  }
    where
      stays : pool_after call p ≡ p
      stays = too_short room (length out) _ p l

  rest : length p ≡ suc (suc (length (without i j p)))
  rest = perm_length (without_both p i j [] i_below j_below apart)

  pub made-long : (s₁ s₂ : List ℕ) → room ≤ length out → length s₁ ≡ length s → Held s₁ (without i j p)
      → Copied s₁ (slot (length p - 2)) out' 0 (amount r) s₂ → CallMade c p i j out s₂ (length p - 1)
  made-long s₁ s₂ l e h m = go (wrote l)
    where
      place : length (without i j p) ≡ length p - 2
      place = omega (arith, rest)

      go : Wrote c out r out' → CallMade c p i j out s₂ (length p - 1)
      go a = record {
        call = call;
        i_is = refl;
        j_is = refl;
        buffer = refl;
        made = is_call;
        held = subst (Held s₂) (sym comes) more;
        left = ap length comes ∙ length_more (without i j p) a.w ∙ omega (arith, rest);
      }
        where
          written : written_by call ≡ a.w
          written = ap₂ (λ (z : ℤ) (t : List ℕ). take (amount z) t) a.returned a.leaves ∙ take-append_seam a.w (drop (length a.w) out)

          comes : pool_after call p ≡ without i j p ++ a.w ∷ []
          comes = long-enough room (length out) _ p l ∙ ap (λ (v : List ℕ). without i j p ++ v ∷ []) written

          size : amount r ≡ length a.w
          size = ap amount a.returned

          more : Held s₂ (without i j p ++ a.w ∷ [])
          more =
              held_more s₁ s₂ (without i j p) a.w h a.few (omega (arith, m.long, e, held.fits, rest)) (λ k b. m.before k (omega (arith, place)))
              (λ k b.
              ap (λ (n : ℕ). get_or s₂ (slot n + k) 0) place
              ∙ m.here k (omega (arith, size))
              ∙ ap (λ (n : ℕ). get_or out' n 0) (omega arith)
              ∙ ap (λ (t : List ℕ). get_or t k 0) a.leaves
              ∙ get_or-append a.w (drop (length a.w) out) 0 k b)
