-- What a walk over two divisors meets.
--   met                    on accepted divisors, whose bytes are whole words, the words tell whether the bytes are the same
--   walk-read              what walked found: a walk, or the first cause
use mathlib.Core.Path.{◌≡◌, sym, ap, ◌∙◌}
use mathlib.Core.List.{List}
use Prim.Native.Nat.{ℕ, ◌*◌, ◌/◌, ◌≤◌}
use native.Mathlib.Omega.{arith}
use Rattle.std.specs.Prelude.{Result, Ok, Err}
use Rattle.refusal.specs.declared.Refusal.{Refusal}
use lib.ListN.{length}
use Rattle.algebra.proofs.Answers.{answer-from}
use Rattle.divisor.specs.Kind.{size}
use Rattle.divisor.proofs.Codes.{count_small}
use Rattle.words.specs.Words.{words}
use Rattle.words.specs.Contract.{WalkOf}
use Rattle.words.specs.declared.Walk.{Walk}
use Rattle.words.proofs.Compared.{compared-most, length_words, same-words}
use Rattle.ground.specs.declared.Ground.{Ground}
use Rattle.basis.specs.declared.Divisor.{Divisor}
use Rattle.record.specs.Curve.{AcceptedCurve}
use Rattle.record.proofs.Written.{length_bytes_of}
use Rattle.reader.specs.Reading.{GivenOn}
use Rattle.calls.proofs.Exists.{two-passes}
use Rattle.classes.proofs.Values.{given_record}
use Rattle.classes.specs.Made.{TwoMade}
use Rattle.comparison.specs.Met.{Met, WalkRead}

module _ (c : List ℕ) where
  module _ (s : List ℕ) {x : Divisor} (v : GivenOn c s x) where
    given_length : length s ≡ size v.kind
    given_length = ap length (sym v.bytes) ∙ length_bytes_of v.kind x

    given-whole : 4 * (length s / 4) ≡ length s
    given-whole = omega (arith, given_length)

    given-few : length s / 4 ≤ 10
    given-few = omega (arith, given_length, count_small v.kind)

  module _ (a b : List ℕ) where
    pub met : {x y : Divisor} → AcceptedCurve c → GivenOn c a x × GivenOn c b y → (w : Walk) → WalkOf a b w → Met c a b w
    met A (v, u) w h =
        record {
          passes = two-passes c A a b v.accepted u.accepted;
          same =
              answer-from w.same h.same (same-words a b (given_record c a v).0 (given-whole a v) (given_record c b u).0 (given-whole b u))
              (ap words);
          count = h.count;
          few = omega (arith, h.count, compared-most (words a) (words b), length_words a, given-few a v);
        }

    pub walk-read : {Post : Ground → Divisor → Divisor → Walk → Type 0} → ((g : Ground) (x y : Divisor) (w : Walk) → Post g x y w → WalkOf a b w)
        → (r : Result Walk Refusal) → TwoMade c a b Post r → WalkRead c a b r
    walk-read each (Ok w) m = met m.on.accepted (m.given, m.given_second) w (each _ _ _ w m.made)
    walk-read each (Err e) f = f
