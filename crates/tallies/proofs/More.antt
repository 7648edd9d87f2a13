-- Tallies of one record more, and their bounds.
--   tallies_bounded    each tally is at most the number of all records
--   record_given       an accepted record is that of the divisor by value that was read
--   same_code          two kinds are the same exactly if their numbers are
--   typical_value      a record is typical exactly if the divisor by value has the kind 31, with a third number that is not zero
--   tallies-more       the tallies of a list and one record more
use mathlib.Core.Path.{◌≡◌, refl, sym, ap, ap₂, ◌∙◌}
use mathlib.Core.Bool.{Bool, true, false, not, ◌&&◌}
use mathlib.Core.List.{List, [], ◌∷◌, ◌++◌}
use Prim.Native.Nat.{ℕ, ◌+◌, ◌*◌, ◌≤◌}
use native.Mathlib.Omega.{arith}
use lib.ListN.{length, length-append}
use lib.Dec.{eqb}
use mir.Val.{bool_byte}
use denote.Enum.Bare.{sameb, same_true, true_same}
use borrow.Author.Rules.{rules}
use borrow.Author.Tests.{eq-eqb, ne_eqb}
use native.Mathlib.Decide.{ℕ_discrete}
use Rattle.divisor.proofs.Codes.{code_injective}
use Rattle.kind.specs.contracts.Kind.{the_type}
use Rattle.field.specs.Residue.{Z}
use Rattle.curve.specs.Curve.{Curve}
use Rattle.divisor.specs.Kind.{Kind, k0, k11, k21, k22, k31, code}
use Rattle.layout.specs.Layout.{Words, number2, number4}
use Rattle.basis.specs.Divisor.{numbers_of}
use Rattle.basis.specs.declared.Divisor.{Divisor}
use Rattle.reader.specs.Reading.{DivisorGiven}
use Rattle.reader.proofs.Answer.{given-bytes}
use Rattle.record.specs.Value.{bytes_of}
use Rattle.record.proofs.Written.{bytes_of-kind, bytes_of-number}
use Rattle.calls.specs.Call.{one_if, tally}
use Rattle.report.specs.Report.{typical, typicals}
use Rattle.tallies.specs.declared.Tallies.{Tallies}
use Rattle.tallies.specs.Tallied.{TalliesOf, Bounded, HasRecord, TypicalTest, AddedTo}

-- a test as a number
as_number : (b : Bool) → bool_byte b ≡ one_if b
as_number true = refl
as_number false = refl

one-most : (b : Bool) → one_if b ≤ 1
one-most true = omega arith
one-most false = omega arith

tally-most : (kind : ℕ) (rs : List (List ℕ)) → tally kind rs ≤ length rs
tally-most kind [] = omega arith
tally-most kind (r ∷ rs) = omega (arith, one-most (eqb (number2 r 2) kind), tally-most kind rs)

typicals-most : (rs : List (List ℕ)) → typicals rs ≤ length rs
typicals-most [] = omega arith
typicals-most (r ∷ rs) = omega (arith, one-most (typical r), typicals-most rs)

pub tallies_bounded : {rs : List (List ℕ)} {t : Tallies} → TalliesOf rs t → Bounded t
tallies_bounded {rs} h =
    record {
      most_0 = omega (arith, h.is_0, h.is_total, tally-most 0 rs);
      most_11 = omega (arith, h.is_11, h.is_total, tally-most 11 rs);
      most_21 = omega (arith, h.is_21, h.is_total, tally-most 21 rs);
      most_22 = omega (arith, h.is_22, h.is_total, tally-most 22 rs);
      most_31 = omega (arith, h.is_31, h.is_total, tally-most 31 rs);
      most_typical = omega (arith, h.is_typical, h.is_total, typicals-most rs);
    }

tally-more : (kind : ℕ) (rs : List (List ℕ)) (r : List ℕ) → tally kind (rs ++ r ∷ []) ≡ tally kind rs + one_if (eqb (number2 r 2) kind)
tally-more kind [] r = omega arith
tally-more kind (s ∷ rs) r = omega (arith, tally-more kind rs r)

typicals-more : (rs : List (List ℕ)) (r : List ℕ) → typicals (rs ++ r ∷ []) ≡ typicals rs + one_if (typical r)
typicals-more [] r = omega arith
typicals-more (s ∷ rs) r = omega (arith, typicals-more rs r)

-- the record of an accepted divisor by value
pub record_given : (p : ℕ) (C : Curve (Z p)) → p ≤ 4294967296 → {s : List ℕ} {x : Divisor} → DivisorGiven p C s x → HasRecord x s
record_given p C fits g =
    record {
      words = λ i. omega (arith, g.based.shaped.below i);
      bytes = given-bytes g;
    }

module _ {x : Divisor} {r : List ℕ} (h : HasRecord x r) where
  kind_read : number2 r 2 ≡ code x.kind
  kind_read = ap (λ (s : List ℕ). number2 s 2) (sym h.bytes) ∙ bytes_of-kind x.kind x

  -- one tally with one record more
  tally-of : (kind : ℕ) (rs : List (List ℕ)) {n m : ℕ} → n ≡ tally kind rs → m ≡ bool_byte (eqb (code x.kind) kind) → n + m ≡ tally kind (rs ++ r ∷ [])
  tally-of kind rs e f =
      ap₂ (λ (i j : ℕ). i + j) e (f ∙ as_number (eqb (code x.kind) kind) ∙ ap (λ (i : ℕ). one_if (eqb i kind)) (sym kind_read)) ∙ sym (tally-more kind rs r)

-- where the kind is 31, the third number that is read is that of the value; where it is not, the record is not typical
third_read : (κ : Kind) (x : Divisor) → Words (numbers_of x)
    → (eqb (code κ) 31 && not (eqb (number4 (bytes_of κ x) (4 + 4 * 2)) 0)) ≡ (eqb (code κ) 31 && not (eqb x.n2 0))
third_read k0 x w = refl
third_read k11 x w = refl
third_read k21 x w = refl
third_read k22 x w = refl
third_read k31 x w = ap (λ (n : ℕ). not (eqb n 0)) (bytes_of-number k31 x w 2 (omega arith))

pub typical_value : (x : Divisor) (b : Bool) → eqb (code x.kind) 31 ≡ b → TypicalTest x (b && not (eqb x.n2 0))
typical_value x b e r h =
    rw (← e, ← h.bytes, bytes_of-kind x.kind x) (sym (third_read x.kind x h.words))

pub same_code : (κ ν : Kind) → sameb the_type κ ν ≡ eqb (code κ) (code ν)
same_code κ ν = go (ℕ_discrete (code κ) (code ν))
  where
    false_of : (b : Bool) → ¬ (b ≡ true) → b ≡ false
    false_of true h = absurd (h refl)
    false_of false h = refl

    go : Dec (code κ ≡ code ν) → sameb the_type κ ν ≡ eqb (code κ) (code ν)
    go (yes e) = true_same the_type κ ν (code_injective κ ν e) ∙ sym (eq-eqb (code κ) (code ν) e)
    go (no n) = false_of _ (λ h. n (ap code (same_true the_type (search rules) κ ν h))) ∙ sym (ne_eqb (code κ) (code ν) n)

module _ (t : Tallies) (x : Divisor) {m0 m11 m21 m22 m31 mt : ℕ} (b : Bool) (typical-is : TypicalTest x b)
    (e0 : m0 ≡ bool_byte (sameb the_type x.kind k0)) (e11 : m11 ≡ bool_byte (sameb the_type x.kind k11)) (e21 : m21 ≡ bool_byte (sameb the_type x.kind k21))
    (e22 : m22 ≡ bool_byte (sameb the_type x.kind k22)) (e31 : m31 ≡ bool_byte (sameb the_type x.kind k31)) (et : mt ≡ bool_byte b) where
  pub tallies-more : AddedTo t x
      (record {
        n0 = t.n0 + m0;
        n11 = t.n11 + m11;
        n21 = t.n21 + m21;
        n22 = t.n22 + m22;
        n31 = t.n31 + m31;
        typical = t.typical + mt;
        total = t.total + 1;
      })
  tallies-more rs r h k =
      record {
        is_0 = tally-of k 0 rs h.is_0 (e0 ∙ ap bool_byte (same_code x.kind k0));
        is_11 = tally-of k 11 rs h.is_11 (e11 ∙ ap bool_byte (same_code x.kind k11));
        is_21 = tally-of k 21 rs h.is_21 (e21 ∙ ap bool_byte (same_code x.kind k21));
        is_22 = tally-of k 22 rs h.is_22 (e22 ∙ ap bool_byte (same_code x.kind k22));
        is_31 = tally-of k 31 rs h.is_31 (e31 ∙ ap bool_byte (same_code x.kind k31));
        is_typical = ap₂ (λ (i j : ℕ). i + j) h.is_typical (et ∙ as_number b ∙ ap one_if (typical-is r k)) ∙ sym (typicals-more rs r);
        is_total = omega (arith, h.is_total, length-append rs (r ∷ []));
      }
