-- What the functions that read short records require and ensure.
--   FormRead p s r         short_form: the kind for which s stands, whose form is accepted; or the first cause
--   ShortAsked p s         p is not 0, and the form of s is accepted
--   Number w c s i n       n is the i-th of the c numbers of w bits of s; 0 past them
--   ValueOf p s κ r        r has the kind κ and the numbers of s, 0 past them
--   FillingZero p s        the filling of s is zero
--   ValueRead p C x a      read_value: the answer to the record of the divisor by value x
--   ShortRead p C s a      read_short: an accepted short record, and by value the divisor of which it is the short form; or the first cause
use Rattle.std.specs.Prelude.{◌≡◌, List, ℕ, ◌<◌, ◌≤◌, get_or, Result, Ok, Err}
use Rattle.field.specs.Residue.{Z}
use Rattle.curve.specs.Curve.{Curve}
use Rattle.divisor.specs.Kind.{Kind, code, count}
use Rattle.layout.specs.Layout.{record_bytes}
use Rattle.basis.specs.Divisor.{numbers_of}
use Rattle.basis.specs.declared.Divisor.{Divisor}
use Rattle.packing.specs.Packing.{unpacked}
use Rattle.refusal.specs.Refusal.{number_of}
use Rattle.refusal.specs.declared.Refusal.{Refusal}
use Rattle.record.specs.Cause.{FirstCause, Passes}
use Rattle.record.specs.Value.{bytes_of}
use Rattle.reader.specs.Reading.{DivisorGiven, DivisorRead}
use Rattle.short.specs.Short.{width, OfShort, body, short_numbers, ZeroFilling, short_form, short_stages, AcceptedShort}

abbrev pub FormRead : ℕ → List ℕ → Result Kind Refusal → Type 0
FormRead p s (Ok κ) = Passes (short_form p s) × OfShort s κ
FormRead p s (Err e) = FirstCause (short_form p s) (number_of e)

pub record ShortAsked (p : ℕ) (s : List ℕ) : Type 0 where
  pub positive : 0 < p
  pub form : Passes (short_form p s)

pub record Number (w c : ℕ) (s : List ℕ) (i n : ℕ) : Type 0 where
  pub is : i < c → n ≡ get_or (unpacked w c (body s)) i 0
  pub past : c ≤ i → n ≡ 0

pub record ValueOf (p : ℕ) (s : List ℕ) (κ : Kind) (r : Divisor) : Type 0 where
  pub kind : r.kind ≡ κ
  pub number : (i : ℕ) → i < 9 → Number (width p) (count κ) s i (get_or (numbers_of r) i 0)

abbrev pub FillingZero : ℕ → List ℕ → Type 0
FillingZero p s = (κ : Kind) → OfShort s κ → ZeroFilling p κ s

module _ (p : ℕ) (C : Curve (Z p)) where
  abbrev pub ValueRead : Divisor → Result Divisor Refusal → Type 0
  ValueRead x a = DivisorRead p C (bytes_of x.kind x) a

  abbrev pub ShortRead : List ℕ → Result Divisor Refusal → Type 0
  ShortRead s (Ok r) = AcceptedShort p C s × ((κ : Kind) × OfShort s κ × DivisorGiven p C (record_bytes (code κ) (short_numbers p κ s)) r)
  ShortRead s (Err e) = FirstCause (short_stages p C s) (number_of e)
