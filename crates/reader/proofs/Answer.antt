-- What write_divisor writes.
--   written-bytes      what is written is the record of the value
--   written_out        what write_divisor leaves, by the record's own length
--   given-bytes        the record of an accepted divisor by value is that of its own kind
use mathlib.Core.Path.{◌≡◌, sym, ap, ap₂, ◌∙◌}
use mathlib.Core.List.{List, ◌++◌}
use Prim.Native.Nat.{ℕ, ◌+◌, ◌*◌}
use lib.ListN.{length, take, drop}
use Rattle.field.specs.Residue.{Z}
use Rattle.curve.specs.Curve.{Curve}
use Rattle.divisor.specs.Kind.{code, count, size}
use Rattle.basis.specs.Divisor.{numbers_of}
use Rattle.basis.specs.declared.Divisor.{Divisor}
use Rattle.layout.specs.Layout.{record_bytes}
use Rattle.reader.specs.Contract.{WriteAnswer}
use Rattle.reader.specs.Reading.{DivisorGiven}
use Rattle.record.specs.Value.{bytes_of}
use Rattle.record.proofs.Written.{length_bytes_of}

pub written-bytes : (r : Divisor) (kind n : ℕ) (out out' : List ℕ) → kind ≡ code r.kind → n ≡ count r.kind
    → out' ≡ record_bytes kind (take n (numbers_of r)) ++ drop (4 + 4 * n) out → out' ≡ bytes_of r.kind r ++ drop (size r.kind) out
unfolding bytes_of
written-bytes r kind n out out' e f h =
    h ∙ ap₂ (λ (a b : ℕ). record_bytes a (take b (numbers_of r)) ++ drop (4 + 4 * b) out) e f

pub written_out : (r : Divisor) (out out' : List ℕ) (n : ℕ) → WriteAnswer r out out' n
    → (n ≡ length (bytes_of r.kind r)) × (out' ≡ bytes_of r.kind r ++ drop (length (bytes_of r.kind r)) out)
written_out r out out' n w =
    let e = length_bytes_of r.kind r in
    (w.long ∙ sym e, w.bytes ∙ ap (λ (m : ℕ). bytes_of r.kind r ++ drop m out) (sym e))

pub given-bytes : {p : ℕ} {C : Curve (Z p)} {s : List ℕ} {r : Divisor} → DivisorGiven p C s r → bytes_of r.kind r ≡ s
given-bytes {r = r} g = ap (λ κ. bytes_of κ r) g.based.shaped.kind ∙ g.bytes
