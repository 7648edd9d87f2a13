-- What was read is the input, or as much of it as the buffer holds; so the text is the report on the input.
use Rattle.std.proofs.Common.{◌≡◌, ℕ, ◌<◌, ◌≤◌, List, Option, Some, None, Result, Ok, Err, IfSome, OnOk, arith, length, take, sym, ap, ◌∙◌, length-append, length-take-le}
use Rattle.std.specs.Io.KnownBytes.{Appends, Consumes, IsAtEnd}
use Prim.Native.Nat.{◌+◌, min}
use lib.Seq.{take-append-le}
use Rattle.std.proofs.lemmas.List.{take_all}
use Rattle.report.specs.Report.{Report}
use Rattle.report.specs.Input.{ReportsRead}
use Rattle.console.proofs.report_on.Goals as goal

lesser : (n i b r : ℕ) → n ≤ b → i ≡ n + r → (n < b → r ≡ 0) → n ≡ min i b
lesser n i b r h e f = grind arith

-- n bytes were read, and fewer than the buffer holds only at the end of the input
reports : (old new : Option (List ℕ)) (buf : List ℕ) (n : ℕ) (text : List ℕ) → n ≤ length buf → Consumes old new (take n buf) → (n < length buf → IsAtEnd new)
    → ReportsRead buf n text → IfSome old (λ input. Report input text)
reports None new buf n text bound bytes end h = tt
reports (Some input) None buf n text bound bytes end h = absurd bytes
reports (Some input) (Some rest) buf n text bound bytes end h =
    let long = length-take-le n buf bound in
    let whole = ap length bytes ∙ length-append (take n buf) rest in
    let shut : n < length buf → length rest ≡ 0 = λ l. ap length (end l) in
    h
    input
    (record {
      many = lesser n (length input) (length buf) (length rest) bound (omega arith) shut;
      same = sym (ap (take n) bytes ∙ take-append-le n (take n buf) rest (omega arith) ∙ take_all n (take n buf) (omega arith));
    })

written : {T E : Type 0} (r : Result T E) (known old new : Option (List ℕ)) (text : List ℕ) → IfSome known (λ input. Report input text) → OnOk r (Appends old new text)
    → OnOk r (IfSome known (λ input. (x : List ℕ) × Report input x × Appends old new x))
written (Err e) known old new text h w = tt
written (Ok v) None old new text h w = tt
written (Ok v) (Some input) old new text h w = (text, h, w)

pub returns : goal.returns
returns g c =
    written _ _ _ _ _
    (reports _ _ _ _ _ c.in_ok-n.ensures.bound c.in_ok-n.ensures.bytes c.in_ok-n.ensures.end c.report_read-text.ensures)
    c.write_all.ensures.bytes
