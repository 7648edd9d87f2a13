-- From what was found of a list to what is printed.
--   curve_first          the curve's stages come before those of the list: what is found of the list is found with them
--   printable            what was found can be printed
--   Taken x n out        the record of x is the first n bytes of the buffer
--   taken                … of the buffer that it was written to
--   all_put, refused-put     what is put for the cases of the answer
--   printed-found        what is printed for what was found
use mathlib.Core.Path.{◌≡◌, refl, sym, ap, ◌∙◌, subst}
use mathlib.Core.Logic.{inl, inr}
use mathlib.Core.List.{List, ◌++◌}
use Prim.Native.Nat.{ℕ, ◌+◌, ◌≤◌}
use native.Mathlib.Omega.{arith}
use lib.ListN.{length, take, length-take}
use lib.Seq.{take_at}
use Rattle.std.specs.Prelude.{Result, Ok, Err}
use Rattle.refusal.specs.Refusal.{number_of}
use Rattle.refusal.specs.declared.Refusal.{Refusal}
use Rattle.ground.specs.declared.Ground.{Ground}
use Rattle.text.specs.Written.{Written}
use Rattle.text.specs.Put.{Put, Placed}
use Rattle.text.proofs.Put.{put_length}
use Rattle.basis.specs.declared.Divisor.{Divisor}
use Rattle.record.specs.Curve.{curve_stages}
use Rattle.reader.specs.Contract.{WriteAnswer}
use Rattle.reader.specs.Reading.{On, GivenOn, DoneOn, refused, done}
use Rattle.record.specs.Value.{bytes_of}
use Rattle.record.proofs.Cause.{first_append, passes_append}
use Rattle.divisor.proofs.Codes.{size-least, size-most}
use Rattle.reader.proofs.Answer.{written_out, given-bytes}
use Rattle.calls.specs.Call.{room, list_of}
use Rattle.report.specs.Report.{refused_line, lines, counted}
use Rattle.report.specs.Report as report_on
use Rattle.printing.specs.Contract.{AllPushed}
use Rattle.tallies.proofs.More.{tallies_bounded}
use Rattle.pass.specs.declared.Pass.{Pass}
use Rattle.pass.specs.Found.{PassFound}
use Rattle.counting.specs.Contract.{Printable, PassPut, PrintedOn}

-- what was found of the list s on the curve c, with the curve's own stages before
abbrev pub FoundOn : (c s : List ℕ) → Result Pass Refusal → Type 0
FoundOn c s r = PassFound c (curve_stages c ++ list_of c s) s r

pub curve_first : (c s : List ℕ) {Post : Ground → Result Pass Refusal → Type 0} (r : Result Pass Refusal)
    → ((g : Ground) → On c g → (q : Result Pass Refusal) → Post g q → PassFound c (list_of c s) s q) → DoneOn c Post r → FoundOn c s r
curve_first c s r each (refused e f q) = subst (FoundOn c s) (sym q) ((first_append (curve_stages c) (list_of c s) (number_of e)).1 (inl f))
curve_first c s r each (done g o k) = behind r (each g o r k)
  where
    behind : (q : Result Pass Refusal) → PassFound c (list_of c s) s q → FoundOn c s q
    behind (Ok p) f = ((passes_append (curve_stages c) (list_of c s)).1 (o.accepted, f.0), f.1)
    behind (Err e) f = (first_append (curve_stages c) (list_of c s) (number_of e)).1 (inr (o.accepted, f))

pub printable : (c s : List ℕ) (r : Result Pass Refusal) → FoundOn c s r → Printable r
printable c s (Ok p) f =
    (tallies_bounded f.1.2.tallies).most_typical
printable c s (Err e) f = tt

pub record Taken (x : Divisor) (n : ℕ) (out : List ℕ) : Type 0 where
  pub least : 4 ≤ n
  pub most : n ≤ room
  pub full : n ≡ length (take n out)
  pub inside : n ≤ length out
  pub is : (c w : List ℕ) → GivenOn c w x → take n out ≡ w

module _ {x : Divisor} {out out' : List ℕ} {n : ℕ} (a : WriteAnswer x out out' n) where
  bytes_taken : take n out' ≡ bytes_of x.kind x
  bytes_taken =
      let w = written_out x out out' n a in
      ap (take n) w.1 ∙ take_at (bytes_of x.kind x) _ n (sym w.0)

  pub taken : Taken x n out'
  taken =
      let full : n ≡ length (take n out') = (written_out x out out' n a).0 ∙ ap length (sym bytes_taken) in
      record {
        least = omega (arith, a.long, size-least x.kind);
        most = omega (arith, a.long, size-most x.kind);
        full = full;
        inside = omega (arith, full, length-take n out');
        is = λ c w v. bytes_taken ∙ given-bytes v;
      }

module _ {s s' : Written} where
  pub all_put : {p : Pass} {n : ℕ} {sum : List ℕ} → Taken p.sum n sum → AllPushed p.tallies (take n sum) s s' → PassPut (Ok p) s s'
  all_put k h =
      record {
        put = λ c w v rs z. subst (λ (u : List ℕ). Put s (lines rs u) s') (k.is c w v) (h.put rs z);
        short = h.short;
      }

  pub refused-put : (e : Refusal) → Placed s (refused_line (number_of e)) 19 s' → PassPut (Err e) s s'
  refused-put e h = record { put = h.put; short = omega (arith, h.within, put_length h.put) }

  pub printed-found : (c l : List ℕ) (p : Result Pass Refusal) → FoundOn c l p → PassPut p s s' → PrintedOn c l s s'
  printed-found c l (Ok p) f h =
      let rs = f.1.0 in
      let z = f.1.2 in
      let w = z.sum.0 in
      record {
        text = lines rs w;
        report = counted rs w f.0 f.1.1 z.sum.1 refl;
        put = h.put c w z.sum.2 rs z.tallies;
        short = h.short;
      }
  printed-found c l (Err e) f h =
      record { text = refused_line (number_of e); report = report_on.refused (number_of e) f refl; put = h.put; short = h.short }
