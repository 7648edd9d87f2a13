-- writing::write_record writes the record of the kind's count.
use native.Mathlib.Omega.{arith}
use mathlib.Core.Path.{ap, ◌∙◌}
use mathlib.Core.List.{◌++◌}
use lib.ListN.{take, drop}
use lib.Seq.{length-take-le}
use Prim.Native.Nat.{ℕ, ◌+◌, ◌*◌}
use Rattle.divisor.proofs.Codes.{code-small}
use Rattle.basis.specs.Divisor.{numbers_of}
use Rattle.layout.specs.Layout.{record_bytes}
use Rattle.reader.proofs.Answer.{written-bytes}
use Rattle.reader.proofs.write_divisor.Goals as goal

pub write_record-requires : goal.write_record-requires
write_record-requires c =
    let k = c.count-count.ensures in
    let front = length-take-le c.count-count.result (numbers_of c.args.r) k.small in
    record {
      length_bound = omega (arith, front, k.small);
      kind_bound = omega (arith, code-small c.args.r.kind, c.code.ensures);
      in_bounds = omega (arith, front, k.is, c.requires.room);
    }

pub returns : goal.returns
returns c =
    let a = c.args in
    let w = c.write_record.ensures in
    let n = c.count-count.ensures.is in
    let front = length-take-le c.count-count.result (numbers_of a.r) c.count-count.ensures.small in
    record {
      long = cc (w.size, ap (λ (m : ℕ). 4 + 4 * m) (front ∙ n));
      bytes = written-bytes a.r c.code.result c.count-count.result a.out.now c.write_record.new.out c.code.ensures n
          (w.written ∙ ap (λ (m : ℕ). record_bytes c.code.result (take c.count-count.result (numbers_of a.r)) ++ drop (4 + 4 * m) a.out.now) front);
    }
