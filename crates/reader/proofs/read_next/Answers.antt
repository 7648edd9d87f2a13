-- The part of the list that the length field gives is read as a divisor.
use Rattle.refusal.proofs.Passed.{passed_on}
use Rattle.refusal.specs.Refusal.{number_of}
use Rattle.reader.proofs.DivisorReader.{next-refused, next-given}
use Rattle.reader.proofs.read_next.Goals as goal

pub returns-in_err-r : goal.returns-in_err-r
returns-in_err-r c G =
    rw (passed_on _ c.from_residual.ensures.1)
    (next-refused _ G.ready.setting.curve c.args.s.now c.if-s-lt4.false c.read_u16-n.result c.read_u16-n.ensures.is c.if-n-lt4.false c.if-s-n.false
    (number_of c.in_err-r.field-0.0) (c.in_err-r.ensures G))

pub returns : goal.returns
returns c G =
    next-given _ G.ready.setting.curve c.args.s.now c.if-s-lt4.false c.read_u16-n.result c.read_u16-n.ensures.is c.if-n-lt4.false c.if-s-n.false c.in_ok-r.r
    (c.in_ok-r.ensures G)
