-- A length, a short kind and the packed numbers are written one after the other.
use native.Mathlib.Nat.{mul-le-mul}
use native.Mathlib.Omega.{arith}
use Rattle.short.proofs.Accepted.{short_code-small}
use Rattle.short_writer.proofs.Put.{pack_asked, short-put}
use Rattle.short_writer.proofs.write_short.Goals as goal

pub overflow_sub-p : goal.overflow_sub-p
overflow_sub-p c = omega (arith, c.requires.shaped.below 0)

pub overflow_mul-size : goal.overflow_mul-size
overflow_mul-size c = omega (arith, mul-le-mul c.bit_length-w.ensures.small c.count-count.ensures.small)

pub overflow_add-size : goal.overflow_add-size
overflow_add-size c = omega (arith, mul-le-mul c.bit_length-w.ensures.small c.count-count.ensures.small)

pub overflow_add-size-2 : goal.overflow_add-size-2
overflow_add-size-2 c = omega (arith, mul-le-mul c.bit_length-w.ensures.small c.count-count.ensures.small)

pub overflow_add-code : goal.overflow_add-code
overflow_add-code c = omega (arith, c.code-code.ensures, short_code-small c.args.x.kind)

pub overflow_cast-size-2 : goal.overflow_cast-size-2
overflow_cast-size-2 c = omega (arith, mul-le-mul c.bit_length-w.ensures.small c.count-count.ensures.small)

pub write_u16-requires : goal.write_u16-requires
write_u16-requires c = record { at_in_bounds = omega (arith, c.requires.enough); v_bound = omega (arith, mul-le-mul c.bit_length-w.ensures.small c.count-count.ensures.small) }

pub write_u16-requires-2 : goal.write_u16-requires-2
write_u16-requires-2 c =
    record { at_in_bounds = omega (arith, c.write_u16.auto.s, c.requires.enough); v_bound = omega (arith, c.code-code.ensures, short_code-small c.args.x.kind) }

pub pack-requires : goal.pack-requires
pack-requires c =
    let asked = c.requires in
    pack_asked _ _ _ asked.shaped (omega arith) _ _ c.bit_length-w.ensures.is
    c.count-count.ensures.is _ (omega (arith, c.write_u16.auto.s, c.write_u16-2.auto.s, asked.enough))

pub returns : goal.returns
returns c =
    let asked = c.requires in
    short-put _ _ _ asked.shaped (omega arith) _ _ c.bit_length-w.ensures.is
    c.count-count.ensures.is _ _ _ _ _ _ asked.enough (omega arith) (omega (arith, c.code-code.ensures))
    c.write_u16.ensures c.write_u16-2.ensures c.pack.ensures
