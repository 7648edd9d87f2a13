-- Each number is read at its place.
use mathlib.Core.Path.{refl}
use Rattle.checks.proofs.Answer.{nine}
use Rattle.short_reader.proofs.ShortReader.{number-moved}
use Rattle.short_reader.proofs.value.Goals as goal

pub returns : goal.returns
returns c =
    let s = c.args.s.now in
    let w = c.bit_length-w.ensures.is in
    let m = c.count-count.ensures.is in
    record {
      kind = refl;
      number =
          nine
          _
          (number-moved w m s 0 _ c.number.ensures)
          (number-moved w m s 1 _ c.number-2.ensures)
          (number-moved w m s 2 _ c.number-3.ensures)
          (number-moved w m s 3 _ c.number-4.ensures)
          (number-moved w m s 4 _ c.number-5.ensures)
          (number-moved w m s 5 _ c.number-6.ensures)
          (number-moved w m s 6 _ c.number-7.ensures)
          (number-moved w m s 7 _ c.number-8.ensures)
          (number-moved w m s 8 _ c.number-9.ensures);
    }
