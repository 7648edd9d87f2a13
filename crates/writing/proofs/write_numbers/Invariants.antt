-- `writing::write_numbers` meets its contract. The loop's invariant: the first i numbers are written.
use Rattle.std.proofs.Common.{◌≡◌, ◌≤◌, length}
use Rattle.writing.proofs.Stores.{filled}
use Rattle.writing.proofs.write_numbers.Given as goal

abbrev pub invariant-loop-i : goal.invariant-loop-i
invariant-loop-i l = (l.i ≤ length l.ns) × (l.out ≡ filled l.initial.out l.at l.ns l.i)
