-- `listing::list_at` meets its contract. The loop's invariant is Line of proofs/Lines, its measure p − b, for the next root b.
use Prim.Native.Nat.{◌-◌, ◌<◌}
use Rattle.std.specs.Prelude.{IfSome, unwrap_or}
use Rattle.listing.proofs.Lines.{Line}
use Rattle.listing.proofs.list_at.Given as goal

abbrev pub invariant-loop-y : goal.invariant-loop-y
invariant-loop-y l = IfSome l.y (λ b. b < l.g.p) × Line l.g l.r l.a l.n l.initial.out (unwrap_or l.y l.g.p) l.m l.out

abbrev pub decreases-loop-y : goal.decreases-loop-y
decreases-loop-y l = l.g.p - unwrap_or l.y l.g.p
