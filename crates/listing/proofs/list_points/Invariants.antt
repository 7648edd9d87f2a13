-- `listing::list_points` meets its contract: at each turn the points before (a, 0) are in the slice. The measure is p − a, for the next root a.
use Prim.Native.Nat.{◌-◌, ◌<◌}
use Rattle.std.specs.Prelude.{IfSome, unwrap_or}
use Rattle.listing.specs.Contract.{Reached}
use Rattle.listing.proofs.list_points.Given as goal

abbrev pub invariant-loop-x : goal.invariant-loop-x
invariant-loop-x l = IfSome l.x (λ a. a < l.g.p) × Reached l.g l.r l.initial.out (unwrap_or l.x l.g.p, 0) l.n l.out

abbrev pub decreases-loop-x : goal.decreases-loop-x
decreases-loop-x l = l.g.p - unwrap_or l.x l.g.p
