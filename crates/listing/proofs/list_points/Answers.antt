-- `listing::list_points` meets its contract: at each turn the points before (a, 0) are in the slice. The measure is p − a, for the next root a.
use mathlib.Core.Path.{subst}
use Prim.Native.Nat.{ℕ, ◌<◌}
use native.Mathlib.Omega.{arith}
use Rattle.std.specs.Prelude.{Option, IfSome}
use Rattle.listing.proofs.Lines.{reached-start, reached-lines, reached-next, reached-here, reached-past, reached-all}
use Rattle.listing.proofs.list_points.Goals as goal

pub loop-x-init : goal.loop-x-init
loop-x-init c = (c.root_from-x.ensures.below, reached-lines (reached-start c.args.out.now) c.in_x-c.ensures c.root_from-x.ensures.found)

pub list_at-n-requires : goal.list_at-n-requires
list_at-n-requires c =
    record {
      stands = record { divided = c.requires.divided; triple = c.triple_of-t.ensures };
      below = subst (λ (o : Option ℕ). IfSome o (λ a. a < c.args.g.p)) c.in-Some.is c.loop-x.invariant.0;
      first = c.args.out.now;
      room = c.requires.room;
      reached = reached-here c.loop-x.invariant.1 c.in-Some.is;
    }

pub loop-x-preserved : goal.loop-x-preserved
loop-x-preserved c =
    let root = c.root_from-x-in-Some.ensures in
    (root.below, reached-next (reached-here c.loop-x.invariant.1 c.in-Some.is) c.list_at-n.ensures c.in_x-c.ensures root.found)

pub returns : goal.returns
returns c = reached-all (reached-past c.loop-x.invariant.1 c.in_default.is) (omega arith)
