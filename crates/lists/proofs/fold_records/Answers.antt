-- The records are read one after another, and the step is called at each.
use native.Mathlib.Omega.{arith}
use lib.ListN.{length-drop}
use Rattle.std.proofs.lemmas.Bool.Decides.{nat_tests}
use Rattle.refusal.proofs.Passed.{passed_on}
use Rattle.reader.proofs.Ground.{grounded_on}
use Rattle.lists.proofs.Walk.{walked_start, walked_end, walked_refused, next_bounds, walked_asked, walked_more}
use Rattle.lists.proofs.fold_records.Goals as goal

pub loop-rest-init : goal.loop-rest-init
loop-rest-init g c = walked_start _ _ _ _

pub read_next-requires : goal.read_next-requires
read_next-requires g c = grounded_on c.requires.curved.1

pub returns-in_err-x : goal.returns-in_err-x
returns-in_err-x g c =
    rw (passed_on _ c.from_residual.ensures.1)
    (walked_refused _ c.args.list.now _ _ _ c.loop-rest.invariant c.if-list-gt-LIST_LIMIT.false (grind (arith, nat_tests)) _ c.in_err-x.ensures)

pub step-made-requires : goal.step-made-requires
step-made-requires g c =
    c.requires.callable _ _ (walked_asked _ c.args.list.now _ _ _ c.loop-rest.invariant c.if-list-gt-LIST_LIMIT.false _ _ c.in_ok-x.ensures)

pub slice_bounds-rest-count : goal.slice_bounds-rest-count
slice_bounds-rest-count g c =
    let b = next_bounds _ c.args.list.now _ _ _ c.loop-rest.invariant c.if-list-gt-LIST_LIMIT.false _ _ c.in_ok-x.ensures c.requires.curved in
    omega (arith, b)

pub slice_bounds-rest-start : goal.slice_bounds-rest-start
slice_bounds-rest-start g c =
    let b = next_bounds _ c.args.list.now _ _ _ c.loop-rest.invariant c.if-list-gt-LIST_LIMIT.false _ _ c.in_ok-x.ensures c.requires.curved in
    omega (arith, b)

pub loop-rest-smaller : goal.loop-rest-smaller
loop-rest-smaller g c =
    let b = next_bounds _ c.args.list.now _ _ _ c.loop-rest.invariant c.if-list-gt-LIST_LIMIT.false _ _ c.in_ok-x.ensures c.requires.curved in
    omega (arith, b, length-drop c.in_ok-x.n c.loop-rest.rest.now)

pub loop-rest-preserved : goal.loop-rest-preserved
loop-rest-preserved g c =
    walked_more _ c.args.list.now _ _ _ c.loop-rest.invariant c.if-list-gt-LIST_LIMIT.false _ _ c.in_ok-x.ensures _ c.step-made.ensures

pub returns : goal.returns
returns g c =
    walked_end _ c.args.list.now _ _ _ c.loop-rest.invariant c.if-list-gt-LIST_LIMIT.false (grind (arith, nat_tests))
