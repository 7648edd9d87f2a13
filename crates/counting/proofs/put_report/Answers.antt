-- `counting::put_report` meets its contract: what is printed for what is found of the list on the ground of the curve.
use Rattle.std.proofs.Common.{rules}
use Rattle.classes.specs.Found.{Curved}
use Rattle.counting.proofs.Printed.{curve_first, printable, printed-found}
use Rattle.counting.proofs.put_report.Goals as goal

pub on_curve-requires : goal.on_curve-requires
on_curve-requires c = λ g o.
    let curved : Curved g = (c.args.curve.now, o) in
    search rules

pub put_pass-requires : goal.put_pass-requires
put_pass-requires c =
    let k = c.args.curve.now in
    let s = c.args.list.now in
    record {
      printable = printable k s _ (curve_first k s _ (λ g o q p. search (rules, o)) c.on_curve.ensures);
      longest_bound = c.requires;
    }

pub returns : goal.returns
returns c =
    let k = c.args.curve.now in
    let s = c.args.list.now in
    printed-found k s _ (curve_first k s _ (λ g o q p. search (rules, o)) c.on_curve.ensures) c.put_pass.ensures
