-- `tallies::typical` meets its contract: the record of a divisor by value has its kind and its numbers.
use mathlib.Core.Path.{sym, ◌∙◌, subst}
use mathlib.Core.Bool.{true, false}
use Rattle.divisor.specs.Kind.{k31}
use Rattle.tallies.specs.Tallied.{TypicalTest}
use Rattle.tallies.proofs.More.{same_code, typical_value}
use Rattle.tallies.proofs.typical.Goals as goal

-- the kind is 31
pub returns-then-eq : goal.returns-then-eq
returns-then-eq c =
    let x = c.args.x in
    typical_value x true (sym (c.eq.ensures ∙ same_code x.kind k31) ∙ c.if-eq.true)

-- it is another, so that what the test of the kind gave is false
pub returns-else-eq : goal.returns-else-eq
returns-else-eq c =
    let x = c.args.x in
    subst (TypicalTest x) (sym c.if-eq.false) (typical_value x false (sym (c.eq.ensures ∙ same_code x.kind k31) ∙ c.if-eq.false))
