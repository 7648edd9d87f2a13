-- The number is read and reduced.
use mathlib.Core.Path.{ap, ◌∙◌}
use native.Mathlib.Nat.{mod-lt}
use Rattle.field.specs.Residue.{el}
use Rattle.field.proofs.Element.{el_mod}
use borrow.Author.Rules.{rules}
use Rattle.quotients.proofs.denominator.Goals as goal

pub returns : goal.returns
returns c =
    record { below = mod-lt _ c.requires.positive; is = el_mod c.args.p _ ∙ ap (el c.args.p) (search rules) }
