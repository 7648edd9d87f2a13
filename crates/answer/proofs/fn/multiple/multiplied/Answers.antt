-- The number that is captured is the one that is passed on.
use mathlib.Core.Path.{subst}
use lib.IntN.{ℤ}
use mir.Facts.{to_z-of_z}
use Rattle.classes.specs.Found.{OnCurves, MultipleMade}
use Rattle.answer.proofs.fn.multiple.multiplied.Goals as goal

pub returns : goal.returns
returns c =
    subst (λ (n : ℤ). OnCurves c.args.g (λ k. MultipleMade k c.args.x n c.multiple_of.result)) (to_z-of_z c.requires.fits) c.multiple_of.ensures
