-- `quick::served` meets its contract: the request's conditions are tested, and then the formulas are tried.
use Rattle.quick.proofs.Serving.{denied, granted, not_short, not_typical-first, not_typical-second, tried-served}
use mathlib.Core.Path.{ap}
use mathlib.Core.Bool.{not}
use Rattle.quick.proofs.served.Goals as goal

pub returns-then-not-short_form : goal.returns-then-not-short_form
returns-then-not-short_form c = not_short (c.short_form.ensures.fails (denied _ (ap not c.if-not-short_form.true)))

pub returns-then-not-is_typical : goal.returns-then-not-is_typical
returns-then-not-is_typical c = not_typical-first (c.is_typical.ensures.fails (denied _ (ap not c.if-not-is_typical.true)))

pub returns-then-not-is_typical-2 : goal.returns-then-not-is_typical-2
returns-then-not-is_typical-2 c = search (not_typical-first, not_typical-second, c.is_typical-2.ensures.fails (denied _ (ap not c.if-not-is_typical-2.true)))

pub returns-in-Formulas : goal.returns-in-Formulas
returns-in-Formulas c =
    tried-served (rw c.in-Formulas.is at c.tried.ensures.tried) (c.short_form.ensures.holds (granted _ (ap not c.if-not-short_form.false)))
    (c.is_typical.ensures.holds (granted _ (ap not c.if-not-is_typical.false))) (c.is_typical-2.ensures.holds (granted _ (ap not c.if-not-is_typical-2.false)))

pub returns-in-Product : goal.returns-in-Product
returns-in-Product c =
    tried-served (rw c.in-Product.is at c.tried.ensures.tried) (c.short_form.ensures.holds (granted _ (ap not c.if-not-short_form.false)))
    (c.is_typical.ensures.holds (granted _ (ap not c.if-not-is_typical.false))) (c.is_typical-2.ensures.holds (granted _ (ap not c.if-not-is_typical-2.false)))
