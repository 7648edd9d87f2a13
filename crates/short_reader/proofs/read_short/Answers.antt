-- Each return is at the first stage that is not passed; the laws are those of Grounds.
use borrow.Author.Rules.{rules}
use Rattle.refusal.proofs.Passed.{passed_on}
use Rattle.short_reader.proofs.Grounds.{positive, short_asked, cause-form, found_8, found_15, found-read}
use Rattle.short_reader.proofs.read_short.Goals as goal

pub short_form-requires : goal.short_form-requires
short_form-requires c = positive c.requires

pub returns-in_err-kind : goal.returns-in_err-kind
returns-in_err-kind c G =
    rw (passed_on _ c.from_residual.ensures.1) (cause-form G _ _ c.in_err-kind.ensures)

pub value-x-requires : goal.value-x-requires
value-x-requires c = positive c.requires

pub filling_zero-zero-requires : goal.filling_zero-zero-requires
filling_zero-zero-requires c =
    record { asked = short_asked c.requires c.in_ok-kind.ensures.0; of_kind = c.in_ok-kind.ensures.1 }

pub returns-in-Err-Number : goal.returns-in-Err-Number
returns-in-Err-Number c G =
    found_8 G _ _ c.in_ok-kind.ensures.0 c.in_ok-kind.ensures.1 c.value-x.ensures _ (c.read_value-read.ensures G) (search rules)

pub returns-in_default : goal.returns-in_default
returns-in_default c G =
    found_15 G _ _ c.in_ok-kind.ensures.0 c.in_ok-kind.ensures.1 c.value-x.ensures _ (c.read_value-read.ensures G)
    (λ e. grind (rules, e, c.in_default.branch))
    (c.filling_zero-zero.ensures.fails c.if-not-zero.true)

pub returns-in_default-2 : goal.returns-in_default-2
returns-in_default-2 c G =
    found-read G _ _ c.in_ok-kind.ensures.0 c.in_ok-kind.ensures.1 c.value-x.ensures _ (c.read_value-read.ensures G)
    (c.filling_zero-zero.ensures.holds c.if-not-zero.false)
