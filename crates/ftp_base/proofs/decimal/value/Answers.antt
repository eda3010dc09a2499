use Rattle.std.proofs.Common.{Err, subst}
use Rattle.std.specs.Str.Parse.{ParsesUnsigned}
use Rattle.ftp_base.proofs.Digits.{digits-text, none-fits}
use Rattle.ftp_base.proofs.decimal.value.Goals as goal

pub returns-in_default : goal.returns-in_default
returns-in_default c = absurd (c.in_default.ensures.cases.0 (digits-text c.args.digits.now c.requires.digits))

pub returns-in-Err : goal.returns-in-Err
returns-in-Err c =
    none-fits c.args.digits.now c.in-Err.field-0 c.requires.digits c.requires.some
    (subst (λ text. ParsesUnsigned 64 10 text (Err c.in-Err.field-0)) c.in-Ok.ensures.cases.0 c.in-Err.ensures.value.0)
