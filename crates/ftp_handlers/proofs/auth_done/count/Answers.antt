use Rattle.std.proofs.Common.{◌∙◌, Option, Some}
use Rattle.ftp_lockout.specs.declared.cache.Failures.{Failures}
use Rattle.ftp_lockout.specs.Failures.{failures_of, one_more}
use Rattle.ftp_handlers.proofs.Keys.{same_key-login}
use Rattle.ftp_handlers.proofs.auth_done.count.Goals as goal

-- the key is that of the name that is kept
pub returns-clause-failures : goal.returns-clause-failures
returns-clause-failures c key =
    let before : Option Failures = failures_of c.args.cache.now key in
    c.in-Ok.ensures.counted key
    ∙ same_key-login key c.args.cache.now.policy c.args.session.now c.args.name c.requires.kept (Some (one_more c.args.cache.now.policy c.args.at before)) before
