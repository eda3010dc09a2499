use Rattle.std.proofs.Common.{◌∙◌, Option}
use Rattle.ftp_lockout.specs.declared.cache.Failures.{Failures}
use Rattle.ftp_lockout.specs.Failures.{failures_of, let_in}
use Rattle.ftp_handlers.proofs.Keys.{same_key-login}
use Rattle.ftp_handlers.proofs.auth_done.let_in.Goals as goal

-- the key is that of the name that is kept
pub returns-clause-failures : goal.returns-clause-failures
returns-clause-failures c key =
    let before : Option Failures = failures_of c.args.cache.now key in
    let kept = c.take_both-name.ensures.kept ∙ c.requires.kept in
    c.success-lock.ensures.removed key
    ∙ same_key-login key c.args.cache.now.policy c.args.session.now c.take_both-name.result.0 kept (let_in c.args.cache.now.policy c.args.at before) before
