use Rattle.std.proofs.Common.{refl, Some, None}
use Rattle.ftp_audit.proofs.UserLemmas.{marks-found}
use Rattle.ftp_audit.proofs.accounts.Accounts.total.Goals as goal

pub returns-in_err-get : goal.returns-in_err-get
returns-in_err-get c =
    let found = marks-found c.self.inside.users.entries c.args.user.now c.as_slice.result.now None c.as_slice.ensures c.in_err-get.ensures.value in
    rw (c.from_residual.ensures, ← c.self.view_is, found) refl

pub returns : goal.returns
returns c =
    let found = marks-found c.self.inside.users.entries c.args.user.now c.as_slice.result.now (Some c.in_ok-get.field-0.now) c.as_slice.ensures c.in_ok-get.ensures.value in
    rw (← c.self.view_is, found) c.total.ensures
