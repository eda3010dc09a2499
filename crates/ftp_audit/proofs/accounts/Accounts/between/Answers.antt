use Rattle.std.proofs.Common.{Some, None}
use Rattle.ftp_audit.proofs.UserLemmas.{marks-found}
use Rattle.ftp_audit.proofs.accounts.Accounts.between.Goals as goal

pub returns-in-Some : goal.returns-in-Some
returns-in-Some c =
    let found = marks-found c.self.inside.users.entries c.args.user.now c.as_slice.result.now (Some c.in-Some.account.now) c.as_slice.ensures c.in-Some.ensures.value in
    rw (← c.self.view_is, found) c.between.ensures

pub returns-in-None : goal.returns-in-None
returns-in-None c =
    let found = marks-found c.self.inside.users.entries c.args.user.now c.as_slice.result.now None c.as_slice.ensures c.in-None.ensures.value in
    rw (← c.self.view_is, found) c.new.ensures
