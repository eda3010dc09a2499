use Rattle.std.proofs.Common.{◌+◌, sym, arith}
use Rattle.ftp_audit.proofs.Shares.{equal_owner, own-le, given-changed}
use Rattle.ftp_audit.proofs.quota_book.QuotaBook.may_append.Goals as goal

pub overflow_add-result : goal.overflow_add-result
overflow_add-result c =
    let below = own-le c.args.self.now.owners c.args.path.now c.in-Some.held.now c.args.user.now (sym c.in-Some.ensures) (equal_owner _ _ c.ne.ensures c.if-ne.false) in
    omega (arith, c.used.ensures, c.in_ok-if_within.ensures, c.budget.type_inv)

pub returns-clause-room : goal.returns-clause-room
returns-clause-room c =
    let owner = equal_owner _ _ c.ne.ensures c.if-ne.false in
    let below = own-le c.args.self.now.owners c.args.path.now c.in-Some.held.now c.args.user.now (sym c.in-Some.ensures) owner in
    let changed = given-changed c.args.self.now.owners c.args.path.now c.args.user.now (c.in-Some.held.now.len + c.args.more) c.in-Some.held.now (sym c.in-Some.ensures) owner in
    omega (arith, c.used.ensures, c.in_ok-if_within.ensures, c.budget.type_inv)
