use Rattle.std.proofs.Common.{◌≡◌, sym, arith}
use Rattle.ftp_audit.proofs.Shares.{on_ok, equal_owner, own-le, given-changed, given-new}
use Rattle.ftp_audit.proofs.quota_book.QuotaBook.may_begin.Goals as goal
use Rattle.ftp_audit.proofs.quota_book.QuotaBook.may_begin.Goals.{in-None, in-Some+else-ne}

pub overflow_sub-others : goal.overflow_sub-others
overflow_sub-others c =
    let below = own-le c.args.self.now.owners c.args.path.now c.in-Some.held.now c.args.user.now (sym c.in-Some.ensures) (equal_owner _ _ c.ne.ensures c.if-ne.false) in
    omega (arith, c.used-used.ensures)

pub returns-clause-room : goal.returns-clause-room
returns-clause-room c =
    let used = c.used-used.ensures in
    let small = c.budget-budget.type_inv in
    on_ok c.if_within.result _ _ _ c.if_within.ensures
    (elim c.match-holder.branch [
      | in-None w ↦ λ fits.
          let others = w.others-is in
          let grown = given-new c.args.self.now.owners c.args.path.now c.args.user.now c.args.start (sym w.in-None.ensures) in
          omega arith
      | in-Some+else-ne w ↦ λ fits.
          let others = w.others-is in
          let owner : w.in-Some.held.now.owner ≡ c.args.user.now = equal_owner _ _ w.ne.ensures w.if-ne.false in
          let grown = given-changed c.args.self.now.owners c.args.path.now c.args.user.now c.args.start w.in-Some.held.now (sym w.in-Some.ensures) owner in
          omega arith
    ])
