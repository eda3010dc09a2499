use Rattle.std.proofs.Common.{sym, ap, ◌∙◌}
use Rattle.std.specs.FinMap as map
use Rattle.ftp_audit.specs.Book.{Book}
use Rattle.ftp_audit.proofs.ByName.{get-found}
use Rattle.ftp_audit.proofs.quota_book.QuotaBook.own_budget.Goals as goal

pub returns : goal.returns
returns c =
    c.copied.ensures
    ∙ sym (get-found c.self.inside.budgets.entries c.args.user.now _ _ c.as_slice.ensures c.get.ensures.value)
    ∙ ap (λ (b : Book). map.get b.budgets c.args.user.now) c.self.view_is
