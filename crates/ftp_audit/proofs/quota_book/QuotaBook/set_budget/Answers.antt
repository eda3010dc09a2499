use Rattle.std.proofs.Common.{ℕ, ap}
use Rattle.ftp_audit.specs.Names.{ByName, by_name}
use Rattle.ftp_audit.proofs.ByName.{by_name-put}
use Rattle.ftp_audit.proofs.quota_book.QuotaBook.set_budget.Goals as goal

pub returns-clause-set : goal.returns-clause-set
returns-clause-set c =
    rw (← c.self.view_is)
    (ap (λ (budgets : ByName ℕ). record { default = c.self.inside.default; budgets = budgets; owners = by_name c.self.inside.owners.entries })
    (by_name-put c.self.inside.budgets.entries _ c.args.user c.into_vec.result c.args.n c.into_vec.ensures c.in_ok-insert.ensures.entries))
