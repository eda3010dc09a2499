use Rattle.std.proofs.Common.{◌≡◌, ap}
use Rattle.std.specs.Prelude.{IfSome}
use Rattle.std.specs.FinMap as map
use Rattle.ftp_audit.specs.Names.{by_name}
use Rattle.ftp_audit.specs.Usage.{Owners}
use Rattle.ftp_audit.proofs.ByName.{by_name-removed}
use Rattle.ftp_audit.proofs.Balance.{balance-removed}
use Rattle.ftp_audit.proofs.quota_book.QuotaBook.give_up.Goals as goal

pub invariant_of-self : goal.invariant_of-self
invariant_of-self c =
    let owners = by_name c.self.inside.owners.entries in
    let empty : IfSome (map.get (by_name c.self.inside.owners.entries) c.args.path.now) (λ held. held.len ≡ 0) = rw (← c.self.view_is) at c.requires.empty in
    record {
      ordered = c.remove.ensures.ordered;
      balance = rw (by_name-removed c.self.inside.owners.entries _ c.args.path.now _ c.self.invariant.ordered c.as_slice.ensures c.remove.ensures.entries)
          (balance-removed (by_name c.self.inside.used.entries) owners c.args.path.now c.self.invariant.balance empty);
    }

pub returns : goal.returns
returns c =
    rw (← c.self.view_is)
    (ap (λ (owners : Owners). record { default = c.self.inside.default; budgets = by_name c.self.inside.budgets.entries; owners = owners })
    (by_name-removed c.self.inside.owners.entries _ c.args.path.now _ c.self.invariant.ordered c.as_slice.ensures c.remove.ensures.entries))
