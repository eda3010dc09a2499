use Rattle.std.proofs.Common.{◌≡◌, ◌^◌, ◌<◌, ap}
use Rattle.std.specs.Prelude.{IsSomeAnd}
use Rattle.std.specs.FinMap as map
use Rattle.ftp_audit.specs.Names.{by_name}
use Rattle.ftp_audit.specs.Usage.{Owners, given}
use Rattle.ftp_audit.proofs.Balance.{put_so, put_now}
use Rattle.ftp_audit.proofs.quota_book.QuotaBook.put.Goals as goal

pub recount-requires : goal.recount-requires
recount-requires c =
    let held : IsSomeAnd (map.get (by_name c.self.inside.owners.entries) c.args.path.now) (λ held. held.owner ≡ c.args.user.now) = rw (← c.self.view_is) at c.requires.held in
    let room : given (map.insert (by_name c.self.inside.owners.entries) c.args.path.now (record { owner = c.args.user.now; len = c.args.len })) c.args.user.now < 2 ^ 64 = rw (← c.self.view_is) at c.requires.room in
    put_so (by_name c.self.inside.used.entries) (by_name c.self.inside.used.entries) (by_name c.self.inside.owners.entries) (by_name c.self.inside.owners.entries) c.args.path.now c.args.user.now c.args.len c.set_len-before.result c.self.invariant.balance held room c.set_len-before.ensures.before

pub invariant_of-self : goal.invariant_of-self
invariant_of-self c =
    let held : IsSomeAnd (map.get (by_name c.self.inside.owners.entries) c.args.path.now) (λ held. held.owner ≡ c.args.user.now) = rw (← c.self.view_is) at c.requires.held in
    let now = put_now (by_name c.self.inside.used.entries) (by_name c.recount.new.used.entries) (by_name c.self.inside.owners.entries) (by_name c.set_len-before.new.owners.entries)
    c.args.path.now c.args.user.now c.args.len c.set_len-before.result c.self.invariant.balance held c.set_len-before.ensures.before c.set_len-before.ensures.set c.recount.ensures in
    record { ordered = c.set_len-before.ensures.ordered; balance = now.1 }

pub returns : goal.returns
returns c =
    let held : IsSomeAnd (map.get (by_name c.self.inside.owners.entries) c.args.path.now) (λ held. held.owner ≡ c.args.user.now) = rw (← c.self.view_is) at c.requires.held in
    let now = put_now (by_name c.self.inside.used.entries) (by_name c.recount.new.used.entries) (by_name c.self.inside.owners.entries) (by_name c.set_len-before.new.owners.entries)
    c.args.path.now c.args.user.now c.args.len c.set_len-before.result c.self.invariant.balance held c.set_len-before.ensures.before c.set_len-before.ensures.set c.recount.ensures in
    rw (← c.self.view_is) (ap (λ (owners : Owners). record { default = c.self.inside.default; budgets = by_name c.self.inside.budgets.entries; owners = owners }) now.0)
