use Rattle.std.proofs.Common.{refl, ap, is_some, sym, ◌∙◌}
use Rattle.ftp_audit.specs.Names.{by_name}
use Rattle.ftp_audit.proofs.ByName.{get-found, by_name-put}
use Rattle.ftp_audit.proofs.Balance.{opened_before, opened_now}
use Rattle.ftp_audit.proofs.quota_book.open_count.Goals as goal

pub returns-then-contains_key-clause-opened : goal.returns-then-contains_key-clause-opened
returns-then-contains_key-clause-opened c =
    opened_before (by_name c.args.used.now.entries) c.args.user.now
    (ap is_some (get-found c.args.used.now.entries c.args.user.now _ _ c.as_slice.ensures refl) ∙ sym c.contains_key.ensures ∙ c.if-contains_key.true)

pub returns-clause-opened : goal.returns-clause-opened
returns-clause-opened c =
    rw (by_name-put c.args.used.now.entries _ c.args.user.now c.in_ok-key.key 0 (c.in_ok-key.ensures.items ∙ c.as_slice-2.ensures) c.in_ok-insert.ensures.entries)
    (opened_now (by_name c.args.used.now.entries) c.args.user.now
    (ap is_some (get-found c.args.used.now.entries c.args.user.now _ _ c.as_slice.ensures refl) ∙ sym c.contains_key.ensures ∙ c.if-contains_key.false))
