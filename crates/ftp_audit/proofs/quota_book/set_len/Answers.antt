use Rattle.std.proofs.Common.{refl}
use Rattle.std.proofs.lemmas.Map.{keys-set_value}
use Rattle.ftp_audit.specs.declared.quota_book.Held.{Held}
use Rattle.ftp_audit.proofs.Maps.{never_some}
use Rattle.ftp_audit.proofs.ByName.{at_name, get-found, by_name-written}
use Rattle.ftp_audit.proofs.quota_book.set_len.Goals as goal

pub unreachable-requires : goal.unreachable-requires
unreachable-requires c =
    never_some _ (get-found c.args.owners.now.entries c.args.path.now _ _ c.as_slice.ensures c.in_default.ensures.value) c.requires

pub returns-clause-set : goal.returns-clause-set
returns-clause-set c =
    let w : Held = record { owner = c.in-Some.held.now.owner; len = c.args.len } in
    rw (get-found c.args.owners.now.entries c.args.path.now _ _ c.as_slice.ensures c.in-Some.ensures.value)
    (by_name-written c.args.owners.now.entries _ c.args.path.now _ _ w c.as_slice.ensures c.in-Some.ensures.value (c.get_mut.follows.holds w).0)

pub returns-clause-before : goal.returns-clause-before
returns-clause-before c = rw (get-found c.args.owners.now.entries c.args.path.now _ _ c.as_slice.ensures c.in-Some.ensures.value) refl

pub returns-clause-ordered : goal.returns-clause-ordered
returns-clause-ordered c =
    let w : Held = record { owner = c.in-Some.held.now.owner; len = c.args.len } in
    rw ((c.get_mut.follows.holds w).0, keys-set_value (at_name c.as_slice.result.now) c.args.owners.now.entries w) c.get_mut.ensures.ordered
