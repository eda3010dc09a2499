use Rattle.std.proofs.Common.{rules}
use Rattle.std.proofs.lemmas.Fn.{always_returns_same}
use Rattle.ftp_lockout.specs.Keys.{key_cmp, key_lent}
use Rattle.ftp_lockout.proofs.Records.{searched}
use Rattle.ftp_lockout.proofs.places.place_in_block.Goals as goal

pub returns-clause-found : goal.returns-clause-found
returns-clause-found c =
    let facts = rw c.deref.ensures.value at c.binary_search_by.ensures in
    let by_key = facts.position (λ e. key_cmp e.0 (key_lent c.args.key)) (always_returns_same _ _ _ (λ a r g called. search rules)) in
    (searched c.args.block.now.items (key_lent c.args.key) _ c.requires facts.bound by_key).0

pub returns-clause-absent : goal.returns-clause-absent
returns-clause-absent c =
    let facts = rw c.deref.ensures.value at c.binary_search_by.ensures in
    let by_key = facts.position (λ e. key_cmp e.0 (key_lent c.args.key)) (always_returns_same _ _ _ (λ a r g called. search rules)) in
    (searched c.args.block.now.items (key_lent c.args.key) _ c.requires facts.bound by_key).1
