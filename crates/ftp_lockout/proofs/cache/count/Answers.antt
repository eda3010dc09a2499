use Rattle.std.proofs.Common.{◌∙◌, cond, Option, Some, None, sym, ap}
use Rattle.ftp_lockout.specs.declared.cache.Failures.{Failures}
use Rattle.ftp_lockout.specs.Keys.{same_key}
use Rattle.ftp_lockout.specs.Failures.{recorded, one_more}
use Rattle.ftp_lockout.specs.Places.{records_in}
use Rattle.ftp_lockout.proofs.Records.{recorded-gap, of_same}
use Rattle.ftp_lockout.proofs.cache.count.Goals as goal

pub returns-in-Ok-clause-counted : goal.returns-in-Ok-clause-counted
returns-in-Ok-clause-counted c = λ other.
    let old = records_in c.args.blocks.now.items in
    let is_at = rw (c.deref.ensures.value, c.lend.ensures) at c.in-Ok.ensures.found in
    let found = c.failures_at.ensures c.args.key (rw c.deref-in-Ok.ensures.value is_at) in
    c.set_at.ensures.recorded c.args.key other is_at
    ∙ ap (λ (f : Failures). cond (same_key other c.args.key) (Some f) (recorded old other)) c.more-failures.ensures
    ∙ of_same (λ o. Some (one_more c.args.policy c.args.at o)) old c.args.key other _ (Some c.failures_at.result) (rw c.deref-in-Ok.ensures.value at found)

pub returns-in-Ok-clause-count : goal.returns-in-Ok-clause-count
returns-in-Ok-clause-count c =
    let is_at = rw (c.deref.ensures.value, c.lend.ensures) at c.in-Ok.ensures.found in
    let found = c.failures_at.ensures c.args.key (rw c.deref-in-Ok.ensures.value is_at) in
    ap (λ (f : Failures). f.count) c.more-failures.ensures ∙ ap (λ (o : Option Failures). (one_more c.args.policy c.args.at o).count) (sym (rw c.deref-in-Ok.ensures.value at found))

pub returns-in_ok-make_room-in-Err-clause-counted : goal.returns-in_ok-make_room-in-Err-clause-counted
returns-in_ok-make_room-in-Err-clause-counted c = λ other.
    let gap = rw (c.deref.ensures.value, c.lend.ensures) at c.in-Err.ensures.absent in
    let none = recorded-gap (records_in c.args.blocks.now.items) _ c.args.key gap in
    rw c.make_room.ensures.items at (c.put.ensures.recorded other)
    ∙ of_same (λ o. Some (one_more c.args.policy c.args.at o)) (records_in c.args.blocks.now.items) c.args.key other _ None none

pub returns-in_ok-make_room-in-Err-clause-count : goal.returns-in_ok-make_room-in-Err-clause-count
returns-in_ok-make_room-in-Err-clause-count c =
    let gap = rw (c.deref.ensures.value, c.lend.ensures) at c.in-Err.ensures.absent in
    let none = recorded-gap (records_in c.args.blocks.now.items) _ c.args.key gap in
    ap (λ (o : Option Failures). (one_more c.args.policy c.args.at o).count) (sym none)
