use Rattle.std.proofs.Common.{◌≡◌, ◌∙◌, Some, None, ap, sym}
use Rattle.std.specs.Prelude.{Ok, Err}
use Rattle.ftp_script_run.specs.declared.text_script.ScriptError.TheVariants as error
use Rattle.ftp_script_run.proofs.Written.{if_none-then, if_some-both}
use Rattle.ftp_script_run.proofs.OutcomeLemmas.{kept-set_up, running-more, out-cut, out-end, out-bad, out-fault, out-memory}
use Rattle.ftp_script_run.proofs.script.advance.Goals as goal

pub taken-requires : goal.taken-requires
taken-requires g c =
    let found : c.next_item.result ≡ Ok (Some c.in-Ok-Some.item) = c.in-Ok-Some.is ∙ ap Ok c.in-Ok-Some.field-0-is in
    let r = c.requires.running.2 in
    let placed = rw found at (c.next_item.ensures.let_in r.items r.known (kept-set_up r.kept c.storage.ensures)) in
    (rw found at c.next_item.ensures.item, (None, r.items, r.log, r.kept, record { stands = placed.0; goes_on = tt }))

pub returns-in-Ok-Some-clause-goes_on : goal.returns-in-Ok-Some-clause-goes_on
returns-in-Ok-Some-clause-goes_on g c =
    let found : c.next_item.result ≡ Ok (Some c.in-Ok-Some.item) = c.in-Ok-Some.is ∙ ap Ok c.in-Ok-Some.field-0-is in
    if_none-then c.taken.result c.taken.ensures.took (λ took all before r.
    let placed = rw found at (c.next_item.ensures.let_in r.items r.known (kept-set_up r.kept c.storage.ensures)) in
    running-more c.in-Ok-Some.item r placed
    (λ bytes h. rw found at (c.next_item.ensures.told r.items bytes h (kept-set_up r.kept c.storage.ensures)))
    (took None r.items r.log r.kept (record { stands = placed.0; goes_on = tt })))

pub returns-in-Ok-Some-clause-ended : goal.returns-in-Ok-Some-clause-ended
returns-in-Ok-Some-clause-ended g c =
    let found : c.next_item.result ≡ Ok (Some c.in-Ok-Some.item) = c.in-Ok-Some.is ∙ ap Ok c.in-Ok-Some.field-0-is in
    let later = g.S.Source.left c.next_item.new.source in
    let new = g.K.Sink.written c.taken.new.sink in
    if_some-both c.taken.result c.taken.ensures.front c.taken.ensures.cut_short (λ s front short all before r.
    let placed = rw found at (c.next_item.ensures.let_in r.items r.known (kept-set_up r.kept c.storage.ensures)) in
    out-cut c.args.ending later new c.in-Ok-Some.item s r
    (rw found at c.next_item.ensures.lawful)
    (c.next_item.ensures.ahead r.items)
    (λ bytes h. rw found at (c.next_item.ensures.told r.items bytes h (kept-set_up r.kept c.storage.ensures)))
    (front None r.items r.log r.kept (record { stands = placed.0; goes_on = tt }))
    short)

pub returns-in-Ok-None-clause-ended : goal.returns-in-Ok-None-clause-ended
returns-in-Ok-None-clause-ended g c =
    let found : c.next_item.result ≡ Ok None = c.in-Ok-None.is ∙ ap Ok c.in-Ok-None.field-0-is in
    let later = g.S.Source.left c.next_item.new.source in
    let new = g.K.Sink.written c.close.new.sink in
    λ all before r.
    out-end c.args.ending later new c.close.result c.after.result r c.after.ensures
    (λ bytes h. rw found at (c.next_item.ensures.told r.items bytes h (kept-set_up r.kept c.storage.ensures)))
    (c.next_item.ensures.ahead r.items)
    c.close.ensures.wrote c.close.ensures.front

pub returns-in-Err-BadLine-clause-ended : goal.returns-in-Err-BadLine-clause-ended
returns-in-Err-BadLine-clause-ended g c =
    let found : c.next_item.result ≡ Err (error.BadLine c.in-Err-BadLine.k) = c.in-Err-BadLine.is ∙ ap Err c.in-Err-BadLine.field-0-is in
    let later = g.S.Source.left c.next_item.new.source in
    let new = g.K.Sink.written c.bad_line.new.sink in
    λ all before r.
    out-bad c.args.ending later new c.in-Err-BadLine.k c.bad_line.result c.after-in-Err-BadLine.result r (rw c.in-Err-BadLine.field-0-is at c.after-in-Err-BadLine.ensures)
    (λ bytes h. rw found at (c.next_item.ensures.told r.items bytes h (kept-set_up r.kept c.storage.ensures)))
    (c.next_item.ensures.ahead r.items)
    (rw c.in-Err-BadLine.field-0-is at c.bad_line.ensures.wrote) (rw c.in-Err-BadLine.field-0-is at c.bad_line.ensures.front)

pub returns-in-Err-Fault-clause-ended : goal.returns-in-Err-Fault-clause-ended
returns-in-Err-Fault-clause-ended g c =
    let found : c.next_item.result ≡ Err error.Fault = c.in-Err-Fault.is ∙ ap Err c.in-Err-Fault.field-0-is in
    let later = g.S.Source.left c.next_item.new.source in
    λ all before r.
    out-fault later r (λ bytes h. rw found at (c.next_item.ensures.told r.items bytes h (kept-set_up r.kept c.storage.ensures)))

pub returns-in-Err-Memory-clause-ended : goal.returns-in-Err-Memory-clause-ended
returns-in-Err-Memory-clause-ended g c = λ all before r. out-memory c.args.ending (g.S.Source.left c.next_item.new.source) r (c.next_item.ensures.ahead r.items)
