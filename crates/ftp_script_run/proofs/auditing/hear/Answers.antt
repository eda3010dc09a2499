use Rattle.std.proofs.Common.{◌≡◌, ◌∙◌, Some, None, ap, refl, sym}
use Rattle.std.specs.Prelude.{Ok, Err}
use Rattle.std.proofs.lemmas.Option.{IfSome_then}
use Rattle.ftp_base.specs.Outside.{HasRisen}
use Rattle.ftp_script_run.specs.declared.text_script.ScriptError.TheVariants as error
use Rattle.ftp_script_run.specs.declared.status.Status.TheVariants as status
use Rattle.ftp_script_run.specs.Audited.{WritesReport, WritesReportPart}
use Rattle.ftp_script_run.proofs.Written.{if_none-then}
use Rattle.ftp_script_run.proofs.OutcomeLemmas.{kept-set_up, outcome-of}
use Rattle.ftp_script_run.proofs.AuditLemmas.{hearing-more, heard-memory, heard-end, heard-bad, heard-fault}
use Rattle.ftp_script_run.proofs.auditing.hear.Goals as goal

pub noted-requires : goal.noted-requires
noted-requires g c =
    let found : c.next_item.result ≡ Ok (Some c.in-Ok-Some.item) = c.in-Ok-Some.is ∙ ap Ok c.in-Ok-Some.field-0-is in
    let r = c.requires.hearing.1 in
    let placed = rw found at (c.next_item.ensures.let_in r.items r.known (kept-set_up r.kept c.storage.ensures)) in
    (rw found at c.next_item.ensures.item, (None, r.items, r.log, r.kept, record { stands = placed.0; goes_on = tt }))

pub returns-in-Ok-Some-clause-goes_on : goal.returns-in-Ok-Some-clause-goes_on
returns-in-Ok-Some-clause-goes_on g c =
    let found : c.next_item.result ≡ Ok (Some c.in-Ok-Some.item) = c.in-Ok-Some.is ∙ ap Ok c.in-Ok-Some.field-0-is in
    if_none-then c.noted.result c.noted.ensures.noted (λ noted all r.
    let placed = rw found at (c.next_item.ensures.let_in r.items r.known (kept-set_up r.kept c.storage.ensures)) in
    hearing-more c.in-Ok-Some.item r placed
    (λ bytes h. rw found at (c.next_item.ensures.told r.items bytes h (kept-set_up r.kept c.storage.ensures)))
    (noted r.items r.log r.kept placed.0 r.heard))

pub returns-in-Ok-Some-clause-ended : goal.returns-in-Ok-Some-clause-ended
returns-in-Ok-Some-clause-ended g c =
    let later = g.S.Source.left c.next_item.new.source in
    let risen = HasRisen (g.S.Source.faults c.args.source.now) (g.S.Source.faults c.next_item.new.source) in
    let written = g.K.Sink.written c.args.sink.now in
    IfSome_then c.noted.result c.noted.ensures.only_memory (λ s e all r.
    outcome-of (WritesReport written written) (WritesReportPart risen written written) all later status.OutOfMemory s (sym e)
    (heard-memory risen later written written r (c.next_item.ensures.ahead r.items) refl))

pub returns-in-Ok-None-clause-ended : goal.returns-in-Ok-None-clause-ended
returns-in-Ok-None-clause-ended g c =
    let found : c.next_item.result ≡ Ok None = c.in-Ok-None.is ∙ ap Ok c.in-Ok-None.field-0-is in
    let later = g.S.Source.left c.next_item.new.source in
    let risen = HasRisen (g.S.Source.faults c.args.source.now) (g.S.Source.faults c.next_item.new.source) in
    let old = g.K.Sink.written c.args.sink.now in
    let new = g.K.Sink.written c.write_report.new.sink in
    λ all r.
    heard-end risen later old new c.write_report.result c.after.result r c.after.ensures
    (λ bytes h. rw found at (c.next_item.ensures.told r.items bytes h (kept-set_up r.kept c.storage.ensures)))
    (c.next_item.ensures.ahead r.items)
    c.write_report.ensures.wrote c.write_report.ensures.front

pub returns-in-Err-BadLine-clause-ended : goal.returns-in-Err-BadLine-clause-ended
returns-in-Err-BadLine-clause-ended g c =
    let found : c.next_item.result ≡ Err (error.BadLine c.in-Err-BadLine.k) = c.in-Err-BadLine.is ∙ ap Err c.in-Err-BadLine.field-0-is in
    let later = g.S.Source.left c.next_item.new.source in
    let risen = HasRisen (g.S.Source.faults c.args.source.now) (g.S.Source.faults c.next_item.new.source) in
    let old = g.K.Sink.written c.args.sink.now in
    let new = g.K.Sink.written c.write_to.new.sink in
    λ all r.
    heard-bad risen later old new c.in-Err-BadLine.k c.write_to.result c.after-in-Err-BadLine.result r c.after-in-Err-BadLine.ensures
    (λ bytes h. rw found at (c.next_item.ensures.told r.items bytes h (kept-set_up r.kept c.storage.ensures)))
    (c.next_item.ensures.ahead r.items)
    c.write_to.ensures.wrote c.write_to.ensures.front

pub returns-in-Err-Fault-clause-ended : goal.returns-in-Err-Fault-clause-ended
returns-in-Err-Fault-clause-ended g c =
    let found : c.next_item.result ≡ Err error.Fault = c.in-Err-Fault.is ∙ ap Err c.in-Err-Fault.field-0-is in
    let later = g.S.Source.left c.next_item.new.source in
    let risen = HasRisen (g.S.Source.faults c.args.source.now) (g.S.Source.faults c.next_item.new.source) in
    let old = g.K.Sink.written c.args.sink.now in
    let new = g.K.Sink.written c.write_report-in-Err-Fault.new.sink in
    λ all r.
    heard-fault risen later old new c.write_report-in-Err-Fault.result c.after-in-Err-Fault.result r c.after-in-Err-Fault.ensures
    (c.next_item.ensures.fault_rose found)
    (λ bytes h. rw found at (c.next_item.ensures.told r.items bytes h (kept-set_up r.kept c.storage.ensures)))
    (c.next_item.ensures.ahead r.items)
    c.write_report-in-Err-Fault.ensures.wrote c.write_report-in-Err-Fault.ensures.front

pub returns-in-Err-Memory-clause-ended : goal.returns-in-Err-Memory-clause-ended
returns-in-Err-Memory-clause-ended g c = λ all r.
    heard-memory _ (g.S.Source.left c.next_item.new.source) (g.K.Sink.written c.args.sink.now) (g.K.Sink.written c.args.sink.now) r (c.next_item.ensures.ahead r.items) refl
