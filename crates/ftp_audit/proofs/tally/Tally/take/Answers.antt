use Rattle.std.proofs.Common.{◌≡◌, refl, ◌∙◌, ap, List}
use Rattle.ftp_events.specs.declared.event.HubEvent.{HubEvent}
use Rattle.ftp_events.specs.Right.{next_entry}
use Rattle.ftp_hub.specs.Stands.{options_of}
use Rattle.ftp_audit.specs.declared.tally.Tally.{Tally}
use Rattle.ftp_audit.proofs.TallyLemmas.{counted-more, counted-ready}
use Rattle.ftp_audit.proofs.tally.Tally.take.Goals as goal

pub returns-clause-counted : goal.returns-clause-counted
returns-clause-counted c = λ o log h r a.
    let ready : Tally = record c.args.self.now { hub = c.prepare.new.self } in
    let after : Tally = record c.args.self.now { hub = c.step.new.self; locked = c.more_locked-self.result } in
    counted-more o ready after log c.args.entry.now c.step.result c.step.ensures.options
    (λ l st. c.step.ensures.due l st ∙ ap (λ (event : HubEvent). next_entry (options_of c.prepare.new.self) l event c.args.entry.now.answer) c.in_ok-event.ensures)
    c.step.ensures.stands
    c.step.ensures.counters
    c.more_locked-self.ensures
    (counted-ready o c.args.self.now ready log c.prepare.ensures.same refl h) r a
