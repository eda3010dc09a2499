use Rattle.ftp_script_run.proofs.EventLemmas.{covered, keeps-event}
use Rattle.ftp_script_run.proofs.run.Run.step.Goals as goal

pub run_event-requires : goal.run_event-requires
run_event-requires c = record { covered = covered c.args.self.now c.args.event c.requires }

pub returns-in-Ok-clause-due : goal.returns-in-Ok-clause-due
returns-in-Ok-clause-due c = λ before items log kept may.
    keeps-event before c.args.self.now
    (record { alloc = c.args.self.now.alloc; hub = c.run_event.new.hub; storage = c.run_event.new.storage; links = c.run_event.new.links; text = c.args.self.now.text })
    items log c.args.event c.in-Ok.entry c.run_event.ensures.options c.in-Ok.ensures.event c.in-Ok.ensures.stands c.in-Ok.ensures.leads c.run_event.ensures.linked c.in-Ok.ensures.count may kept
