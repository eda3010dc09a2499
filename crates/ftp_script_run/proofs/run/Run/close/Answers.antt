use Rattle.std.proofs.Common.{List, subst, sym}
use Rattle.std.specs.Prelude.{OnErr}
use Rattle.ftp_events.specs.declared.entry.Entry.{Entry}
use Rattle.ftp_hub.specs.Stands.{Stands, options_of}
use Rattle.ftp_script_run.specs.declared.command.Ending.{Ending}
use Rattle.ftp_script_run.specs.Outcome.{EndsPart}
use Rattle.ftp_script_run.proofs.run.Run.close.Goals as goal

pub returns-in-State-clause-front : goal.returns-in-State-clause-front
returns-in-State-clause-front g c =
    let run = c.args.self.now in
    subst (λ (e : Ending). OnErr c.save.result ((log : List Entry) → Stands run.hub log → EndsPart e (options_of run.hub) log run.links run.storage (g.K.Sink.written c.args.sink.now) (g.K.Sink.written c.save.new.sink)))
    (sym c.in-State.is) c.save.ensures.front
