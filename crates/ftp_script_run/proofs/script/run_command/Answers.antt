use Rattle.ftp_script_run.specs.Commands.{text_of}
use Rattle.ftp_script_run.proofs.CommandLemmas.{told-so, told-no_usage}
use Rattle.ftp_script_run.proofs.script.run_command.Goals as goal

pub tell-requires : goal.tell-requires
tell-requires g c = rw c.in-Tell.is at c.requires

pub returns-in-Run-clause-outcome : goal.returns-in-Run-clause-outcome
returns-in-Run-clause-outcome g c = rw c.in-Run.is c.run_lines.ensures.outcome

pub returns-in-Resume-clause-outcome : goal.returns-in-Resume-clause-outcome
returns-in-Resume-clause-outcome g c = rw c.in-Resume.is c.resume_lines.ensures.outcome

pub returns-in-Audit-clause-outcome : goal.returns-in-Audit-clause-outcome
returns-in-Audit-clause-outcome g c = rw c.in-Audit.is c.audit_lines.ensures.outcome

pub returns-in-Tell-clause-outcome : goal.returns-in-Tell-clause-outcome
returns-in-Tell-clause-outcome g c =
    rw c.in-Tell.is (told-so (text_of c.in-Tell.told) c.tell.result c.after.result (g.K.Sink.written c.args.sink.now) (g.K.Sink.written c.tell.new.sink) c.after.ensures c.tell.ensures.wrote c.tell.ensures.front)

pub returns-in-Tell-clause-no_usage : goal.returns-in-Tell-clause-no_usage
returns-in-Tell-clause-no_usage g c = told-no_usage c.tell.result c.after.result c.after.ensures
