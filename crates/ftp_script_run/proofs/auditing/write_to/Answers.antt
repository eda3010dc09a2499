use Rattle.ftp_script_run.specs.Outcome.{bad_line}
use Rattle.ftp_control.proofs.WritingLemmas.{on_err, on_err-then}
use Rattle.ftp_script_run.proofs.AuditLemmas.{part-longer, part-more}
use Rattle.ftp_script_run.proofs.auditing.write_to.Goals as goal

pub returns-in_err-write_report-clause-front : goal.returns-in_err-write_report-clause-front
returns-in_err-write_report-clause-front g c =
    on_err c.from_residual.result
    (λ o log stands.
    part-longer o log (bad_line c.args.number) (g.K.Sink.written c.args.sink.now) (g.K.Sink.written c.write_report.new.sink)
    (c.in_err-write_report.ensures.front o log stands))

pub returns-clause-front : goal.returns-clause-front
returns-clause-front g c =
    on_err-then c.bad_line.result c.bad_line.ensures.front (λ front o log stands.
    part-more o log (bad_line c.args.number) (g.K.Sink.written c.args.sink.now) (g.K.Sink.written c.write_report.new.sink) (g.K.Sink.written c.bad_line.new.sink)
    (c.in_ok-write_report.ensures.wrote o log stands) front)
