use Rattle.std.proofs.Common.{arith, ap, refl}
use Rattle.ftp_script_run.proofs.AuditLemmas.{audit-ends}
use Rattle.ftp_script_run.proofs.auditing.hear_all.Goals as goal

pub loop-status-init : goal.loop-status-init
loop-status-init g c = record {
  lawful = c.requires.lawful;
  hearing = c.requires.hearing;
  source_count = omega arith;
  quiet = refl;
}

pub returns-in-Some-clause-outcome : goal.returns-in-Some-clause-outcome
returns-in-Some-clause-outcome g c =
    audit-ends (g.S.Source.left c.args.source.now) (g.S.Source.left c.hear.new.source)
    (g.K.Sink.written c.loop-status.sink) (g.K.Sink.written c.args.sink.now) (g.K.Sink.written c.hear.new.sink)
    (g.S.Source.faults c.args.source.now) (g.S.Source.faults c.loop-status.source) (g.S.Source.faults c.hear.new.source) c.in-Some.status
    c.loop-status.invariant.source_count c.hear.ensures.faults.source_count
    (ap (λ sink. g.K.Sink.written sink) c.loop-status.invariant.quiet)
    (c.in-Some.ensures.ended (g.S.Source.left c.args.source.now) c.loop-status.invariant.hearing)
