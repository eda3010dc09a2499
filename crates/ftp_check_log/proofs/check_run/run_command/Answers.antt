use Rattle.std.proofs.Common.{sym, subst, ◌∙◌}
use Rattle.std.proofs.lemmas.Option.{IfSome_then}
use Rattle.ftp_base.specs.Outside.{HasRisen}
use Rattle.ftp_check_log.proofs.CheckRunLemmas.{IsTold, told-outcome, told-status, of-no_write, after-write_fault, check-told, why-outcome, why-told_status, why-told, both-some, some-all, explained-no_write}
use Rattle.ftp_check_log.proofs.check_run.run_command.Goals as goal

-- ---- a check

pub returns-in-Ok-clause-outcome : goal.returns-in-Ok-clause-outcome
returns-in-Ok-clause-outcome g c =
    rw c.in-Check.is
    (IfSome_then (g.S.Source.left c.args.source.now) c.in-Ok.ensures.tells
    (λ bytes so. told-outcome c.tell.result c.in-Ok.verdict c.after.result c.of.result bytes (g.K.Sink.written c.args.sink.now) (g.K.Sink.written c.tell.new.sink)
    c.of.ensures c.after.ensures c.tell.ensures.wrote c.tell.ensures.front so))

pub returns-in-Ok-clause-complete : goal.returns-in-Ok-clause-complete
returns-in-Ok-clause-complete g c =
    rw c.in-Check.is
    (IfSome_then (g.S.Source.left c.args.source.now) c.in-Ok.ensures.only
    (λ bytes only w so source sink. told-status c.tell.result c.in-Ok.verdict w c.after.result c.of.result (HasRisen (g.K.Sink.faults c.args.sink.now) (g.K.Sink.faults c.tell.new.sink))
    c.of.ensures c.after.ensures c.tell.ensures.fault_rose (only w so) sink))

pub returns-in-Ok-clause-write_fault : goal.returns-in-Ok-clause-write_fault
returns-in-Ok-clause-write_fault g c =
    after-write_fault c.tell.result c.after.result c.of.result (HasRisen (g.K.Sink.faults c.args.sink.now) (g.K.Sink.faults c.tell.new.sink))
    (λ e. of-no_write c.in-Ok.verdict (sym c.of.ensures ∙ e)) c.after.ensures c.tell.ensures.fault_rose

pub returns-in-Ok-clause-no_usage : goal.returns-in-Ok-clause-no_usage
returns-in-Ok-clause-no_usage g c = λ is. subst (IsTold ⊥) is (check-told c.tell.result c.in-Ok.verdict c.after.result c.of.result c.of.ensures c.after.ensures)

pub returns-in-Ok-clause-no_entry : goal.returns-in-Ok-clause-no_entry
returns-in-Ok-clause-no_entry g c = λ is. absurd (subst (IsTold ⊥) is (check-told c.tell.result c.in-Ok.verdict c.after.result c.of.result c.of.ensures c.after.ensures))

pub returns-in-Ok-clause-read_fault : goal.returns-in-Ok-clause-read_fault
returns-in-Ok-clause-read_fault g c = λ is. absurd (subst (IsTold ⊥) is (check-told c.tell.result c.in-Ok.verdict c.after.result c.of.result c.of.ensures c.after.ensures))

pub returns-in-Ok-clause-read_idle : goal.returns-in-Ok-clause-read_idle
returns-in-Ok-clause-read_idle g c = λ is. absurd (subst (IsTold ⊥) is (check-told c.tell.result c.in-Ok.verdict c.after.result c.of.result c.of.ensures c.after.ensures))

-- ---- an explanation

pub returns-in-Ok-explain-clause-outcome : goal.returns-in-Ok-explain-clause-outcome
returns-in-Ok-explain-clause-outcome g c =
    rw c.in-Why.is
    (IfSome_then (g.S.Source.left c.args.source.now) c.in-Ok-explain.ensures.tells
    (λ bytes so. why-outcome c.tell_explanation.result c.in-Why.k c.in-Ok-explain.found c.after-in-Ok-explain.result c.of_explanation.result bytes (g.K.Sink.written c.args.sink.now) (g.K.Sink.written c.tell_explanation.new.sink)
    c.of_explanation.ensures c.after-in-Ok-explain.ensures c.tell_explanation.ensures.wrote c.tell_explanation.ensures.front so))

pub returns-in-Ok-explain-clause-complete : goal.returns-in-Ok-explain-clause-complete
returns-in-Ok-explain-clause-complete g c =
    rw c.in-Why.is
    (IfSome_then (g.S.Source.left c.args.source.now) (both-some _ _ (g.S.Source.left c.args.source.now) c.in-Ok-explain.ensures.tells c.in-Ok-explain.ensures.verdict)
    (λ bytes both v so source sink.
    why-told_status c.tell_explanation.result c.in-Why.k c.in-Ok-explain.found v c.after-in-Ok-explain.result c.of_explanation.result
    (HasRisen (g.K.Sink.faults c.args.sink.now) (g.K.Sink.faults c.tell_explanation.new.sink)) c.of_explanation.ensures c.after-in-Ok-explain.ensures c.tell_explanation.ensures.fault_rose bytes both.0
    (both.1 v so) sink))

pub returns-in-Ok-explain-clause-write_fault : goal.returns-in-Ok-explain-clause-write_fault
returns-in-Ok-explain-clause-write_fault g c =
    after-write_fault c.tell_explanation.result c.after-in-Ok-explain.result c.of_explanation.result (HasRisen (g.K.Sink.faults c.args.sink.now) (g.K.Sink.faults c.tell_explanation.new.sink))
    (λ e. explained-no_write c.in-Ok-explain.found (sym c.of_explanation.ensures ∙ e)) c.after-in-Ok-explain.ensures c.tell_explanation.ensures.fault_rose

pub returns-in-Ok-explain-clause-no_usage : goal.returns-in-Ok-explain-clause-no_usage
returns-in-Ok-explain-clause-no_usage g c = λ is. subst (IsTold (Unit {0})) is (why-told c.tell_explanation.result c.in-Ok-explain.found c.after-in-Ok-explain.result c.of_explanation.result c.of_explanation.ensures c.after-in-Ok-explain.ensures)

pub returns-in-Ok-explain-clause-read_fault : goal.returns-in-Ok-explain-clause-read_fault
returns-in-Ok-explain-clause-read_fault g c = λ is. absurd (subst (IsTold (Unit {0})) is (why-told c.tell_explanation.result c.in-Ok-explain.found c.after-in-Ok-explain.result c.of_explanation.result c.of_explanation.ensures c.after-in-Ok-explain.ensures))

pub returns-in-Ok-explain-clause-read_idle : goal.returns-in-Ok-explain-clause-read_idle
returns-in-Ok-explain-clause-read_idle g c = λ is. absurd (subst (IsTold (Unit {0})) is (why-told c.tell_explanation.result c.in-Ok-explain.found c.after-in-Ok-explain.result c.of_explanation.result c.of_explanation.ensures c.after-in-Ok-explain.ensures))

-- ---- a text

pub returns-in-Help-clause-complete : goal.returns-in-Help-clause-complete
returns-in-Help-clause-complete g c = some-all _ (g.S.Source.left c.args.source.now) (λ bytes v so source sink. rw c.in-Help.is tt)

pub returns-in-Version-clause-complete : goal.returns-in-Version-clause-complete
returns-in-Version-clause-complete g c = some-all _ (g.S.Source.left c.args.source.now) (λ bytes v so source sink. rw c.in-Version.is tt)
