use Rattle.std.proofs.Common.{◌≡◌, ◌⊎◌, inl, inr, Some, refl, ap, ◌∙◌}
use Rattle.std.specs.Prelude.{IfSome}
use Rattle.ftp_base.specs.Outside.{HasRisen}
use Rattle.ftp_check_log.specs.declared.verdict.Verdict.{Verdict}
use Rattle.ftp_check_log.specs.Verdicts.{TellsOfText}
use Rattle.ftp_check_log.specs.declared.command.CheckCommand.{CheckCommand}
use Rattle.ftp_check_log.specs.declared.command.CheckCommand.TheVariants.{Check, Why}
use Rattle.ftp_check_log.specs.declared.status.CheckStatus.TheVariants as status
use Rattle.ftp_check_log.specs.CheckCommands.{text_told}
use Rattle.ftp_check_log.specs.CheckStatuses.{status_due}
use Rattle.ftp_check_log.proofs.CheckRunLemmas.{of-command, outcome-of, faulty-log, text-of, no-command, usage-of}
use Rattle.ftp_check_log.proofs.check_run.run_check.Goals as goal

pub returns-in-Some-clause-usage : goal.returns-in-Some-clause-usage
returns-in-Some-clause-usage g c = usage-of _ c.check_command.result c.in-Some.command c.run_command.result c.check_command.ensures c.in-Some.is c.run_command.ensures.no_usage

pub returns-in-Some-clause-done : goal.returns-in-Some-clause-done
returns-in-Some-clause-done g c = λ asks is.
    outcome-of _ c.check_command.result c.in-Some.command Check _ _ (g.S.Source.left c.args.source.now) (g.K.Sink.written c.args.sink.now) (g.K.Sink.written c.run_command.new.sink) c.check_command.ensures c.in-Some.is c.run_command.ensures.outcome asks is

pub returns-in-Some-clause-explained : goal.returns-in-Some-clause-explained
returns-in-Some-clause-explained g c = λ k asks is.
    outcome-of _ c.check_command.result c.in-Some.command (Why k) _ _ (g.S.Source.left c.args.source.now) (g.K.Sink.written c.args.sink.now) (g.K.Sink.written c.run_command.new.sink) c.check_command.ensures c.in-Some.is c.run_command.ensures.outcome asks is

pub returns-in-Some-clause-no_entry : goal.returns-in-Some-clause-no_entry
returns-in-Some-clause-no_entry g c = λ is.
    let why = c.run_command.ensures.no_entry is in
    let asks = (c.check_command.ensures (Why why.0)).0 (c.in-Some.is ∙ ap Some why.1) in
    (why.0, asks, outcome-of _ c.check_command.result c.in-Some.command (Why why.0) _ _ (g.S.Source.left c.args.source.now) (g.K.Sink.written c.args.sink.now) (g.K.Sink.written c.run_command.new.sink) c.check_command.ensures c.in-Some.is c.run_command.ensures.outcome asks is)

pub returns-in-Some-clause-wrong : goal.returns-in-Some-clause-wrong
returns-in-Some-clause-wrong g c =
    faulty-log c.in-Some.command c.run_command.result status.Wrong (g.S.Source.left c.args.source.now) (g.K.Sink.written c.args.sink.now) (g.K.Sink.written c.run_command.new.sink)
    (λ k bytes so. so) (λ text so. so) c.run_command.ensures.outcome

pub returns-in-Some-clause-bad_text : goal.returns-in-Some-clause-bad_text
returns-in-Some-clause-bad_text g c = λ l.
    faulty-log c.in-Some.command c.run_command.result (status.BadText l) (g.S.Source.left c.args.source.now) (g.K.Sink.written c.args.sink.now) (g.K.Sink.written c.run_command.new.sink)
    (λ k bytes so. so) (λ text so. so) c.run_command.ensures.outcome

pub returns-in-Some-clause-complete : goal.returns-in-Some-clause-complete
returns-in-Some-clause-complete g c = λ d asks.
    of-command
    (λ (e : CheckCommand). IfSome (g.S.Source.left c.args.source.now) (λ bytes. (v : Verdict) → TellsOfText v bytes → (HasRisen (g.S.Source.faults c.args.source.now) (g.S.Source.faults c.run_command.new.source) → ⊥) → (HasRisen (g.K.Sink.faults c.args.sink.now) (g.K.Sink.faults c.run_command.new.sink) → ⊥) → IfSome (status_due e v) (λ due. (c.run_command.result ≡ due) ⊎ (c.run_command.result ≡ status.OutOfMemory))))
    _ c.check_command.result c.in-Some.command d c.check_command.ensures c.in-Some.is asks c.run_command.ensures.complete

pub returns-in-Some-clause-front : goal.returns-in-Some-clause-front
returns-in-Some-clause-front g c = λ asks ends. elim ends [
  | inl is ↦ outcome-of _ c.check_command.result c.in-Some.command Check _ _ (g.S.Source.left c.args.source.now) (g.K.Sink.written c.args.sink.now) (g.K.Sink.written c.run_command.new.sink) c.check_command.ensures c.in-Some.is c.run_command.ensures.outcome asks is
  | inr is ↦ outcome-of _ c.check_command.result c.in-Some.command Check _ _ (g.S.Source.left c.args.source.now) (g.K.Sink.written c.args.sink.now) (g.K.Sink.written c.run_command.new.sink) c.check_command.ensures c.in-Some.is c.run_command.ensures.outcome asks is
]

pub returns-in-Some-clause-why_front : goal.returns-in-Some-clause-why_front
returns-in-Some-clause-why_front g c = λ k asks ends. elim ends [
  | inl is ↦ outcome-of _ c.check_command.result c.in-Some.command (Why k) _ _ (g.S.Source.left c.args.source.now) (g.K.Sink.written c.args.sink.now) (g.K.Sink.written c.run_command.new.sink) c.check_command.ensures c.in-Some.is c.run_command.ensures.outcome asks is
  | inr is ↦ outcome-of _ c.check_command.result c.in-Some.command (Why k) _ _ (g.S.Source.left c.args.source.now) (g.K.Sink.written c.args.sink.now) (g.K.Sink.written c.run_command.new.sink) c.check_command.ensures c.in-Some.is c.run_command.ensures.outcome asks is
]

pub returns-in-Some-clause-told : goal.returns-in-Some-clause-told
returns-in-Some-clause-told g c = λ d asks.
    text-of d c.run_command.result (g.S.Source.left c.args.source.now) (g.K.Sink.written c.args.sink.now) (g.K.Sink.written c.run_command.new.sink)
    (outcome-of _ c.check_command.result c.in-Some.command d c.run_command.result c.run_command.result (g.S.Source.left c.args.source.now) (g.K.Sink.written c.args.sink.now) (g.K.Sink.written c.run_command.new.sink) c.check_command.ensures c.in-Some.is c.run_command.ensures.outcome asks refl)

pub returns-in-Some-clause-told_idle : goal.returns-in-Some-clause-told_idle
returns-in-Some-clause-told_idle g c = λ d asks.
    of-command (λ (e : CheckCommand). IfSome (text_told e) (λ _. c.run_command.new.source ≡ c.args.source.now)) _ c.check_command.result c.in-Some.command d c.check_command.ensures c.in-Some.is asks c.run_command.ensures.idle

pub returns-in-None-clause-explained : goal.returns-in-None-clause-explained
returns-in-None-clause-explained g c =
    λ k asks is. no-command _ c.check_command.result (Why k) c.check_command.ensures c.in-None.is asks

pub returns-in-None-clause-complete : goal.returns-in-None-clause-complete
returns-in-None-clause-complete g c =
    λ d asks. no-command _ c.check_command.result d c.check_command.ensures c.in-None.is asks

pub returns-in-None-clause-why_front : goal.returns-in-None-clause-why_front
returns-in-None-clause-why_front g c =
    λ k asks is. no-command _ c.check_command.result (Why k) c.check_command.ensures c.in-None.is asks
