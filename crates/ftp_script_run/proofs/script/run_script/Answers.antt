use Rattle.std.proofs.Common.{◌≡◌, ℕ, List, Some, refl, subst}
use Rattle.std.specs.Prelude.{IfSome}
use Rattle.std.proofs.lemmas.Option.{IfSome_then}
use Rattle.ftp_base.specs.Outside.{HasRisen}
use Rattle.ftp_script_run.specs.declared.command.Command.{Command}
use Rattle.ftp_script_run.specs.declared.command.Command.TheVariants.{Run, Audit, Resume, Tell}
use Rattle.ftp_script_run.specs.declared.command.Told.TheVariants.{Stress}
use Rattle.ftp_script_run.specs.declared.status.Status.{Status}
use Rattle.ftp_script_run.specs.declared.status.Status.TheVariants as status
use Rattle.ftp_script_run.specs.Audited.{WritesReport, WritesReportPart}
use Rattle.ftp_script_run.specs.CommandOutcome.{CommandOutcome}
use Rattle.ftp_script_run.specs.Outcome.{WritesLog, WritesLogPart}
use Rattle.ftp_script_run.specs.Commands.{Asks, text_of}
use Rattle.ftp_script_run.proofs.OutcomeLemmas.{cut-part, resume-cut, runs_whole, names_bad}
use Rattle.ftp_script_run.proofs.CommandLemmas.{IsCommandOf, no_command, asked, usage-asked, told-done, told-cut, told-ends, told-whole}
use Rattle.ftp_script_run.proofs.script.run_script.Given.{Over}
use Rattle.ftp_script_run.proofs.script.run_script.Goals.{After-run_command}
use Rattle.ftp_script_run.proofs.script.run_script.Goals as goal

pub run_command-requires : goal.run_command-requires
run_command-requires g c = ((c.command_of.ensures c.in-Some.command).0 c.in-Some.is).1

module _ (g : Over) (c : After-run_command g) (words : List (List ℕ)) (same : IsCommandOf words c.command_of.result) where
  -- what was read and written is what the command that the words ask for reads and writes
  ran : (d : Command) (s : Status) → Asks words d → c.run_command.result ≡ s →
      CommandOutcome d s (HasRisen (g.S.Source.faults c.args.source.now) (g.S.Source.faults c.run_command.new.source)) (g.S.Source.left c.args.source.now) (g.S.Source.left c.run_command.new.source) (g.K.Sink.written c.args.sink.now) (g.K.Sink.written c.run_command.new.sink)
  ran d s asks is =
      asked (λ (e : Command). CommandOutcome e s (HasRisen (g.S.Source.faults c.args.source.now) (g.S.Source.faults c.run_command.new.source)) (g.S.Source.left c.args.source.now) (g.S.Source.left c.run_command.new.source) (g.K.Sink.written c.args.sink.now) (g.K.Sink.written c.run_command.new.sink)) words c.command_of.result c.in-Some.command d same c.in-Some.is
      (subst (λ (t : Status). CommandOutcome c.in-Some.command t (HasRisen (g.S.Source.faults c.args.source.now) (g.S.Source.faults c.run_command.new.source)) (g.S.Source.left c.args.source.now) (g.S.Source.left c.run_command.new.source) (g.K.Sink.written c.args.sink.now) (g.K.Sink.written c.run_command.new.sink)) is c.run_command.ensures.outcome) asks

pub returns-in-Some-clause-usage : goal.returns-in-Some-clause-usage
returns-in-Some-clause-usage g c = usage-asked _ c.command_of.result c.in-Some.command c.run_command.result c.command_of.ensures c.in-Some.is c.run_command.ensures.no_usage

-- ---- the script

pub returns-in-Some-clause-done : goal.returns-in-Some-clause-done
returns-in-Some-clause-done g c = λ e asks done. ran g c _ c.command_of.ensures (Run e) status.Done asks done

pub returns-in-Some-clause-bad_line : goal.returns-in-Some-clause-bad_line
returns-in-Some-clause-bad_line g c = λ e asks k bad. ran g c _ c.command_of.ensures (Run e) (status.BadLine k) asks bad

pub returns-in-Some-clause-read_whole : goal.returns-in-Some-clause-read_whole
returns-in-Some-clause-read_whole g c = λ e asks fault. ran g c _ c.command_of.ensures (Run e) status.ReadFault asks fault

pub returns-in-Some-clause-front : goal.returns-in-Some-clause-front
returns-in-Some-clause-front g c = λ e asks short.
    IfSome_then (g.S.Source.left c.args.source.now) (ran g c _ c.command_of.ensures (Run e) c.run_command.result asks refl) (λ bytes out. cut-part (WritesLog e (g.K.Sink.written c.args.sink.now) (g.K.Sink.written c.run_command.new.sink)) (WritesLogPart e (g.K.Sink.written c.args.sink.now) (g.K.Sink.written c.run_command.new.sink)) c.run_command.result bytes (g.S.Source.left c.run_command.new.source) short out)

pub returns-in-Some-clause-complete : goal.returns-in-Some-clause-complete
returns-in-Some-clause-complete g c = λ e asks.
    IfSome_then (g.S.Source.left c.args.source.now) (ran g c _ c.command_of.ensures (Run e) c.run_command.result asks refl) (λ bytes out items is source sink. runs_whole (WritesLog e (g.K.Sink.written c.args.sink.now) (g.K.Sink.written c.run_command.new.sink)) (WritesLogPart e (g.K.Sink.written c.args.sink.now) (g.K.Sink.written c.run_command.new.sink)) c.run_command.result bytes (g.S.Source.left c.run_command.new.source) items out is (λ f. source (c.run_command.ensures.read_fault f)) (λ f. sink (c.run_command.ensures.write_fault f)))

pub returns-in-Some-clause-first_bad : goal.returns-in-Some-clause-first_bad
returns-in-Some-clause-first_bad g c = λ e asks k.
    IfSome_then (g.S.Source.left c.args.source.now) (ran g c _ c.command_of.ensures (Run e) c.run_command.result asks refl) (λ bytes out items is source sink. names_bad (WritesLog e (g.K.Sink.written c.args.sink.now) (g.K.Sink.written c.run_command.new.sink)) (WritesLogPart e (g.K.Sink.written c.args.sink.now) (g.K.Sink.written c.run_command.new.sink)) c.run_command.result k bytes (g.S.Source.left c.run_command.new.source) items out is (λ f. source (c.run_command.ensures.read_fault f)) (λ f. sink (c.run_command.ensures.write_fault f)))

-- ---- the audit

pub returns-in-Some-clause-audit_done : goal.returns-in-Some-clause-audit_done
returns-in-Some-clause-audit_done g c = λ asks done. ran g c _ c.command_of.ensures Audit status.Done asks done

pub returns-in-Some-clause-audit_bad_line : goal.returns-in-Some-clause-audit_bad_line
returns-in-Some-clause-audit_bad_line g c = λ asks k bad. ran g c _ c.command_of.ensures Audit (status.BadLine k) asks bad

pub returns-in-Some-clause-audit_whole : goal.returns-in-Some-clause-audit_whole
returns-in-Some-clause-audit_whole g c = λ asks fault. ran g c _ c.command_of.ensures Audit status.ReadFault asks fault

pub returns-in-Some-clause-audit_front : goal.returns-in-Some-clause-audit_front
returns-in-Some-clause-audit_front g c = λ asks short.
    IfSome_then (g.S.Source.left c.args.source.now) (ran g c _ c.command_of.ensures Audit c.run_command.result asks refl) (λ bytes out. cut-part (WritesReport (g.K.Sink.written c.args.sink.now) (g.K.Sink.written c.run_command.new.sink)) (WritesReportPart (HasRisen (g.S.Source.faults c.args.source.now) (g.S.Source.faults c.run_command.new.source)) (g.K.Sink.written c.args.sink.now) (g.K.Sink.written c.run_command.new.sink)) c.run_command.result bytes (g.S.Source.left c.run_command.new.source) short out)

pub returns-in-Some-clause-audit_complete : goal.returns-in-Some-clause-audit_complete
returns-in-Some-clause-audit_complete g c = λ asks.
    IfSome_then (g.S.Source.left c.args.source.now) (ran g c _ c.command_of.ensures Audit c.run_command.result asks refl) (λ bytes out items is source sink. runs_whole (WritesReport (g.K.Sink.written c.args.sink.now) (g.K.Sink.written c.run_command.new.sink)) (WritesReportPart (HasRisen (g.S.Source.faults c.args.source.now) (g.S.Source.faults c.run_command.new.source)) (g.K.Sink.written c.args.sink.now) (g.K.Sink.written c.run_command.new.sink)) c.run_command.result bytes (g.S.Source.left c.run_command.new.source) items out is (λ f. source (c.run_command.ensures.read_fault f)) (λ f. sink (c.run_command.ensures.write_fault f)))

pub returns-in-Some-clause-audit_first_bad : goal.returns-in-Some-clause-audit_first_bad
returns-in-Some-clause-audit_first_bad g c = λ asks k.
    IfSome_then (g.S.Source.left c.args.source.now) (ran g c _ c.command_of.ensures Audit c.run_command.result asks refl) (λ bytes out items is source sink. names_bad (WritesReport (g.K.Sink.written c.args.sink.now) (g.K.Sink.written c.run_command.new.sink)) (WritesReportPart (HasRisen (g.S.Source.faults c.args.source.now) (g.S.Source.faults c.run_command.new.source)) (g.K.Sink.written c.args.sink.now) (g.K.Sink.written c.run_command.new.sink)) c.run_command.result k bytes (g.S.Source.left c.run_command.new.source) items out is (λ f. source (c.run_command.ensures.read_fault f)) (λ f. sink (c.run_command.ensures.write_fault f)))

-- ---- a script that goes on

pub returns-in-Some-clause-resume_done : goal.returns-in-Some-clause-resume_done
returns-in-Some-clause-resume_done g c = λ asks done. ran g c _ c.command_of.ensures Resume status.Done asks done

pub returns-in-Some-clause-resume_bad_line : goal.returns-in-Some-clause-resume_bad_line
returns-in-Some-clause-resume_bad_line g c = λ asks k bad. ran g c _ c.command_of.ensures Resume (status.BadLine k) asks bad

pub returns-in-Some-clause-resume_cut : goal.returns-in-Some-clause-resume_cut
returns-in-Some-clause-resume_cut g c = λ asks cut. resume-cut c.run_command.result (g.S.Source.left c.args.source.now) (g.S.Source.left c.run_command.new.source) (g.K.Sink.written c.args.sink.now) (g.K.Sink.written c.run_command.new.sink) cut (ran g c _ c.command_of.ensures Resume c.run_command.result asks refl)

-- ---- what is told

pub returns-in-Some-clause-stress : goal.returns-in-Some-clause-stress
returns-in-Some-clause-stress g c = λ seed sessions asks. told-done (text_of (Stress seed sessions)) c.run_command.result (g.K.Sink.written c.args.sink.now) (g.K.Sink.written c.run_command.new.sink) (ran g c _ c.command_of.ensures (Tell (Stress seed sessions)) c.run_command.result asks refl)

pub returns-in-Some-clause-stress_front : goal.returns-in-Some-clause-stress_front
returns-in-Some-clause-stress_front g c = λ seed sessions asks. told-cut (text_of (Stress seed sessions)) c.run_command.result (g.K.Sink.written c.args.sink.now) (g.K.Sink.written c.run_command.new.sink) (ran g c _ c.command_of.ensures (Tell (Stress seed sessions)) c.run_command.result asks refl)

pub returns-in-Some-clause-told : goal.returns-in-Some-clause-told
returns-in-Some-clause-told g c = λ t asks. told-done (text_of t) c.run_command.result (g.K.Sink.written c.args.sink.now) (g.K.Sink.written c.run_command.new.sink) (ran g c _ c.command_of.ensures (Tell t) c.run_command.result asks refl)

pub returns-in-Some-clause-told_front : goal.returns-in-Some-clause-told_front
returns-in-Some-clause-told_front g c = λ t asks. told-cut (text_of t) c.run_command.result (g.K.Sink.written c.args.sink.now) (g.K.Sink.written c.run_command.new.sink) (ran g c _ c.command_of.ensures (Tell t) c.run_command.result asks refl)

pub returns-in-Some-clause-told_idle : goal.returns-in-Some-clause-told_idle
returns-in-Some-clause-told_idle g c = λ t asks.
    c.run_command.ensures.idle t (asked (λ (d : Command). c.in-Some.command ≡ d) _ c.command_of.result c.in-Some.command (Tell t) c.command_of.ensures c.in-Some.is refl asks)

pub returns-in-Some-clause-told_ends : goal.returns-in-Some-clause-told_ends
returns-in-Some-clause-told_ends g c = λ t asks. told-ends (text_of t) c.run_command.result (g.K.Sink.written c.args.sink.now) (g.K.Sink.written c.run_command.new.sink) (ran g c _ c.command_of.ensures (Tell t) c.run_command.result asks refl)

pub returns-in-Some-clause-told_complete : goal.returns-in-Some-clause-told_complete
returns-in-Some-clause-told_complete g c = λ t asks no_fault.
    told-whole c.run_command.result (told-ends (text_of t) c.run_command.result (g.K.Sink.written c.args.sink.now) (g.K.Sink.written c.run_command.new.sink) (ran g c _ c.command_of.ensures (Tell t) c.run_command.result asks refl)) (λ f. no_fault (c.run_command.ensures.write_fault f))

-- ---- no command

pub returns-in-None-clause-complete : goal.returns-in-None-clause-complete
returns-in-None-clause-complete g c = λ e asks. no_command _ c.command_of.result (Run e) c.command_of.ensures c.in-None.is asks

pub returns-in-None-clause-first_bad : goal.returns-in-None-clause-first_bad
returns-in-None-clause-first_bad g c = λ e asks k. no_command _ c.command_of.result (Run e) c.command_of.ensures c.in-None.is asks

pub returns-in-None-clause-told_ends : goal.returns-in-None-clause-told_ends
returns-in-None-clause-told_ends g c = λ t asks. no_command _ c.command_of.result (Tell t) c.command_of.ensures c.in-None.is asks

pub returns-in-None-clause-told_complete : goal.returns-in-None-clause-told_complete
returns-in-None-clause-told_complete g c = λ t asks no_fault. no_command _ c.command_of.result (Tell t) c.command_of.ensures c.in-None.is asks

pub returns-in-None-clause-audit_complete : goal.returns-in-None-clause-audit_complete
returns-in-None-clause-audit_complete g c = λ asks. no_command _ c.command_of.result Audit c.command_of.ensures c.in-None.is asks

pub returns-in-None-clause-audit_first_bad : goal.returns-in-None-clause-audit_first_bad
returns-in-None-clause-audit_first_bad g c = λ asks k. no_command _ c.command_of.result Audit c.command_of.ensures c.in-None.is asks
