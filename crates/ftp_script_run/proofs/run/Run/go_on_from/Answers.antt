use Rattle.std.proofs.Common.{subst, ◌∙◌}
use Rattle.ftp_options.specs.declared.options.Options.{Options}
use Rattle.ftp_hub.specs.declared.state.StateError.{StateError}
use Rattle.ftp_hub.specs.Refused.{HasCause}
use Rattle.ftp_script_run.proofs.run.Run.go_on_from.Goals as goal

pub returns-clause-passed : goal.returns-clause-passed
returns-clause-passed c =
    subst (λ (o : Options). (e : StateError) → HasCause o c.args.state e → ⊥) (c.in_ok-options.ensures ∙ c.options.ensures) c.in_ok-self.ensures.passed
