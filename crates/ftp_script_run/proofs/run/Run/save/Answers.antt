use Rattle.std.proofs.Common.{inr, ◌∙◌}
use Rattle.ftp_hub.specs.Stands.{options_of}
use Rattle.ftp_control.proofs.WritingLemmas.{on_err-then, on_ok-then}
use Rattle.ftp_script_run.proofs.SaveLemmas.{state-text}
use Rattle.ftp_script_run.proofs.run.Run.save.Goals as goal

pub returns-in-Ok-encode_state-clause-wrote : goal.returns-in-Ok-encode_state-clause-wrote
returns-in-Ok-encode_state-clause-wrote g c =
    on_ok-then c.write_all.result c.write_all.ensures.wrote
    (λ w log stands. (
      c.as_slice.result.now,
      state-text (options_of c.args.self.now.hub) log c.in-Ok.state c.as_slice.result.now (c.in-Ok.ensures.state log stands) (c.in-Ok.ensures.form log stands) c.in-Ok.ensures.made c.look_at.ensures (c.as_slice.ensures ∙ c.in-Ok-encode_state.ensures.lists),
      w,
    ))

pub returns-in-Ok-encode_state-clause-front : goal.returns-in-Ok-encode_state-clause-front
returns-in-Ok-encode_state-clause-front g c =
    on_err-then c.write_all.result c.write_all.ensures.front
    (λ w log stands. inr (
      c.as_slice.result.now,
      state-text (options_of c.args.self.now.hub) log c.in-Ok.state c.as_slice.result.now (c.in-Ok.ensures.state log stands) (c.in-Ok.ensures.form log stands) c.in-Ok.ensures.made c.look_at.ensures (c.as_slice.ensures ∙ c.in-Ok-encode_state.ensures.lists),
      w,
    ))
