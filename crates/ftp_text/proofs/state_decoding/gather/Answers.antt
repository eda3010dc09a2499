use Rattle.std.proofs.Common.{sym, ap, ◌∙◌}
use Rattle.ftp_hub.specs.declared.state.HubState.{HubState}
use Rattle.ftp_text.specs.Grammar.{no_state, with_line}
use Rattle.ftp_text.proofs.GrammarLemmas.{said-more}
use Rattle.ftp_text.proofs.state_decoding.gather.Goals as goal

pub loop-line-preserved : goal.loop-line-preserved
loop-line-preserved c =
    c.in_ok-add.ensures
    ∙ ap (λ (x : HubState). with_line x c.in-Some.line) c.loop-line.invariant
    ∙ sym (said-more no_state c.loop-line.yielded c.in-Some.line)
