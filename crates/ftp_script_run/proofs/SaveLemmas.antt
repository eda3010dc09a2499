-- The text of a state behind a log.
use Rattle.std.proofs.Common.{◌≡◌, ℕ, List}
use Rattle.ftp_options.specs.declared.options.Options.{Options}
use Rattle.ftp_events.specs.declared.entry.Entry.{Entry}
use Rattle.ftp_hub.specs.declared.state.HubState.{HubState}
use Rattle.ftp_hub.specs.State.{AreMadeBy, IsForm, IsState}
use Rattle.ftp_text.specs.StateText.{state_text}
use Rattle.ftp_text.specs.Walk.{walk}
use Rattle.ftp_script_run.specs.Outcome.{IsStateText}
use Rattle.ftp_script_run.specs.Fitting.{FitsState}
use Rattle.ftp_script_run.proofs.FittingLemmas.{state-has-lines}

-- what is written of a hub's state is the text of its lines
pub state-text : (o : Options) (log : List Entry) (x : HubState) (text : List ℕ) → IsState o log x → IsForm x → AreMadeBy o.lockout x.records → FitsState x → text ≡ state_text (walk x) → IsStateText o log text
state-text o log x text of_log form made fits is = record {
  state = x;
  of_log = of_log;
  made = made;
  lines = walk x;
  has = state-has-lines o.lockout x form made fits;
  text_is = is;
}
