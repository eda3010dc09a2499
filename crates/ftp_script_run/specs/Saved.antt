-- Where one script leaves off, by the text of its state, another goes on.
use Rattle.std.specs.Prelude.{◌≡◌, ℕ, List, ◌++◌, map as each, reverse, Option, option_to_list}
use Rattle.ftp_base.specs.LinkTable.{Numbered}
use Rattle.ftp_base.specs.Memory.{LinkState}
use Rattle.ftp_options.specs.declared.options.Options.{Options}
use Rattle.ftp_options.specs.Builder.{settings_of}
use Rattle.ftp_events.specs.declared.entry.Entry.{Entry}
use Rattle.ftp_events.specs.Right.{IsActed, IsRight}
use Rattle.ftp_hub.specs.declared.state.HubState.{HubState}
use Rattle.ftp_hub.specs.declared.state.StateError.{StateError}
use Rattle.ftp_hub.specs.Refused.{HasCause}
use Rattle.ftp_text.specs.StateText.{IsSpelledBy, lines_in}
use Rattle.ftp_text.specs.declared.setup.Item.{Item}
use Rattle.ftp_script_run.specs.SetUp.{StorageState}
use Rattle.ftp_script_run.specs.Items.{events_in, options_in}
use Rattle.ftp_script_run.specs.Legal.{IsDue, IsLegal, start_of}
use Rattle.ftp_script_run.specs.Outcome.{IsStateText}
use Rattle.ftp_script_run.specs.Resumed.{HasState, IsDueBehind, Resumes}

-- a text is that of a state which the log has and which no options like the log's refuse, and it is read as no other state
pub record IsReadAgain (o : Options) (log : List Entry) (text : List ℕ) : Type 0 where
  pub state : HubState
  pub has : HasState o log state
  pub read : IsSpelledBy (lines_in text) state
  pub only : (x : HubState) → IsSpelledBy (lines_in text) x → x ≡ state
  pub passes : (e : StateError) → HasCause o state e → ⊥

-- the text that is written of a right and acted log is read again
abbrev pub SavedStatesAreRead : Type 0
SavedStatesAreRead = (o : Options) (log : List Entry) (text : List ℕ) → IsRight o log → IsActed o log → IsStateText o log text → IsReadAgain o log text

-- behind a log whose state is the text, all is due that a script says which goes on from that text by options with the same settings
abbrev pub SavedScriptsGoOn : Type 0
SavedScriptsGoOn =
    (o : Options) (front : List Entry) (text bytes : List ℕ) (bad : Option ℕ) (r : Resumes bytes bad) →
    IsRight o front → IsActed o front → IsStateText o front text →
    r.texts ≡ lines_in text → options_in (option_to_list r.line) ≡ settings_of o →
    IsDueBehind o front r.log (start_of r.items) (record { storage = r.storage; links = r.links })

-- the log of one script and that of another behind it are those of both in a row: of the events of both, all due by the settings of the
-- first, from the storage and the links that the first sets up
pub record IsOneLog (items more : List Item) (log later : List Entry) (links : Numbered LinkState) (storage : StorageState) : Type 0 where
  pub events : each (λ (e : Entry). e.event) (reverse (later ++ log)) ≡ events_in items ++ events_in more
  pub due : IsDue (options_in items) (later ++ log) (start_of items) (record { storage = storage; links = links })

-- so they are where the second goes on from the text of the first's state, by the same settings, and sets up the storage and the links that
-- the first left
abbrev pub SavedScriptsAreOne : Type 0
SavedScriptsAreOne =
    (items : List Item) (log : List Entry) (links : Numbered LinkState) (storage : StorageState) (l : IsLegal items log links storage)
    (text bytes : List ℕ) (bad : Option ℕ) (r : Resumes bytes bad) →
    IsStateText l.due.options log text →
    r.texts ≡ lines_in text → options_in (option_to_list r.line) ≡ options_in items →
    start_of r.items ≡ record { storage = storage; links = links } →
    IsOneLog items r.items log r.log r.links r.storage
