-- The entries that concern a session.
use Rattle.std.specs.Prelude.{ℕ, Bool, ◌||◌, List, [], ◌∷◌, Option, Some, None}
use Rattle.std.specs.Option.{option_or}
use Rattle.ftp_options.specs.declared.options.Options.{Options}
use Rattle.ftp_events.specs.declared.entry.Entry.{Entry}
use Rattle.ftp_events.specs.Words.{◌⇒◌∣◌, is_number}
use Rattle.ftp_events.specs.Classes.{is_stop}
use Rattle.ftp_events.specs.Log.{named_session}
use Rattle.ftp_events.specs.Opening.{opened_number}
use Rattle.ftp_events.specs.Board.{holder_of_target}

-- the session that an entry is meant for: the one that it names, or that held what it came for
abbrev pub meant : Options → List Entry → Entry → Option ℕ
meant o past e = option_or (named_session e.event.kind) (holder_of_target o past e.event.kind e.answer)

-- whom an entry is about
pub data Subject : Type 0 where
  Nobody : Subject
  One : ℕ → Subject
  All : Subject

-- one session, where there is one
abbrev pub one_or_nobody : Option ℕ → Subject
one_or_nobody None = Nobody
one_or_nobody (Some s) = One s

-- a stop is about every session, any other entry about the one that it is meant for
abbrev pub subject : Options → List Entry → Entry → Subject
subject o past e = is_stop e.decision ⇒ All ∣ one_or_nobody (meant o past e)

-- the entry is about session s
abbrev pub concerns : Options → List Entry → Entry → ℕ → Bool
concerns o past e s = is_stop e.decision || is_number (meant o past e) s

-- the entry opens session s
abbrev pub opens : Entry → ℕ → Bool
opens e s = is_number (opened_number e.event.kind e.decision) s

-- the entries that concern session s, from its opening on; all that the server keeps of a session depends on them alone
abbrev pub history : Options → List Entry → ℕ → List Entry
history o [] s = []
history o (e ∷ past) s =
    opens e s ⇒ e ∷ []
    ∣ concerns o past e s ⇒ e ∷ history o past s
    ∣ history o past s
