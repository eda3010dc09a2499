-- Logs that tell the same of a client, whoever else is there.
use Rattle.std.specs.Prelude.{◌≡◌, ◌≢◌, ⊤, List, [], ◌∷◌}
use Rattle.ftp_options.specs.declared.options.Options.{Options}
use Rattle.ftp_events.specs.declared.entry.Entry.{Entry}
use Rattle.ftp_events.specs.declared.event.EventKind.TheVariants.{Shutdown}
use Rattle.ftp_events.specs.Acts.{acts}

-- each entry but a Shutdown has the actions that the entries before it and it give
abbrev pub IsActedButStops : Options → List Entry → Type 0
IsActedButStops o [] = ⊤
IsActedButStops o (e ∷ log) = IsActedButStops o log × (e.event.kind ≢ Shutdown → e.actions ≡ acts o log e)

-- two entries have one event, answer and decision, and the same actions, but for a Shutdown: that names every session
pub record ServesSame (d e : Entry) : Type 0 where
  pub event : d.event ≡ e.event
  pub answer : d.answer ≡ e.answer
  pub decision : d.decision ≡ e.decision
  pub actions : e.event.kind ≢ Shutdown → d.actions ≡ e.actions

-- two logs are as long as each other, and serve the same, entry by entry
abbrev pub SameServed : List Entry → List Entry → Type 0
SameServed [] [] = ⊤
SameServed (d ∷ one) (e ∷ other) = SameServed one other × ServesSame d e
SameServed _ _ = ⊥
