-- Which logs are right, and what can be read from them.
use Rattle.std.specs.Prelude.{ℕ, ◌≡◌, ⊤, ◌==◌, List, [], ◌∷◌, ◌++◌, filter_map, map, Option, Some, None, if◌then◌else◌}
use Rattle.ftp_options.specs.declared.options.Options.{Options}
use Rattle.ftp_base.specs.declared.reply.Reply.{Reply}
use Rattle.ftp_events.specs.declared.action.Action.{Action}
use Rattle.ftp_events.specs.declared.action.Action.TheVariants as action
use Rattle.ftp_events.specs.declared.decision.Decision.{Decision}
use Rattle.ftp_events.specs.declared.entry.Entry.{Entry}
use Rattle.ftp_events.specs.declared.event.HubEvent.{HubEvent}
use Rattle.ftp_events.specs.declared.event.Answer.{Answer}
use Rattle.ftp_events.specs.Decide.{decide}
use Rattle.ftp_events.specs.Acts.{acts}

-- each decision is what the entries before it, the event and the answer give
abbrev pub IsRight : Options → List Entry → Type 0
IsRight o [] = ⊤
IsRight o (e ∷ log) = IsRight o log × (e.decision ≡ decide o log e.event e.answer)

-- each entry has the actions that the entries before it and it give
abbrev pub IsActed : Options → List Entry → Type 0
IsActed o [] = ⊤
IsActed o (e ∷ log) = IsActed o log × (e.actions ≡ acts o log e)

-- the entry with a decision and the actions that go with it
abbrev pub with_decision : Options → List Entry → HubEvent → Answer → Decision → Entry
with_decision o log event answer d =
    record {
      event = event;
      answer = answer;
      decision = d;
      actions = acts o log (record { event = event; answer = answer; decision = d; actions = [] });
    }

-- the entry that a right and acted log has next
abbrev pub next_entry : Options → List Entry → HubEvent → Answer → Entry
next_entry o log event answer = with_decision o log event answer (decide o log event answer)

-- the right and acted log of these events and answers, the newest first
abbrev pub log_of : Options → List (HubEvent × Answer) → List Entry
log_of o [] = []
log_of o (x ∷ xs) = let log = log_of o xs in next_entry o log x.0 x.1 ∷ log

-- the reply that an action sends to session s
abbrev pub reply_to : ℕ → Action → Option (ℕ × Reply)
reply_to s (action.Reply session delay reply) = if session == s then Some (delay, reply) else None
reply_to s _ = None

-- the replies to session s with their delays, the oldest first
abbrev pub replies : List Entry → ℕ → List (ℕ × Reply)
replies [] s = []
replies (e ∷ log) s = replies log s ++ filter_map (reply_to s) e.actions

-- the events of a log with their answers
abbrev pub events_of : List Entry → List (HubEvent × Answer)
events_of log = map (λ (e : Entry). (e.event, e.answer)) log
