-- The order of turns.
use Rattle.std.specs.Prelude.{◌≡◌, ℕ, ⊤, Bool, true, false, List, [], ◌∷◌, unwrap_or, Result, Ok, Err, if◌then◌else◌}
use Rattle.ftp_base.specs.declared.login.AuthAnswer.{AuthAnswer}
use Rattle.ftp_events.specs.declared.decision.Decision.{Decision}
use Rattle.ftp_events.specs.declared.decision.Decision.TheVariants as decision
use Rattle.ftp_events.specs.declared.entry.Entry.{Entry}
use Rattle.ftp_events.specs.declared.event.Answer.TheVariants as answer
use Rattle.ftp_events.specs.declared.event.EventKind.{EventKind}
use Rattle.ftp_events.specs.declared.event.EventKind.TheVariants as kind
use Rattle.ftp_events.specs.Login.{user_name}
use Rattle.ftp_control.specs.declared.command.Command.{Command}
use Rattle.ftp_control.specs.declared.command.Command.TheVariants as command
use Rattle.ftp_control.specs.declared.line.LineError.{LineError}
use Rattle.ftp_control.specs.declared.line.LineError.TheVariants as error
use Rattle.ftp_control.specs.Line.{parsed}
use Rattle.ftp_control.specs.ControlLine.{IsLine}
use Rattle.ftp_talk.specs.Ground.{Step, ALine, AnAnswer, AnIdleTick, ASlotTick, ALongLine, AClose, Turn, Ground, history}
use Rattle.ftp_talk.specs.Commands.{GivenBy, too_long}

-- what is due behind a turn: the next line, an answer on a password, a look at the slot, the end of the connection, or
-- nothing, as the session has ended
pub data Due : Type 0 where
  LineDue : Due
  AnswerDue : (password : List ℕ) → Due
  SlotTickDue : Due
  CloseDue : Due
  NothingDue : Due

-- the decision ends the session, or says that it has ended
abbrev pub is_end : Decision → Bool
is_end decision.UnknownNumber = true
is_end decision.Quit = true
is_end decision.Closed = true
is_end decision.TimedOut = true
is_end _ = false

-- what is due behind a line whose session goes on: the answer on a password that is out to be checked, and the end behind
-- a line that is no text
abbrev pub due_behind : Result Command LineError → Decision → Due
due_behind (Ok (command.Pass password)) decision.PassOut = AnswerDue password.0
due_behind (Err error.Utf8) d = CloseDue
due_behind _ d = LineDue

-- what is due behind a step whose session goes on
abbrev pub due_after : Step → Decision → Due
due_after (ALine line) d = due_behind (parsed line) d
due_after AnAnswer d = LineDue
due_after AnIdleTick d = SlotTickDue
due_after ASlotTick d = LineDue
due_after ALongLine d = CloseDue
due_after AClose d = CloseDue

-- what is due behind a step and its decision
abbrev pub due_by : Step → Decision → Due
due_by step d = if is_end d then NothingDue else due_after step d

-- what is due behind these turns
abbrev pub due : List Turn → Due
due [] = LineDue
due (t ∷ ts) = due_by t.step t.entry.decision

-- the answer on a password: one that the authenticator may give, for the name that was given last
abbrev pub IsAnswered : Ground → List Entry → List ℕ → EventKind → Type 0
IsAnswered g h password k =
    (said : AuthAnswer) × (k ≡ kind.AuthDone g.session said) × (g.start.answers (unwrap_or (user_name h) []) password g.client said ≡ true)

-- what may come where this is due, with the event that it gives: where a line may come there may also be a look at the idle
-- time, if the control cannot be read at any time, or a line that is too long
abbrev pub Comes : Ground → List Entry → Due → Step → EventKind → Type 0
Comes g h LineDue (ALine line) k = IsLine line × GivenBy g h (parsed line) k
Comes g h LineDue AnIdleTick k = (g.start.ready ≡ false) × (k ≡ kind.IdleTick g.session)
Comes g h LineDue ALongLine k = k ≡ too_long g.session
Comes g h (AnswerDue password) AnAnswer k = IsAnswered g h password k
Comes g h SlotTickDue ASlotTick k = k ≡ kind.SlotTick g.session
Comes g h _ _ k = ⊥

-- a turn follows these
abbrev pub Follows : Ground → List Turn → Turn → Type 0
Follows g ts t = Comes g (history g ts) (due ts) t.step t.entry.event.kind × (t.entry.answer ≡ answer.None)

-- each turn follows those before it
abbrev pub Turns : Ground → List Turn → Type 0
Turns g [] = ⊤
Turns g (t ∷ ts) = Turns g ts × Follows g ts t
