-- The parts of a talk in which more is done on some lines than the profile does.
use Rattle.std.specs.Prelude.{◌≡◌, ℕ, ⊤, Bool, true, false, List, [], ◌∷◌, ◌++◌, Option, Some, None, Result, Ok, Err, not, if◌then◌else◌}
use Rattle.ftp_base.specs.declared.message.ControlChanMsg.TheVariants as message
use Rattle.ftp_base.specs.declared.reply.Reply.TheVariants as reply
use Rattle.ftp_events.specs.declared.decision.Decision.{Decision}
use Rattle.ftp_events.specs.declared.entry.Entry.{Entry}
use Rattle.ftp_events.specs.declared.event.Answer.TheVariants as answer
use Rattle.ftp_events.specs.declared.event.EventKind.{EventKind}
use Rattle.ftp_events.specs.declared.event.EventKind.TheVariants as kind
use Rattle.ftp_events.specs.Board.{granted_port}
use Rattle.ftp_events.specs.Login.{login_state, user_name}
use Rattle.ftp_events.specs.Place.{cwd}
use Rattle.ftp_control.specs.declared.command.Command.{Command}
use Rattle.ftp_control.specs.declared.command.Command.TheVariants.{Other, Pasv}
use Rattle.ftp_control.specs.declared.line.LineError.{LineError}
use Rattle.ftp_control.specs.declared.line.LineError.TheVariants.{InvalidCommand}
use Rattle.ftp_control.specs.Line.{parsed}
use Rattle.ftp_control.specs.Parameter.{first_word}
use Rattle.ftp_control.specs.ControlLine.{IsLine}
use Rattle.ftp_extras.specs.declared.extra.Extra.{Extra}
use Rattle.ftp_extras.specs.declared.extra.Extra.TheVariants as extra
use Rattle.ftp_extras.specs.Extra.{AskerView, gives_password, is_beside, IsWhole}
use Rattle.ftp_talk.specs.Commands.{is_in, Gives, GivenBy}
use Rattle.ftp_talk.specs.Ground.{Step, ALine, Turn, Ground, history}
use Rattle.ftp_talk.specs.Pieces.{Pieces, said_pieces}
use Rattle.ftp_talk.specs.Turns.{LineDue, is_end, due, Comes}

-- a line on which the extras were asked: who asked, what was kept from the line before, the command as which it was heard,
-- what was done, and what was kept then
pub record HeardLine : Type 0 where
  pub who : AskerView
  pub before : Option (List ℕ)
  pub command : Command
  pub line : List ℕ
  pub extra : Extra
  pub after : Option (List ℕ)

-- a turn, and what was heard where it stands for a line that is heard
pub record TalkPart : Type 0 where
  pub turn : Turn
  pub heard : Option HeardLine

abbrev pub turns_of : List TalkPart → List Turn
turns_of [] = []
turns_of (p ∷ ps) = p.turn ∷ turns_of ps

abbrev pub with_heard : Option HeardLine → List HeardLine → List HeardLine
with_heard None hs = hs
with_heard (Some x) hs = x ∷ hs

-- the lines that were heard, newest first
abbrev pub heard_in : List TalkPart → List HeardLine
heard_in [] = []
heard_in (p ∷ ps) = with_heard p.heard (heard_in ps)

-- what is kept behind these lines
abbrev pub kept_behind : Option (List ℕ) → List HeardLine → Option (List ℕ)
kept_behind first [] = first
kept_behind first (x ∷ hs) = x.after

-- what may be done for who asks, where this was kept, on the line of a command, and what may be kept then
abbrev pub MayDoSo : Type 1
MayDoSo = AskerView → Option (List ℕ) → Command → List ℕ → Extra → Option (List ℕ) → Type 0

-- what was done on each line is what may be done, with what was kept from the line before
abbrev pub AreAllowed : MayDoSo → Option (List ℕ) → List HeardLine → Type 0
AreAllowed may first [] = ⊤
AreAllowed may first (x ∷ hs) = AreAllowed may first hs × (x.before ≡ kept_behind first hs) × may x.who x.before x.command x.line x.extra x.after

-- who asks, after these entries
abbrev pub asker_at : List Entry → AskerView
asker_at h = record { name = user_name h; is_in = is_in (login_state h); cwd = cwd h }

-- the event of a line on which this is done
abbrev pub GivesMore : Ground → List Entry → List ℕ → Extra → EventKind → Type 0
GivesMore g h line extra.Pass k = GivenBy g h (parsed line) k
GivesMore g h line (extra.Tell m) k = k ≡ kind.Internal g.session m
GivesMore g h line (extra.Say bytes) k = k ≡ kind.Internal g.session (message.CommandChannelReply reply.None)
GivesMore g h line (extra.As other) k = Gives g h other k
GivesMore g h line extra.Epsv k = Gives g h Pasv k

-- as which command a line is heard: as its own, where that gives no password; a line that the profile refuses for its parameter,
-- as a word that is no command's, the one before its first space
abbrev pub heard_as : List ℕ → Result Command LineError → Option Command
heard_as line (Ok c) = if gives_password c then None else Some c
heard_as line (Err InvalidCommand) = Some (Other (first_word line))
heard_as line (Err e) = None

-- a turn for a line that was heard: it is one that is heard as this command, which gives no password, for who asks, and on it
-- nothing is done in place of a command of the profile, but that a transfer may be refused
pub record IsHeard (g : Ground) (ts : List Turn) (x : HeardLine) (t : Turn) : Type 0 where
  pub step : t.step ≡ ALine x.line
  pub due : due ts ≡ LineDue
  pub line : IsLine x.line
  pub parsed : heard_as x.line (parsed x.line) ≡ Some x.command
  pub unsecret : gives_password x.command ≡ false
  pub who : x.who ≡ asker_at (history g ts)
  pub beside : is_beside x.command x.extra ≡ true
  pub whole : IsWhole x.extra
  pub gives : GivesMore g (history g ts) x.line x.extra t.entry.event.kind

-- a line is heard where it is that of a command that gives no password, or refused for its parameter
abbrev pub is_heard_line : Result Command LineError → Bool
is_heard_line (Ok c) = if gives_password c then false else true
is_heard_line (Err InvalidCommand) = true
is_heard_line (Err e) = false

abbrev pub is_heard_step : Step → Bool
is_heard_step (ALine line) = is_heard_line (parsed line)
is_heard_step _ = false

-- a turn comes behind these: a line that was heard, or what comes in a talk besides
abbrev pub ComesWith : Ground → List Turn → Option HeardLine → Turn → Type 0
ComesWith g ts (Some x) t = IsHeard g ts x t
ComesWith g ts None t = Comes g (history g ts) (due ts) t.step t.entry.event.kind × (is_heard_step t.step ≡ false)

-- each part follows those before it
abbrev pub Parts : Ground → List TalkPart → Type 0
Parts g [] = ⊤
Parts g (p ∷ ps) = Parts g ps × ComesWith g (turns_of ps) p.heard p.turn × (p.turn.entry.answer ≡ answer.None)

-- what is said on a line
abbrev pub lines_said : Extra → List ℕ
lines_said (extra.Say bytes) = bytes
lines_said _ = []

-- bytes that are said go behind the replies
abbrev pub with_said : Extra → Pieces → Pieces
with_said (extra.Say bytes) pieces = pieces ++ (0, bytes) ∷ []
with_said _ pieces = pieces

-- what is said behind the replies of a turn, unless its decision ends the session
abbrev pub with_spoken : Option HeardLine → Bool → Pieces → Pieces
with_spoken None over pieces = pieces
with_spoken (Some x) over pieces = if over then pieces else with_said x.extra pieces

-- the line is an EPSV, for which a PASV is carried out
abbrev pub is_epsv_line : Extra → Bool
is_epsv_line extra.Epsv = true
is_epsv_line _ = false

abbrev pub is_epsv_at : Option HeardLine → Bool
is_epsv_at None = false
is_epsv_at (Some x) = is_epsv_line x.extra

-- the port that is granted for an EPSV
abbrev pub epsv_port : Bool → Decision → Option ℕ
epsv_port true d = granted_port d
epsv_port false d = None

-- the pieces of a turn, for an EPSV or not: the replies that came earlier, and those of its entry, or the one that shows the
-- port
abbrev pub pieces_for : Ground → Bool → Turn → Pieces
pieces_for g epsv t = said_pieces g.session (epsv_port epsv t.entry.decision) t.earlier t.entry.actions

-- the pieces of a turn that is for no EPSV
abbrev pub turn_pieces : Ground → Turn → Pieces
turn_pieces g t = pieces_for g false t

-- what is to be said: part by part the replies, and what is said behind them
abbrev pub due_pieces : Ground → List TalkPart → Pieces
due_pieces g [] = []
due_pieces g (p ∷ ps) = with_spoken p.heard (is_end p.turn.entry.decision) (due_pieces g ps ++ pieces_for g (is_epsv_at p.heard) p.turn)

-- with the replies of the turn in which the connection is closed
abbrev pub pieces_by : Ground → Option Turn → List TalkPart → Pieces
pieces_by g None ps = due_pieces g ps
pieces_by g (Some close) ps = due_pieces g ps ++ turn_pieces g close
