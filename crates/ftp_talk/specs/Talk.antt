-- The talk on a control connection, as a relation on the whole input.
use Rattle.std.specs.Prelude.{◌≡◌, ℕ, ◌⊎◌, ⊤, Bool, true, false, List, [], ◌∷◌, ◌++◌, length, Option, Some, None, IfSome}
use Rattle.std.specs.List.{AllByRecursion}
use Rattle.ftp_base.specs.Edge.{EdgeView}
use Rattle.ftp_base.specs.Outside.{HasRisen, Writes}
use Rattle.ftp_events.specs.declared.event.Answer.TheVariants as answer
use Rattle.ftp_events.specs.declared.event.EventKind.TheVariants as kind
use Rattle.ftp_shared.specs.Desk.{DeskView, IsVouched, RisesBy}
use Rattle.ftp_control.specs.ControlLine.{RanOut, IsLong}
use Rattle.ftp_talk.specs.Saying.{greeting_line, IsPaused}
use Rattle.ftp_talk.specs.Pieces.{Pieces, said_pieces, piece_text, piece_delays, SaysPieces}
use Rattle.ftp_talk.specs.Ground.{Step, ALongLine, AClose, Turn, Ground, history, lines_in}
use Rattle.ftp_talk.specs.Turns.{Due, LineDue, CloseDue, is_end, due, Turns}
use Rattle.ftp_talk.specs.Seen.{IsSeen}

-- the replies that are to be said: turn by turn those that came earlier and those of the entry
abbrev pub due_replies : Ground → List Turn → Pieces
due_replies g [] = []
due_replies g (t ∷ ts) = due_replies g ts ++ said_pieces g.session None t.earlier t.entry.actions

-- the line of the talk's greeting
abbrev pub greeting_of : Ground → List ℕ
greeting_of g = greeting_line g.start.desk.options.greeting

-- where the input is told, it is these bytes
abbrev pub IsInput : Option (List ℕ) → List ℕ → Type 0
IsInput input bytes = IfSome input (λ all. bytes ≡ all)

-- where the journal is told, it grew by the entries of the talk, and no reply was left over from others
abbrev pub Grew : Ground → DeskView → List Turn → Type 0
Grew g desk ts = IfSome g.start.desk.journal (λ J. (desk.journal ≡ Some (history g ts ++ J)) × AllByRecursion (λ (t : Turn). t.earlier ≡ []) ts)

-- where the desk vouches for its entries, each is the next one of a right and acted log
abbrev pub AreVouched : Ground → List Turn → Type 0
AreVouched g ts = g.start.vouches ≡ true → AllByRecursion (λ (t : Turn). IsVouched g.start.desk.options t.earlier t.entry) ts

-- where the share is told, it rose by 1 for each entry of the talk, at least
abbrev pub Shares : Ground → DeskView → List Turn → Type 0
Shares g desk ts = RisesBy (length (history g ts)) g.start.desk.share desk.share

-- the step stands for a line that is too long
abbrev pub is_long : Step → Bool
is_long ALongLine = true
is_long _ = false

-- the last turn says that the next line is too long
abbrev pub is_long_last : List Turn → Bool
is_long_last [] = false
is_long_last (t ∷ ts) = is_long t.step

-- the session has ended with the last turn
abbrev pub is_over : List Turn → Bool
is_over [] = false
is_over (t ∷ ts) = is_end t.entry.decision

-- the turn in which the connection is closed
pub record IsClosing (g : Ground) (t : Turn) : Type 0 where
  pub step : t.step ≡ AClose
  pub kind : t.entry.event.kind ≡ kind.Closed g.session
  pub answer : t.entry.answer ≡ answer.None

-- the connection is to be closed: behind a line that is too long or no text, and where the lines ran out
abbrev pub MayClose : Due → List ℕ → Type 0
MayClose CloseDue rest = ⊤
MayClose LineDue rest = RanOut rest
MayClose _ rest = ⊥

-- how the turns end: with the first entry that ends the session, or with one that closes the connection
abbrev pub IsEnded : Ground → Option Turn → List Turn → List ℕ → Type 0
IsEnded g None ts rest = is_over ts ≡ true
IsEnded g (Some close) ts rest = IsClosing g close × (is_over ts ≡ false) × MayClose (due ts) rest

-- how a talk is left that was cut short: the connection is closed, unless the session has ended or an event was not taken
abbrev pub IsLeft : Ground → DeskView → Option Turn → List Turn → Type 0
IsLeft g desk None ts = (is_over ts ≡ true) ⊎ HasRisen g.start.desk.refused desk.refused
IsLeft g desk (Some close) ts = IsClosing g close × (is_over ts ≡ false)

-- turns behind which the connection was closed, or not
abbrev pub closed_by : Option Turn → List Turn → List Turn
closed_by None ts = ts
closed_by (Some t) ts = t ∷ ts

-- turns of a talk, and behind them this rest of the input
pub record TurnsBefore (g : Ground) (rest : List ℕ) : Type 0 where
  pub turns : List Turn
  pub cut : IsInput g.start.input (lines_in turns ++ rest)
  pub ruled : Turns g turns
  pub long : is_long_last turns ≡ true → IsLong rest

-- turns, behind which the connection was closed or not, are all of a talk, up to its end, as edge, storage and authenticator
-- answered: the greeting's line and these pieces were sent, and their delays paused. What is not told is not spoken of. Where the
-- desk vouches for its entries, the last one ends the session
pub record ComesToEnd (g : Ground) (edge : EdgeView) (desk : DeskView) (sent : Option (List ℕ)) (turns : List Turn) (rest : List ℕ) (close : Option Turn) (pieces : Pieces) : Type 0 where
  pub ended : IsEnded g close turns rest
  pub seen : IsSeen g (closed_by close turns) edge desk.faults
  pub grew : Grew g desk (closed_by close turns)
  pub vouched : AreVouched g (closed_by close turns)
  pub last : g.start.vouches ≡ true → is_over (closed_by close turns) ≡ true
  pub share : Shares g desk (closed_by close turns)
  pub written : Writes g.start.sent sent (greeting_of g ++ piece_text pieces)
  pub paused : IsPaused (piece_delays pieces) g.start.edge.paused edge.paused

-- turns from the front of a talk that was cut short, then one that closes the connection, where the session had not ended and its
-- event was taken; a front of the greeting's line and these pieces was sent, each piece behind its delay
pub record IsCutShort (g : Ground) (edge : EdgeView) (desk : DeskView) (sent : Option (List ℕ)) (turns : List Turn) (close : Option Turn) (pieces : Pieces) : Type 0 where
  pub closing : IsLeft g desk close turns
  pub seen : IsSeen g turns edge desk.faults
  pub grew : Grew g desk (closed_by close turns)
  pub vouched : AreVouched g (closed_by close turns)
  pub share : Shares g desk (closed_by close turns)
  pub written : SaysPieces g.start.sent sent g.start.edge.paused edge.paused (greeting_of g) pieces

-- a talk: lines of the input with their entries, up to its end, where the replies are said
pub record Talk (g : Ground) (edge : EdgeView) (desk : DeskView) (sent : Option (List ℕ)) : Type 0 where
  pub rest : List ℕ
  pub turned : TurnsBefore g rest
  pub close : Option Turn
  pub ends : ComesToEnd g edge desk sent turned.turns rest close (due_replies g (closed_by close turned.turns))

-- a talk that was cut short
pub record TalkFront (g : Ground) (edge : EdgeView) (desk : DeskView) (sent : Option (List ℕ)) : Type 0 where
  pub rest : List ℕ
  pub turned : TurnsBefore g rest
  pub close : Option Turn
  pub ends : IsCutShort g edge desk sent turned.turns close (due_replies g (closed_by close turned.turns))
