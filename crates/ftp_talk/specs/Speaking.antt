-- What is kept while a talk goes on.
use Rattle.std.specs.Prelude.{◌≡◌, ℕ, ◌+◌, ◌%◌, ◌^◌, ◌≤◌, ◌⊎◌, ⊤, Bool, true, false, List, [], ◌∷◌, ◌++◌, Option, Some, None, IfSome, MatchOption, is_some, Result, Ok, Err, IfOk, OnOk}
use Rattle.std.specs.declared.alloc.AllocError.{AllocError}
use Rattle.std.specs.Bool.{then_some}
use Rattle.std.specs.List.{AllByRecursion}
use Rattle.ftp_base.specs.declared.login.AuthAnswer.{AuthAnswer}
use Rattle.ftp_base.specs.declared.net.IpAddr.{IpAddr}
use Rattle.ftp_base.specs.declared.net.SocketAddr.{SocketAddr}
use Rattle.ftp_base.specs.declared.reply.Reply.{Reply}
use Rattle.ftp_base.specs.Edge.{EdgeView, IsCounted, next_number, next_answer, next_connect, Takes, behind_moment, behind_word, behind_lookup, behind_port, behind_connect}
use Rattle.ftp_base.specs.Outside.{HasRisen, Writes}
use Rattle.ftp_events.specs.declared.decision.Decision.{Decision}
use Rattle.ftp_events.specs.declared.entry.Entry.{Entry}
use Rattle.ftp_events.specs.declared.event.Answer.TheVariants as answer
use Rattle.ftp_events.specs.declared.event.EventKind.{EventKind}
use Rattle.ftp_events.specs.Login.{login_state, user_name}
use Rattle.ftp_events.specs.Place.{cwd}
use Rattle.ftp_base.specs.Storage.{root}
use Rattle.ftp_options.specs.declared.options.Options.{Options}
use Rattle.ftp_options.specs.Modes.{is_active_off}
use Rattle.ftp_events.specs.declared.session.Login.TheVariants as login
use Rattle.ftp_shared.specs.Outbox.{own_session}
use Rattle.ftp_control.specs.declared.command.Command.{Command}
use Rattle.ftp_control.specs.declared.command.Command.TheVariants.{Other}
use Rattle.ftp_control.specs.declared.line.LineError.TheVariants.{InvalidCommand}
use Rattle.ftp_control.specs.Parameter.{first_word}
use Rattle.ftp_control.specs.declared.control_line.Got.{Got}
use Rattle.ftp_control.specs.declared.control_line.Got.TheVariants as got
use Rattle.ftp_control.specs.Lines.{Rest, IsWithin, bytes_in}
use Rattle.ftp_shared.specs.Desk.{DeskView, IsVouched, Appends, RisesBy}
use Rattle.ftp_control.specs.ControlLine.{IsLine, IsLong}
use Rattle.ftp_talk.specs.declared.control_session.Peer.{Peer}
use Rattle.ftp_talk.specs.declared.control_session.ControlSession.{ControlSession}
use Rattle.ftp_talk.specs.declared.halt.Halt.{Halt}
use Rattle.ftp_talk.specs.declared.halt.Halt.TheVariants as halt
use Rattle.ftp_talk.specs.declared.serving.Next.{Next}
use Rattle.ftp_talk.specs.declared.serving.Next.TheVariants as next
use Rattle.ftp_talk.specs.declared.serving.ServeEnd.{ServeEnd}
use Rattle.ftp_talk.specs.declared.serving.ServeEnd.TheVariants as end
use Rattle.ftp_talk.specs.Ground.{Step, Turn, Ground, history}
use Rattle.ftp_extras.specs.declared.extra.Extra.{Extra}
use Rattle.ftp_extras.specs.Extra.{AskerView, gives_password, is_beside, IsWhole}
use Rattle.ftp_control.specs.Line.{parsed}
use Rattle.ftp_talk.specs.Commands.{is_in, asked_of, connected_to, looked_up, bound_in, MayBe, Gives}
use Rattle.ftp_talk.specs.Turns.{Due, LineDue, CloseDue, NothingDue, due, due_after, Comes}
use Rattle.ftp_talk.specs.Seen.{IsSeen, IsDrawn, IsAsked, missing, behind_asked, AreFed, behind_kind, missing_in, failed_in, feed_after, all_missing, all_failed}
use Rattle.ftp_talk.specs.Talk.{Talk, TalkFront, AreVouched, Shares, greeting_of, is_over, is_long}
use Rattle.ftp_talk.specs.Saying.{IsPaused}
use Rattle.ftp_talk.specs.Pieces.{Pieces, piece_text, piece_delays, SaysPieces}
use Rattle.ftp_talk.specs.Parts.{HeardLine, turns_of, MayDoSo, AreAllowed, kept_behind, heard_as, is_heard_step, pieces_for, due_pieces}
use Rattle.ftp_talk.specs.Extended.{PartsBefore, TalkHeard, TalkFrontHeard}

-- what a state knows is what these entries tell
pub record Knows (g : Ground) (state : ControlSession) (h : List Entry) : Type 0 where
  pub session : state.session ≡ g.session
  pub raw : state.raw ≡ g.raw
  pub client : state.client ≡ g.client
  pub host : state.host ≡ looked_up g.start.desk.options
  pub range : state.range ≡ bound_in g.start.desk.options
  pub active : state.is_active_off ≡ is_active_off g.start.desk.options.active_passive
  pub login : state.login ≡ login_state h
  pub name : state.name ≡ user_name h
  pub cwd : state.cwd ≡ cwd h

-- what a state knows as it begins
pub record Begins (state : ControlSession) (peer : Peer) (o : Options) : Type 0 where
  pub session : state.session ≡ peer.session
  pub raw : state.raw ≡ peer.raw
  pub client : state.client ≡ peer.client
  pub host : state.host ≡ looked_up o
  pub range : state.range ≡ bound_in o
  pub active : state.is_active_off ≡ is_active_off o.active_passive
  pub login : state.login ≡ login.New
  pub name : state.name ≡ None
  pub cwd : state.cwd ≡ root
  pub live : state.is_over ≡ false

-- edge and desk are those that the talk rests on, after these entries
pub record IsGround (g : Ground) (h : List Entry) (edge : EdgeView) (desk : DeskView) : Type 0 where
  pub meaning : edge.meaning ≡ g.start.edge.meaning
  pub options : desk.options ≡ g.start.desk.options
  pub files : desk.files ≡ g.start.desk.files
  pub journal : IfSome g.start.desk.journal (λ J. desk.journal ≡ Some (h ++ J))

-- the edge means the same, its count did not fall, and nothing was paused
pub record SameEdge (old new : EdgeView) : Type 0 where
  pub meaning : new.meaning ≡ old.meaning
  pub count : old.faults ≤ new.faults
  pub paused : new.paused ≡ old.paused

-- edge and storage were asked for what a command needs
pub record Asked (g : Ground) (h : List Entry) (c : Command) (k : EventKind) (old new : EdgeView) (storage_old storage_new : ℕ) : Type 0 where
  pub gives : Gives g h c k
  pub feed : IfSome old.feed (λ f. IsDrawn g h k f × (new.feed ≡ Some (behind_kind g h k f)))
  pub edge : IsCounted (missing_in g h k) old.faults new.faults
  pub storage : IsCounted (failed_in k) storage_old storage_new

-- a word was drawn, and what a PASV needs besides was asked for
pub record IsPort (asked : Option (List ℕ)) (within : Option (ℕ × ℕ)) (old new : EdgeView) (word : ℕ) (lookup bound : Option ℕ) : Type 0 where
  pub name : MayBe old.meaning.names asked lookup
  pub port : MayBe (λ (r : ℕ × ℕ). old.meaning.ports r.0 r.1) within bound
  pub feed :
      IfSome old.feed (λ f. (word ≡ next_number f.words % 2 ^ 16) × IsAsked asked lookup (next_answer f.lookups) × IsAsked within bound (next_answer f.ports)
      × (new.feed ≡ Some (behind_asked within behind_port (behind_asked asked behind_lookup (behind_word f)))))
  pub missing : IsCounted (missing asked lookup + missing within bound) old.faults new.faults

-- the address to which a state connects
abbrev pub target_for : ControlSession → List ℕ → Option SocketAddr
target_for state text = asked_of state.login (connected_to state.is_active_off state.raw text)

-- a number was drawn, and a connection was asked for
pub record IsMadeTo (to : SocketAddr) (May : ℕ → Type 0) (old new : EdgeView) (given : Option ℕ) : Type 0 where
  pub drawn : ℕ
  pub made : Bool
  pub next : May drawn
  pub may : old.meaning.connects to drawn made ≡ true
  pub number : given ≡ then_some made drawn

-- a connection was asked for where there is a target
pub record IsMade (target : Option SocketAddr) (May : ℕ → Type 0) (old new : EdgeView) (number : Option ℕ) : Type 0 where
  pub made : MatchOption target (number ≡ None) (λ to. IsMadeTo to May old new number)
  pub feed : IfSome old.feed (λ f. IsAsked target (is_some number) (next_connect f.connects) × (new.feed ≡ Some (behind_asked target behind_connect f)))
  pub missing : IsCounted (missing target number) old.faults new.faults

-- where the journal is told, it grew by the talk's entries, nothing is left over for the session, and nothing was before
abbrev pub Keeps : Ground → DeskView → List Turn → Type 0
Keeps g desk ts =
    IfSome g.start.desk.journal (λ J. (desk.journal ≡ Some (history g ts ++ J)) × (desk.outbox g.session ≡ []) × AllByRecursion (λ (t : Turn). t.earlier ≡ []) ts)

-- how state and desk stand after these turns
pub record StandsAfter (g : Ground) (state : ControlSession) (desk : DeskView) (ts : List Turn) : Type 0 where
  pub over : state.is_over ≡ is_over ts
  pub kept : Keeps g desk ts
  pub refused : g.start.desk.refused ≤ desk.refused
  pub vouched : AreVouched g ts
  pub share : Shares g desk ts

-- the turns so far gave their entries, and all that is due was sent
pub record Speaking (g : Ground) (state : ControlSession) (edge : EdgeView) (desk : DeskView) (sent : Option (List ℕ)) (ts : List Turn) (pieces : Pieces) : Type 0 where
  pub seen : IsSeen g ts edge desk.faults
  pub feed : IfSome g.start.edge.feed (λ f. edge.feed ≡ Some (feed_after g f ts))
  pub known : Knows g state (history g ts)
  pub ground : IsGround g (history g ts) edge desk
  pub after : StandsAfter g state desk ts
  pub written : Writes g.start.sent sent (greeting_of g ++ piece_text pieces)
  pub paused : IsPaused (piece_delays pieces) g.start.edge.paused edge.paused

-- edge and storage were asked, besides, for the next event
pub record Asking (g : Ground) (state : ControlSession) (edge : EdgeView) (desk : DeskView) (sent : Option (List ℕ)) (ts : List Turn) (pieces : Pieces) (k : EventKind) : Type 0 where
  pub named : own_session k ≡ Some g.session
  pub fed : IfSome g.start.edge.feed (λ f. AreFed g f ts)
  pub feed : IfSome g.start.edge.feed (λ f. IsDrawn g (history g ts) k (feed_after g f ts) × (edge.feed ≡ Some (behind_kind g (history g ts) k (feed_after g f ts))))
  pub missing : IsCounted (all_missing g ts + missing_in g (history g ts) k) g.start.edge.faults edge.faults
  pub failed : IsCounted (all_failed ts + failed_in k) g.start.desk.faults desk.faults
  pub known : Knows g state (history g ts)
  pub ground : IsGround g (history g ts) edge desk
  pub after : StandsAfter g state desk ts
  pub written : Writes g.start.sent sent (greeting_of g ++ piece_text pieces)
  pub paused : IsPaused (piece_delays pieces) g.start.edge.paused edge.paused

-- the turns so far gave their entries, and of what is due a front was sent
pub record Front (g : Ground) (state : ControlSession) (edge : EdgeView) (desk : DeskView) (sent : Option (List ℕ)) (ts : List Turn) (pieces : Pieces) : Type 0 where
  pub session : state.session ≡ g.session
  pub options : desk.options ≡ g.start.desk.options
  pub seen : IsSeen g ts edge desk.faults
  pub after : StandsAfter g state desk ts
  pub written : SaysPieces g.start.sent sent g.start.edge.paused edge.paused (greeting_of g) pieces

-- an event of this moment was submitted, and this entry was told
pub record Entered (vouches : Bool) (edge edge1 : EdgeView) (desk desk1 : DeskView) (earlier : List (ℕ × Reply)) (e : Entry) (k : EventKind) : Type 0 where
  pub kind : e.event.kind ≡ k
  pub answer : e.answer ≡ answer.None
  pub moment : IfSome edge.feed (λ f. e.event.at ≡ next_number f.moments)
  pub taken : Takes behind_moment edge edge1
  pub unpaused : edge1.paused ≡ edge.paused
  pub vouched : vouches ≡ true → IsVouched desk.options earlier e
  pub appended : IfSome desk.journal (λ J. Appends J desk desk1 earlier e)
  pub share : RisesBy 1 desk.share desk1.share
  pub options : desk1.options ≡ desk.options
  pub files : desk1.files ≡ desk.files
  pub count : desk.faults ≤ desk1.faults
  pub unrefused : desk1.refused ≡ desk.refused

-- the turn of a step and its entry
abbrev pub turn_of : Step → List (ℕ × Reply) → Entry → Turn
turn_of step earlier e = record { step = step; earlier = earlier; entry = e }

-- the event was submitted, decided so, and answered, as for an EPSV or not
pub record Spoken (g : Ground) (state : ControlSession) (edge : EdgeView) (desk : DeskView) (sent : Option (List ℕ)) (ts : List Turn) (pieces : Pieces) (step : Step) (k : EventKind) (d : Decision) (epsv : Bool) : Type 0 where
  pub earlier : List (ℕ × Reply)
  pub entry : Entry
  pub kind : entry.event.kind ≡ k
  pub answer : entry.answer ≡ answer.None
  pub decision : entry.decision ≡ d
  pub speaking : Speaking g state edge desk sent (turn_of step earlier entry ∷ ts) (pieces ++ pieces_for g epsv (turn_of step earlier entry))

-- the event was submitted, and of what is due a front was said
pub record Heard (g : Ground) (state : ControlSession) (edge : EdgeView) (desk : DeskView) (sent : Option (List ℕ)) (ts : List Turn) (pieces : Pieces) (step : Step) (k : EventKind) (epsv : Bool) : Type 0 where
  pub earlier : List (ℕ × Reply)
  pub entry : Entry
  pub kind : entry.event.kind ≡ k
  pub answer : entry.answer ≡ answer.None
  pub front : Front g state edge desk sent (turn_of step earlier entry ∷ ts) (pieces ++ pieces_for g epsv (turn_of step earlier entry))

-- the event was not taken, or it was submitted and not all was said
abbrev pub Halted : Ground → ControlSession → EdgeView → DeskView → Option (List ℕ) → List Turn → Pieces → Step → EventKind → Bool → Type 0
Halted g state edge desk sent ts pieces step k epsv = (Front g state edge desk sent ts pieces × HasRisen g.start.desk.refused desk.refused) ⊎ Heard g state edge desk sent ts pieces step k epsv

-- it was decided so and answered, or that was cut short
abbrev pub IsSpoken : Result Decision Halt → Ground → ControlSession → EdgeView → DeskView → Option (List ℕ) → List Turn → Pieces → Step → EventKind → Bool → Type 0
IsSpoken (Ok d) g state edge desk sent ts pieces step k epsv = Spoken g state edge desk sent ts pieces step k d epsv
IsSpoken (Err halt) g state edge desk sent ts pieces step k epsv = Halted g state edge desk sent ts pieces step k epsv

-- parts were spoken in which these lines were heard, this is due behind them, and this is the rest of the input
pub record Standing (d : Due) (g : Ground) (state : ControlSession) (edge : EdgeView) (desk : DeskView) (sent : Option (List ℕ)) (hs : List HeardLine) (rest : List ℕ) : Type 0 where
  pub parted : PartsBefore g hs rest
  pub speaking : Speaking g state edge desk sent (turns_of parted.parts) (due_pieces g parted.parts)
  pub stands : due (turns_of parted.parts) ≡ d

-- some parts were spoken, the last perhaps not to its end
pub record IsCut (g : Ground) (state : ControlSession) (edge : EdgeView) (desk : DeskView) (sent : Option (List ℕ)) (hs : List HeardLine) : Type 0 where
  pub rest : List ℕ
  pub parted : PartsBefore g hs rest
  pub front : Front g state edge desk sent (turns_of parted.parts) (due_pieces g parted.parts)

-- a step may come where this is due, as a state knows; no line is heard on it, and a line that is too long stands next
pub record MayStep (g : Ground) (state : ControlSession) (old : Due) (step : Step) (k : EventKind) (rest : List ℕ) : Type 0 where
  pub comes : (h : List Entry) → Knows g state h → Comes g h old step k
  pub unheard : is_heard_step step ≡ false
  pub long : is_long step ≡ true → IsLong rest

-- what was served stands, and this is due behind it; or it was cut short
abbrev pub StandsBehind : {T : Type 0} → (T → Due) → Result T Halt → Ground → ControlSession → EdgeView → DeskView → Option (List ℕ) → List HeardLine → List ℕ → Type 0
StandsBehind due_by (Ok x) g state edge desk sent hs rest = Standing (due_by x) g state edge desk sent hs rest
StandsBehind due_by (Err halt) g state edge desk sent hs rest = IsCut g state edge desk sent hs

-- what is due where this comes next
abbrev pub due_at : Next → Due
due_at next.GoOn = LineDue
due_at next.Over = NothingDue
due_at next.Close = CloseDue

-- with this event a line may be refused, and this comes behind it
abbrev pub MayRefuse : Ground → ControlSession → Step → Result EventKind AllocError → Next → List ℕ → Type 0
MayRefuse g state step kind on rest = IfOk kind (λ k. MayStep g state LineDue step k rest) × ((d : Decision) → due_after step d ≡ due_at on)

-- a line is due, and what is held and left of the input is the rest, where the input is told
pub record Talking (g : Ground) (state : ControlSession) (edge : EdgeView) (desk : DeskView) (sent : Option (List ℕ)) (hs : List HeardLine) (held : List ℕ) (left : Option (List ℕ)) : Type 0 where
  pub rest : List ℕ
  pub standing : Standing LineDue g state edge desk sent hs rest
  pub read : IfSome g.start.input (λ all. Rest held left rest)

-- a line that was got stands in the buffer
abbrev pub IsLineWithin : List ℕ → Got → Type 0
IsLineWithin buffer (got.Line span) = IsWithin buffer span
IsLineWithin buffer _ = ⊤

-- what was got may come before this rest, as the control can be read at any time or not
abbrev pub IsGot : Bool → List ℕ → Got → List ℕ → Type 0
IsGot always buffer (got.Line span) rest = IsLine (bytes_in buffer span)
IsGot always buffer got.Wait rest = always ≡ false
IsGot always buffer got.Long rest = IsLong rest
IsGot always buffer _ rest = ⊤

-- how a talk ended
abbrev pub Outcome : ServeEnd → Ground → EdgeView → DeskView → Option (List ℕ) → Type 0
Outcome end.Ended g edge desk sent = Talk g edge desk sent
Outcome (end.Refused d) g edge desk sent = ⊥
Outcome _ g edge desk sent = TalkFront g edge desk sent

-- how a talk ended in which these lines were heard
abbrev pub OutcomeHeard : ServeEnd → Ground → EdgeView → DeskView → Option (List ℕ) → List HeardLine → Type 0
OutcomeHeard end.Ended g edge desk sent hs = TalkHeard g edge desk sent hs
OutcomeHeard (end.Refused d) g edge desk sent hs = ⊥
OutcomeHeard _ g edge desk sent hs = TalkFrontHeard g edge desk sent hs

-- who asks, as a state knows it
abbrev pub asker_of : ControlSession → AskerView
asker_of state = record { name = state.name; is_in = is_in state.login; cwd = state.cwd }

-- a line is heard of who asks
pub record IsHearing (state : ControlSession) (x : HeardLine) : Type 0 where
  pub line : IsLine x.line
  pub parsed : heard_as x.line (parsed x.line) ≡ Some x.command
  pub unsecret : gives_password x.command ≡ false
  pub who : x.who ≡ asker_of state
  pub beside : is_beside x.command x.extra ≡ true
  pub whole : IsWhole x.extra

-- what was read of a line: this command, or that it is refused for the parameter of this word
abbrev pub IsHeardAs : Bool → List ℕ → Command → Type 0
IsHeardAs false line c = parsed line ≡ Ok c
IsHeardAs true line c = (parsed line ≡ Err InvalidCommand) × (c ≡ Other (first_word line))

-- a line that was heard was served; or it was cut short before its turn, or in it
abbrev pub StandsBehindLine : Result Next Halt → Ground → ControlSession → EdgeView → DeskView → Option (List ℕ) → List HeardLine → HeardLine → List ℕ → Type 0
StandsBehindLine (Ok next) g state edge desk sent hs x rest = Standing (due_at next) g state edge desk sent (x ∷ hs) rest
StandsBehindLine (Err halt) g state edge desk sent hs x rest = IsCut g state edge desk sent hs ⊎ IsCut g state edge desk sent (x ∷ hs)

-- what was heard so far is allowed by what the extras may do, and what they keep is what was kept last
pub record HearsLines (may0 : MayDoSo) (first : Option (List ℕ)) (may : MayDoSo) (pending : Option (List ℕ)) (hs : List HeardLine) : Type 0 where
  pub allowed : AreAllowed may0 first hs
  pub kept : kept_behind first hs ≡ pending
  pub within : (who : AskerView) (before : Option (List ℕ)) (c : Command) (l : List ℕ) (x : Extra) (after : Option (List ℕ)) →
      may who before c l x after → may0 who before c l x after

-- what was served stands, and what was heard so far is allowed, or it was cut short
abbrev pub ServesLines : MayDoSo → Option (List ℕ) → MayDoSo → Option (List ℕ) → Result Next Halt → Ground → ControlSession → EdgeView → DeskView → Option (List ℕ) → List ℕ → Type 0
ServesLines may0 first may pending r g state edge desk sent rest =
    (hs : List HeardLine) × AreAllowed may0 first hs × OnOk r (HearsLines may0 first may pending hs) × StandsBehind due_at r g state edge desk sent hs rest

-- how a talk ends where it goes no further
abbrev pub end_by : Halt → ServeEnd
end_by halt.Fault = end.WriteFault
end_by halt.Memory = end.OutOfMemory
end_by halt.Exhausted = end.Exhausted

-- the desk vouches for its entries as the talk has it, and draws its numbers so
abbrev pub IsAbout : Ground → Bool → Bool → Type 0
IsAbout g vouches draws_next = (g.start.vouches ≡ vouches) × (g.start.draws_next ≡ draws_next)

-- control and authenticator are besides as the talk has it
pub record IsOf (g : Ground) (vouches draws_next always : Bool) (may : List ℕ → List ℕ → IpAddr → AuthAnswer → Bool) : Type 0 where
  pub about : IsAbout g vouches draws_next
  pub ready : g.start.ready ≡ always
  pub answers : g.start.answers ≡ may
