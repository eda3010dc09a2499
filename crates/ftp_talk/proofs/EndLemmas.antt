-- How a talk ends.
use Rattle.std.proofs.Common.{◌≡◌, ◌≢◌, ℕ, ◌≤◌, Bool, true, false, cond, List, [], ◌∷◌, ◌++◌, Option, Some, None, refl, sym, ap, subst, ◌∙◌, append_assoc, arith, inl, inr}
use Rattle.std.specs.Prelude.{IfOk, IfSome, unwrap_or, Result, Ok, Err}
use Rattle.std.specs.declared.alloc.AllocError.{AllocError}
use Rattle.std.specs.Option.{option_map_or}
use Rattle.std.specs.Coded.{Coded-set, coded_bool}
use Rattle.std.proofs.Math.Logic.{∥∥₁_elim}
use Rattle.std.proofs.lemmas.List.{append-nil}
use Rattle.ftp_talk.specs.declared.halt.Halt.{Halt}
use Rattle.ftp_talk.specs.declared.serving.Next.TheVariants.{Close}
use Rattle.ftp_talk.specs.declared.halt.Halt.TheVariants.{Fault, Memory, Exhausted}
use Rattle.ftp_base.specs.declared.reply.Reply.{Reply}
use Rattle.ftp_base.specs.Edge.{Feed, EdgeView}
use Rattle.ftp_base.specs.Outside.{HasRisen}
use Rattle.ftp_options.specs.declared.options.Options.{Options}
use Rattle.ftp_events.specs.declared.decision.Decision.{Decision}
use Rattle.ftp_events.specs.declared.decision.Decision.TheVariants as decision
use Rattle.ftp_events.specs.declared.entry.Entry.{Entry}
use Rattle.ftp_events.specs.declared.event.HubEvent.{HubEvent}
use Rattle.ftp_events.specs.declared.event.Answer.{Answer}
use Rattle.ftp_events.specs.declared.event.EventKind.{EventKind}
use Rattle.ftp_events.specs.declared.event.EventKind.TheVariants as kind
use Rattle.ftp_events.specs.declared.session.Session.{Session}
use Rattle.ftp_events.specs.Decide.{decide, due as decided}
use Rattle.ftp_events.specs.Log.{past_of}
use Rattle.ftp_events.specs.Session.{session}
use Rattle.ftp_shared.specs.Outbox.{own_session}
use Rattle.ftp_control.specs.declared.command.Command.{Command}
use Rattle.ftp_control.specs.declared.command.Command.TheVariants as command
use Rattle.ftp_control.specs.declared.line.LineError.{LineError}
use Rattle.ftp_control.specs.declared.line.LineError.TheVariants as error
use Rattle.ftp_control.specs.Line.{parsed}
use Rattle.ftp_control.specs.declared.control_line.Got.{Got}
use Rattle.ftp_control.specs.declared.control_line.Got.TheVariants as got
use Rattle.ftp_control.specs.Lines.{Rest, bytes_in}
use Rattle.ftp_shared.specs.Desk.{DeskView, SameDesk, IsVouched}
use Rattle.ftp_control.specs.ControlLine.{IsFound, IsLong, RanOut, line_in}
use Rattle.ftp_control.proofs.ControlLineLemmas.{long-append}
use Rattle.ftp_talk.specs.Parts.{HeardLine, turns_of, turn_pieces, due_pieces}
use Rattle.ftp_talk.specs.Extended.{PartsBefore, TalkHeard, TalkFrontHeard}
use Rattle.ftp_talk.specs.Pieces.{Pieces}
use Rattle.ftp_talk.proofs.PieceLemmas.{pieces-longer, pieces-still}
use Rattle.ftp_talk.proofs.ResultLemmas.{if_ok-then, waits_so}
use Rattle.ftp_talk.proofs.ServeLemmas.{asking-plain}
use Rattle.ftp_talk.specs.declared.control_session.ControlSession.{ControlSession}
use Rattle.ftp_talk.specs.Commands.{too_long}
use Rattle.ftp_talk.specs.Ground.{Step, ALine, AnAnswer, AnIdleTick, ASlotTick, ALongLine, AClose, Turn, Ground, history, lines_in}
use Rattle.ftp_talk.specs.Turns.{Due, LineDue, AnswerDue, SlotTickDue, CloseDue, NothingDue, is_end, due, due_by, due_after, due_behind}
use Rattle.ftp_talk.specs.Seen.{AreFed, all_missing, all_failed, missing_in, failed_in}
use Rattle.ftp_talk.specs.Talk.{IsInput, IsLeft, greeting_of, is_long, is_long_last, is_over, MayClose}
use Rattle.ftp_talk.specs.Speaking.{Asking, Entered, Halted, Front, IsCut, IsGot, IsLineWithin, Knows, MayRefuse, MayStep, OutcomeHeard, Speaking, Spoken, Standing, Talking, end_by, turn_of}
use Rattle.ftp_talk.proofs.TalkLemmas.{after-same, counted-on, counted-less, kept-more, grew-of, risen-on, vouched-more, shares-more}

-- ---- what is due

nothing-by : (b : Bool) (x : Due) → (x ≡ NothingDue → ⊥) → cond b NothingDue x ≡ NothingDue → b ≡ true
nothing-by true x h e = refl
nothing-by false x h e = absurd (h e)

something-behind : (r : Result Command LineError) (d : Decision) → due_behind r d ≡ NothingDue → ⊥
something-behind (Ok (command.Pass p)) decision.PassOut e = cc
something-behind (Ok (command.Pass p)) _ e = cc
something-behind (Ok (command.User p)) d e = cc
something-behind (Ok (command.Cwd p)) d e = cc
something-behind (Ok (command.Port p)) d e = cc
something-behind (Ok (command.Data p)) d e = cc
something-behind (Ok (command.Rest p)) d e = cc
something-behind (Ok command.Pasv) d e = cc
something-behind (Ok command.Stou) d e = cc
something-behind (Ok command.Abor) d e = cc
something-behind (Ok command.Quit) d e = cc
something-behind (Ok command.Noop) d e = cc
something-behind (Ok command.TypeCmd) d e = cc
something-behind (Ok (command.Other p)) d e = cc
something-behind (Err error.Utf8) d e = cc
something-behind (Err error.InvalidEol) d e = cc
something-behind (Err error.InvalidCommand) d e = cc
something-behind (Err error.OutOfMemory) d e = cc

something-after : (s : Step) (d : Decision) → due_after s d ≡ NothingDue → ⊥
something-after (ALine line) d e = something-behind (parsed line) d e
something-after AnAnswer d e = cc
something-after AnIdleTick d e = cc
something-after ASlotTick d e = cc
something-after ALongLine d e = cc
something-after AClose d e = cc

-- nothing is due only where the session has ended
over-due : (ts : List Turn) → due ts ≡ NothingDue → is_over ts ≡ true
over-due [] e = cc
over-due (t ∷ ts) e = nothing-by (is_end t.entry.decision) (due_after t.step t.entry.decision) (something-after t.step t.entry.decision) e

lives-by : (b : Bool) (x d : Due) → cond b NothingDue x ≡ d → (d ≡ NothingDue → ⊥) → b ≡ false
lives-by true x d e h = absurd (h (sym e))
lives-by false x d e h = refl

-- where something is due, the session has not ended
lives : (ts : List Turn) (d : Due) → due ts ≡ d → (d ≡ NothingDue → ⊥) → is_over ts ≡ false
lives [] d e h = refl
lives (t ∷ ts) d e h = lives-by (is_end t.entry.decision) (due_after t.step t.entry.decision) d e h

closable-lives : (d : Due) (rest : List ℕ) → MayClose d rest → d ≡ NothingDue → ⊥
closable-lives LineDue rest h e = cc
closable-lives (AnswerDue p) rest h e = absurd h
closable-lives SlotTickDue rest h e = absurd h
closable-lives CloseDue rest h e = cc
closable-lives NothingDue rest h e = absurd h

long-by : (b : Bool) → cond b NothingDue CloseDue ≡ LineDue → ⊥
long-by true e = cc
long-by false e = cc

short-step : (s : Step) (d : Decision) → due_by s d ≡ LineDue → is_long s ≡ true → ⊥
short-step ALongLine d e h = long-by (is_end d) e
short-step (ALine line) d e h = cc
short-step AnAnswer d e h = cc
short-step AnIdleTick d e h = cc
short-step ASlotTick d e h = cc
short-step AClose d e h = cc

-- where a line is due, the last turn says of none that it is too long
short-due : (ts : List Turn) → due ts ≡ LineDue → is_long_last ts ≡ true → ⊥
short-due [] e h = cc
short-due (t ∷ ts) e h = short-step t.step t.entry.decision e h

idle-by : (b c : Bool) (x : Due) → b ≡ c → cond b NothingDue x ≡ cond c NothingDue x
idle-by b c x e = ap (λ (b : Bool). cond b NothingDue x) e

-- behind a look at the idle time nothing is due where that ended the session, and else a look at the slot
pub idle-over : (d : Decision) → is_end d ≡ true → due_by AnIdleTick d ≡ NothingDue
idle-over d e = idle-by (is_end d) true SlotTickDue e

pub idle-due : (d : Decision) → is_end d ≡ false → due_by AnIdleTick d ≡ SlotTickDue
idle-due d e = idle-by (is_end d) false SlotTickDue e

-- such looks may come: where a line is due and the control cannot be read at any time, and behind that
pub idle-may : (g : Ground) (state : ControlSession) (rest : List ℕ) → g.start.ready ≡ false → MayStep g state LineDue AnIdleTick (kind.IdleTick state.session) rest
idle-may g state rest waits = record { comes = λ h knows. (waits, ap (λ (n : ℕ). kind.IdleTick n) knows.session); unheard = refl; long = λ h. cc }

pub slot-may : (g : Ground) (state : ControlSession) (rest : List ℕ) → MayStep g state SlotTickDue ASlotTick (kind.SlotTick state.session) rest
slot-may g state rest = record { comes = λ h knows. ap (λ (n : ℕ). kind.SlotTick n) knows.session; unheard = refl; long = λ h. cc }

-- an answer to a line that is too long may come where it stands next, and then the connection is to be closed
pub refuses-long : (g : Ground) (state : ControlSession) (kind : Result EventKind AllocError) (rest : List ℕ) → IfOk kind (λ k. k ≡ too_long state.session) → IsLong rest → MayRefuse g state ALongLine kind Close rest
refuses-long g state kind rest given long =
    (if_ok-then kind (λ k is. record { comes = λ h knows. is ∙ ap too_long knows.session; unheard = refl; long = λ h. long }) given, λ d. refl)

-- ---- the end of a session

closed-row : (v : Option Session) → is_end (option_map_or (λ (x : Session). decision.Closed) v decision.UnknownNumber) ≡ true
closed-row None = refl
closed-row (Some v) = refl

-- a close is decided as the end of the session, or as one that came before
closed-decided : (o : Options) (log : List Entry) (ev : HubEvent) (a : Answer) (s : ℕ) → ev.kind ≡ kind.Closed s → is_end (decide o log ev a) ≡ true
unfolding decide
closed-decided o log ev a s is = ap (λ (k : EventKind). is_end (decided o (past_of log) ev.at k a)) is ∙ closed-row (session o (past_of log) s)

-- a close that the desk vouches for ends the session
pub closed-ends : (o : Options) (earlier : List (ℕ × Reply)) (e : Entry) (s : ℕ) → IsVouched o earlier e → e.event.kind ≡ kind.Closed s → is_end e.decision ≡ true
closed-ends o earlier e s vouched is =
    ∥∥₁_elim vouched (Coded-set coded_bool (is_end e.decision) true) (λ v. ap (λ (x : Entry). is_end x.decision) v.due ∙ closed-decided o v.past e.event e.answer s is)

-- ---- a talk

-- the last entry ended the session
pub talk-over : (g : Ground) (state : ControlSession) (edge : EdgeView) (desk : DeskView) (sent : Option (List ℕ)) (hs : List HeardLine) (rest : List ℕ) →
    Standing NothingDue g state edge desk sent hs rest → TalkHeard g edge desk sent hs
talk-over g state edge desk sent hs rest s =
    let over = over-due (turns_of s.parted.parts) s.stands in
    record {
      rest = rest;
      parted = s.parted;
      close = None;
      ends = record {
        ended = over;
        seen = s.speaking.seen;
        grew = grew-of g desk (turns_of s.parted.parts) s.speaking.after.kept;
        vouched = s.speaking.after.vouched;
        last = λ v. over;
        share = s.speaking.after.share;
        written = s.speaking.written;
        paused = s.speaking.paused;
      };
    }

-- nothing is asked for a close, which is one of the session of the talk
pub asking-close : (g : Ground) (state : ControlSession) (edge : EdgeView) (desk : DeskView) (sent : Option (List ℕ)) (ts : List Turn) (pieces : Pieces) →
    Speaking g state edge desk sent ts pieces → Asking g state edge desk sent ts pieces (kind.Closed state.session)
asking-close g state edge desk sent ts pieces s =
    asking-plain g state edge desk sent ts pieces (kind.Closed state.session) s
    (record { named = ap Some s.known.session; drawn = λ f. tt; same = λ f. refl; missing = refl; failed = refl })

closed-kind : (g : Ground) (state : ControlSession) (ts : List Turn) (e : Entry) → Knows g state (history g ts) → e.event.kind ≡ kind.Closed state.session → e.event.kind ≡ kind.Closed g.session
closed-kind g state ts e knows is = is ∙ ap (λ (n : ℕ). kind.Closed n) knows.session

-- the connection was closed behind the lines
pub talk-closed : (g : Ground) (state0 state : ControlSession) (edge0 edge : EdgeView) (desk0 desk : DeskView) (sent0 sent : Option (List ℕ))
    (d : Due) (hs : List HeardLine) (rest : List ℕ) (d0 : Decision) (s : Standing d g state0 edge0 desk0 sent0 hs rest) →
    Spoken g state edge desk sent (turns_of s.parted.parts) (due_pieces g s.parted.parts) AClose (kind.Closed state0.session) d0 false →
    MayClose d rest →
    TalkHeard g edge desk sent hs
talk-closed g state0 state edge0 edge desk0 desk sent0 sent d hs rest d0 s spoken may =
    let close = turn_of AClose spoken.earlier spoken.entry in
    let closed = closed-kind g state0 (turns_of s.parted.parts) spoken.entry s.speaking.known spoken.kind in
    record {
      rest = rest;
      parted = s.parted;
      close = Some close;
      ends = record {
        ended = (
          record { step = refl; kind = closed; answer = spoken.answer },
          lives (turns_of s.parted.parts) d s.stands (closable-lives d rest may),
          subst (λ (x : Due). MayClose x rest) (sym s.stands) may,
        );
        seen = spoken.speaking.seen;
        grew = grew-of g desk (close ∷ (turns_of s.parted.parts)) spoken.speaking.after.kept;
        vouched = spoken.speaking.after.vouched;
        last = λ v. closed-ends g.start.desk.options spoken.earlier spoken.entry g.session (spoken.speaking.after.vouched v).0 closed;
        share = spoken.speaking.after.share;
        written = spoken.speaking.written;
        paused = spoken.speaking.paused;
      };
    }

fed-less : (g : Ground) (feed : Option Feed) (t : Turn) (ts : List Turn) → IfSome feed (λ f. AreFed g f (t ∷ ts)) → IfSome feed (λ f. AreFed g f ts)
fed-less g None t ts h = tt
fed-less g (Some f) t ts h = h.0

-- a talk that was cut short, and whose connection is not closed
left-front : (g : Ground) (state : ControlSession) (edge : EdgeView) (desk : DeskView) (sent : Option (List ℕ)) (hs : List HeardLine) (rest : List ℕ) (p : PartsBefore g hs rest) →
    Front g state edge desk sent (turns_of p.parts) (due_pieces g p.parts) → IsLeft g desk None (turns_of p.parts) → TalkFrontHeard g edge desk sent hs
left-front g state edge desk sent hs rest p f left = record {
  rest = rest;
  parted = p;
  close = None;
  ends = record { closing = left; seen = f.seen; grew = grew-of g desk (turns_of p.parts) f.after.kept; vouched = f.after.vouched; share = f.after.share; written = f.written };
}

-- the connection was to be closed, and that was cut short
pub front-halted : (g : Ground) (state0 state : ControlSession) (edge0 edge : EdgeView) (desk0 desk : DeskView) (sent0 sent : Option (List ℕ))
    (d : Due) (hs : List HeardLine) (rest : List ℕ) (s : Standing d g state0 edge0 desk0 sent0 hs rest) →
    Halted g state edge desk sent (turns_of s.parted.parts) (due_pieces g s.parted.parts) AClose (kind.Closed state0.session) false →
    MayClose d rest →
    TalkFrontHeard g edge desk sent hs
front-halted g state0 state edge0 edge desk0 desk sent0 sent d hs rest s (inl halted) may = left-front g state edge desk sent hs rest s.parted halted.0 (inr halted.1)
front-halted g state0 state edge0 edge desk0 desk sent0 sent d hs rest s (inr heard) may =
    let t = turn_of AClose heard.earlier heard.entry in
    let closed = closed-kind g state0 (turns_of s.parted.parts) heard.entry s.speaking.known heard.kind in
    let f = heard.front in
    record {
      rest = rest;
      parted = s.parted;
      close = Some t;
      ends = record {
        closing = (record { step = refl; kind = closed; answer = heard.answer }, lives (turns_of s.parted.parts) d s.stands (closable-lives d rest may));
        seen = record {
          fed = fed-less g g.start.edge.feed t (turns_of s.parted.parts) f.seen.fed;
          edge = counted-less (all_missing g (turns_of s.parted.parts)) (missing_in g (history g (turns_of s.parted.parts)) heard.entry.event.kind) g.start.edge.faults edge.faults edge.faults f.seen.edge (omega arith);
          storage = counted-less (all_failed (turns_of s.parted.parts)) (failed_in heard.entry.event.kind) g.start.desk.faults desk.faults desk.faults f.seen.storage (omega arith);
        };
        grew = grew-of g desk (t ∷ (turns_of s.parted.parts)) f.after.kept;
        vouched = f.after.vouched;
        share = f.after.share;
        written = f.written;
      };
    }

-- the session had ended where the talk was cut short
pub left-over : (g : Ground) (state : ControlSession) (edge : EdgeView) (desk : DeskView) (sent : Option (List ℕ)) (hs : List HeardLine) → IsCut g state edge desk sent hs → state.is_over ≡ true → TalkFrontHeard g edge desk sent hs
left-over g state edge desk sent hs c over = left-front g state edge desk sent hs c.rest c.parted c.front (inl (sym c.front.after.over ∙ over))

-- after the cut there was no memory for the event that closes
pub left-alone : (g : Ground) (state : ControlSession) (edge edge1 : EdgeView) (desk desk1 : DeskView) (sent : Option (List ℕ)) (hs : List HeardLine) →
    IsCut g state edge desk sent hs → edge.faults ≤ edge1.faults → edge1.paused ≡ edge.paused → SameDesk desk desk1 → HasRisen desk.refused desk1.refused → TalkFrontHeard g edge1 desk1 sent hs
left-alone g state edge edge1 desk desk1 sent hs c count still same risen =
    let f = c.front in
    let ts = turns_of c.parted.parts in
    left-front g state edge1 desk1 sent hs c.rest c.parted
    (record {
      session = f.session;
      options = same.options ∙ f.options;
      seen = record {
        fed = f.seen.fed;
        edge = counted-on (all_missing g ts) g.start.edge.faults edge.faults edge1.faults f.seen.edge count;
        storage = counted-on (all_failed ts) g.start.desk.faults desk.faults desk1.faults f.seen.storage same.count;
      };
      after = after-same g state desk desk1 ts f.after same;
      written = pieces-still g.start.sent sent g.start.edge.paused edge.paused edge1.paused (greeting_of g) (due_pieces g c.parted.parts) still f.written;
    })
    (inr (risen-on g.start.desk.refused desk.refused desk1.refused f.after.refused risen same.refused))

-- after the cut the connection was closed
pub left-closed : (g : Ground) (vouches : Bool) (state : ControlSession) (edge edge1 : EdgeView) (desk desk1 : DeskView) (sent : Option (List ℕ)) (hs : List HeardLine)
    (earlier : List (ℕ × Reply)) (e : Entry) (s : ℕ) →
    IsCut g state edge desk sent hs → state.is_over ≡ false → s ≡ state.session → g.start.vouches ≡ vouches →
    Entered vouches edge edge1 desk desk1 earlier e (kind.Closed s) →
    TalkFrontHeard g edge1 desk1 sent hs
left-closed g vouches state edge edge1 desk desk1 sent hs earlier e s c live named same n =
    let f = c.front in
    let t = turn_of AClose earlier e in
    let closed : e.event.kind ≡ kind.Closed g.session = n.kind ∙ ap (λ (n : ℕ). kind.Closed n) (named ∙ f.session) in
    record {
      rest = c.rest;
      parted = c.parted;
      close = Some t;
      ends = record {
        closing = (record { step = refl; kind = closed; answer = n.answer }, sym f.after.over ∙ live);
        seen = record {
          fed = f.seen.fed;
          edge = counted-on (all_missing g (turns_of c.parted.parts)) g.start.edge.faults edge.faults edge1.faults f.seen.edge n.taken.count;
          storage = counted-on (all_failed (turns_of c.parted.parts)) g.start.desk.faults desk.faults desk1.faults f.seen.storage n.count;
        };
        grew = grew-of g desk1 (t ∷ (turns_of c.parted.parts)) (kept-more g desk desk1 (turns_of c.parted.parts) AClose earlier e f.after.kept n.appended (ap own_session closed));
        vouched = vouched-more g vouches desk (turns_of c.parted.parts) AClose earlier e f.after.vouched same f.options n.vouched;
        share = shares-more g desk desk1 (turns_of c.parted.parts) AClose earlier e f.after.share n.share;
        written = pieces-longer g.start.sent sent g.start.edge.paused edge1.paused (greeting_of g) (due_pieces g c.parted.parts) (turn_pieces g t)
            (pieces-still g.start.sent sent g.start.edge.paused edge.paused edge1.paused (greeting_of g) (due_pieces g c.parted.parts) n.unpaused f.written);
      };
    }

-- a fault of a write, or want of memory
pub ends-front : (f : Halt) (g : Ground) (edge : EdgeView) (desk : DeskView) (sent : Option (List ℕ)) (hs : List HeardLine) → TalkFrontHeard g edge desk sent hs → OutcomeHeard (end_by f) g edge desk sent hs
ends-front Fault g edge desk sent hs h = h
ends-front Memory g edge desk sent hs h = h
ends-front Exhausted g edge desk sent hs h = h

-- ---- the input

-- what was read moves on: a line from what is held, or nothing
read-on : (o : Option (List ℕ)) (a line held held1 rest : List ℕ) (left left1 : Option (List ℕ)) →
    IsInput o (a ++ rest) →
    IfSome o (λ all. Rest held left rest) →
    IfSome left (λ l. Rest (line ++ held1) left1 (held ++ l)) →
    (rest1 : List ℕ) × IsInput o (a ++ (line ++ rest1)) × IfSome o (λ all. Rest held1 left1 rest1)
read-on None a line held held1 rest left left1 input read told = (held1, tt, tt)
read-on (Some all) a line held held1 rest None left1 input read told = absurd read
read-on (Some all) a line held held1 rest (Some l) None input read told = absurd told
read-on (Some all) a line held held1 rest (Some l) (Some l1) input read told = (
  held1 ++ l1,
  ap (λ (x : List ℕ). a ++ x) (sym (append_assoc line held1 l1) ∙ told ∙ read) ∙ input,
  refl,
)

-- the control says the same of what was sent
pub talking-sent : (g : Ground) (state : ControlSession) (edge : EdgeView) (desk : DeskView) (sent sent1 : Option (List ℕ)) (hs : List HeardLine) (held : List ℕ) (left : Option (List ℕ)) →
    sent1 ≡ sent → Talking g state edge desk sent hs held left → Talking g state edge desk sent1 hs held left
talking-sent g state edge desk sent sent1 hs held left same t = subst (λ (o : Option (List ℕ)). Talking g state edge desk o hs held left) (sym same) t

-- where a line is due, it is so before any rest of the input
standing-before : (g : Ground) (state : ControlSession) (edge : EdgeView) (desk : DeskView) (sent : Option (List ℕ)) (hs : List HeardLine) (rest rest1 : List ℕ) (s : Standing LineDue g state edge desk sent hs rest) →
    IsInput g.start.input (lines_in (turns_of s.parted.parts) ++ rest1) → Standing LineDue g state edge desk sent hs rest1
standing-before g state edge desk sent hs rest rest1 s input = record {
  parted = record { parts = s.parted.parts; cut = input; ruled = s.parted.ruled; heard = s.parted.heard; long = λ h. absurd (short-due (turns_of s.parted.parts) s.stands h) };
  speaking = s.speaking;
  stands = s.stands;
}

-- a line was found, or nothing: it stands before the rest
pub standing-line : (g : Ground) (state : ControlSession) (edge : EdgeView) (desk : DeskView) (sent sent1 : Option (List ℕ)) (hs : List HeardLine) (line held held1 : List ℕ) (left left1 : Option (List ℕ)) →
    sent1 ≡ sent → Talking g state edge desk sent hs held left →
    IfSome left (λ l. Rest (line ++ held1) left1 (held ++ l)) →
    (rest1 : List ℕ) × Standing LineDue g state edge desk sent1 hs (line ++ rest1) × IfSome g.start.input (λ all. Rest held1 left1 rest1)
standing-line g state edge desk sent sent1 hs line held held1 left left1 same before told =
    let t = talking-sent g state edge desk sent sent1 hs held left same before in
    let s = t.standing in
    let r = read-on g.start.input (lines_in (turns_of s.parted.parts)) line held held1 t.rest left left1 s.parted.cut t.read told in (
      r.0,
      standing-before g state edge desk sent1 hs t.rest (line ++ r.0) s r.1,
      r.2,
    )

-- what is held shows how the input goes on
read-shown : (o : Option (List ℕ)) (a held held1 rest : List ℕ) (left left1 : Option (List ℕ)) (P : List ℕ → Type 0) →
    IsInput o (a ++ rest) →
    IfSome o (λ all. Rest held left rest) →
    IfSome left (λ l. Rest held1 left1 (held ++ l)) →
    P held1 →
    ((l more : List ℕ) → left ≡ Some l → left1 ≡ Some more → P (held1 ++ more)) →
    (rest1 : List ℕ) × IsInput o (a ++ rest1) × P rest1 × IfSome o (λ all. Rest held1 left1 rest1)
read-shown None a held held1 rest left left1 P input read told alone more = (held1, tt, alone, tt)
read-shown (Some all) a held held1 rest None left1 P input read told alone more = absurd read
read-shown (Some all) a held held1 rest (Some l) None P input read told alone more = absurd told
read-shown (Some all) a held held1 rest (Some l) (Some l1) P input read told alone more = (
  held1 ++ l1,
  ap (λ (x : List ℕ). a ++ x) (told ∙ read) ∙ input,
  more l l1 refl refl,
  refl,
)

-- what is held shows of the rest that it is too long, or that no line is left
standing-shown : (g : Ground) (state : ControlSession) (edge : EdgeView) (desk : DeskView) (sent : Option (List ℕ)) (hs : List HeardLine) (held held1 : List ℕ) (left left1 : Option (List ℕ)) (P : List ℕ → Type 0) →
    Talking g state edge desk sent hs held left →
    IfSome left (λ l. Rest held1 left1 (held ++ l)) →
    P held1 →
    ((l more : List ℕ) → left ≡ Some l → left1 ≡ Some more → P (held1 ++ more)) →
    (rest1 : List ℕ) × Standing LineDue g state edge desk sent hs rest1 × P rest1 × IfSome g.start.input (λ all. Rest held1 left1 rest1)
standing-shown g state edge desk sent hs held held1 left left1 P t told alone more =
    let s = t.standing in
    let r = read-shown g.start.input (lines_in (turns_of s.parted.parts)) held held1 t.rest left left1 P s.parted.cut t.read told alone more in (
      r.0,
      standing-before g state edge desk sent hs t.rest r.0 s r.1,
      r.2,
      r.3,
    )

-- a line that is too long stands next
pub standing-long : (g : Ground) (state : ControlSession) (edge : EdgeView) (desk : DeskView) (sent sent1 : Option (List ℕ)) (hs : List HeardLine) (held held1 : List ℕ) (left left1 : Option (List ℕ)) →
    sent1 ≡ sent → Talking g state edge desk sent hs held left →
    IfSome left (λ l. Rest held1 left1 (held ++ l)) →
    IsLong held1 →
    (rest1 : List ℕ) × Standing LineDue g state edge desk sent1 hs rest1 × IsLong rest1 × IfSome g.start.input (λ all. Rest held1 left1 rest1)
standing-long g state edge desk sent sent1 hs held held1 left left1 same t told long =
    standing-shown g state edge desk sent1 hs held held1 left left1 IsLong (talking-sent g state edge desk sent sent1 hs held left same t) told long (λ l more isl is. long-append held1 more long)

ended-none : (left left1 : Option (List ℕ)) (held l more : List ℕ) → IfSome left (λ l. left1 ≡ Some []) → RanOut held → left ≡ Some l → left1 ≡ Some more → RanOut (held ++ more)
ended-none left left1 held l more end out isl is =
    let e = subst (λ (o : Option (List ℕ)). IfSome o (λ l. left1 ≡ Some [])) isl end in
    let none : more ≡ [] = ap (λ (o : Option (List ℕ)). unwrap_or o []) (sym is ∙ e) in
    subst RanOut (sym (append-nil held) ∙ ap (λ (x : List ℕ). held ++ x) (sym none)) out

-- no line is left
pub standing-out : (g : Ground) (state : ControlSession) (edge : EdgeView) (desk : DeskView) (sent sent1 : Option (List ℕ)) (hs : List HeardLine) (held held1 : List ℕ) (left left1 : Option (List ℕ)) →
    sent1 ≡ sent → Talking g state edge desk sent hs held left →
    IfSome left (λ l. Rest held1 left1 (held ++ l)) →
    IfSome left (λ l. left1 ≡ Some []) →
    RanOut held1 →
    (rest1 : List ℕ) × Standing LineDue g state edge desk sent1 hs rest1 × RanOut rest1 × IfSome g.start.input (λ all. Rest held1 left1 rest1)
standing-out g state edge desk sent sent1 hs held held1 left left1 same t told end out =
    standing-shown g state edge desk sent1 hs held held1 left left1 RanOut (talking-sent g state edge desk sent sent1 hs held left same t) told out (λ l more isl is. ended-none left left1 held1 l more end out isl is)

-- a line that was found stands in the buffer
pub found-within : (buffer : List ℕ) (x : Got) (held : List ℕ) → IsFound buffer x held → IsLineWithin buffer x
found-within buffer (got.Line span) held found = found.0
found-within buffer _ held found = tt

-- what was got stands before the rest, and it may come there
pub standing-got : (g : Ground) (state : ControlSession) (edge : EdgeView) (desk : DeskView) (sent sent1 : Option (List ℕ)) (hs : List HeardLine) (buffer : List ℕ) (x : Got) (always : Bool) (held held1 : List ℕ) (left left1 : Option (List ℕ)) →
    sent1 ≡ sent → Talking g state edge desk sent hs held left →
    IfSome left (λ l. Rest (line_in buffer x ++ held1) left1 (held ++ l)) →
    IsFound buffer x held1 →
    (always ≡ true → x ≢ got.Wait) →
    (rest1 : List ℕ) × Standing LineDue g state edge desk sent1 hs (line_in buffer x ++ rest1) × IsGot always buffer x rest1 × IfSome g.start.input (λ all. Rest held1 left1 rest1)
standing-got g state edge desk sent sent1 hs buffer got.Long always held held1 left left1 same t told found waits =
    standing-long g state edge desk sent sent1 hs held held1 left left1 same t told found
standing-got g state edge desk sent sent1 hs buffer (got.Line span) always held held1 left left1 same t told found waits =
    let r = standing-line g state edge desk sent sent1 hs (bytes_in buffer span) held held1 left left1 same t told in (r.0, r.1, found.1, r.2)
standing-got g state edge desk sent sent1 hs buffer got.Wait always held held1 left left1 same t told found waits =
    let r = standing-line g state edge desk sent sent1 hs [] held held1 left left1 same t told in (r.0, r.1, waits_so always got.Wait got.Wait refl waits, r.2)
standing-got g state edge desk sent sent1 hs buffer _ always held held1 left left1 same t told found waits =
    let r = standing-line g state edge desk sent sent1 hs [] held held1 left left1 same t told in (r.0, r.1, tt, r.2)

-- a line is due again
pub talking-on : (g : Ground) (state : ControlSession) (edge : EdgeView) (desk : DeskView) (sent : Option (List ℕ)) (hs : List HeardLine) (held rest : List ℕ) (left left1 : Option (List ℕ)) →
    Standing LineDue g state edge desk sent hs rest → IfSome g.start.input (λ all. Rest held left rest) → left1 ≡ left → Talking g state edge desk sent hs held left1
talking-on g state edge desk sent hs held rest left left1 s read same =
    record { rest = rest; standing = s; read = subst (λ (o : Option (List ℕ)). IfSome g.start.input (λ all. Rest held o rest)) (sym same) read }
