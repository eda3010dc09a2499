-- A step and its entry.
use Rattle.std.proofs.Common.{◌≡◌, ℕ, Bool, true, false, cond, List, [], ◌∷◌, ◌++◌, Option, Some, None, refl, sym, ap, subst, ◌∙◌, append_assoc, arith, inl, inr}
use Rattle.std.specs.Prelude.{unwrap_or, IfOk, IfSome, Result, Ok, Err, IsErr}
use Rattle.std.specs.declared.alloc.AllocError.{AllocError}
use Rattle.ftp_base.specs.declared.message.ControlChanMsg.{ControlChanMsg}
use Rattle.ftp_base.specs.declared.reply.Reply.{Reply}
use Rattle.ftp_base.specs.declared.login.AuthAnswer.{AuthAnswer}
use Rattle.ftp_base.specs.declared.net.IpAddr.{IpAddr}
use Rattle.ftp_base.specs.Edge.{Feed, EdgeView, IsCounted}
use Rattle.ftp_events.specs.declared.decision.Decision.{Decision}
use Rattle.ftp_events.specs.declared.decision.Decision.TheVariants as decision
use Rattle.ftp_events.specs.declared.entry.Entry.{Entry}
use Rattle.ftp_events.specs.declared.event.Answer.TheVariants as answer
use Rattle.ftp_events.specs.declared.event.EventKind.{EventKind}
use Rattle.ftp_events.specs.declared.event.EventKind.TheVariants as kind
use Rattle.ftp_events.specs.Login.{user_name}
use Rattle.ftp_shared.specs.Outbox.{own_session}
use Rattle.ftp_control.specs.declared.command.Command.{Command}
use Rattle.ftp_control.specs.declared.command.Command.TheVariants as command
use Rattle.ftp_control.specs.declared.line.LineError.{LineError}
use Rattle.ftp_control.specs.declared.line.LineError.TheVariants as error
use Rattle.ftp_control.specs.Line.{parsed}
use Rattle.ftp_shared.specs.Desk.{DeskView, SameDesk, RisesBy}
use Rattle.ftp_control.specs.ControlLine.{IsLine, IsLong}
use Rattle.ftp_talk.specs.declared.control_session.ControlSession.{ControlSession}
use Rattle.ftp_talk.specs.declared.halt.Halt.{Halt}
use Rattle.ftp_talk.specs.declared.serving.Next.{Next}
use Rattle.ftp_talk.specs.declared.serving.Next.TheVariants as next
use Rattle.ftp_talk.specs.Ground.{Step, ALine, AnAnswer, AnIdleTick, ASlotTick, ALongLine, Turn, Ground, history, line_of, lines_in}
use Rattle.ftp_talk.specs.Commands.{Gives, GivenBy, refused_as}
use Rattle.ftp_talk.specs.Turns.{Due, LineDue, NothingDue, AnswerDue, SlotTickDue, is_end, due, due_by, due_behind, Comes}
use Rattle.ftp_talk.specs.Seen.{IsDrawn, behind_kind, missing_in, failed_in, feed_after, all_missing, all_failed}
use Rattle.ftp_extras.specs.Extra.{gives_password}
use Rattle.ftp_talk.specs.Parts.{HeardLine, turns_of, with_heard, is_heard_line, is_heard_step, ComesWith, due_pieces}
use Rattle.ftp_talk.specs.Pieces.{Pieces, piece_delays}
use Rattle.ftp_talk.specs.Saying.{IsPaused}
use Rattle.ftp_talk.specs.Extended.{PartsBefore}
use Rattle.ftp_talk.specs.Talk.{IsInput, is_long}
use Rattle.ftp_talk.specs.Serving.{is_out, next_of}
use Rattle.ftp_talk.specs.Speaking.{Knows, IsGround, SameEdge, Speaking, Asked, Asking, IsSpoken, Standing, IsCut, MayStep, MayRefuse, StandsBehind, due_at, turn_of}
use Rattle.ftp_talk.proofs.ResultLemmas.{if_ok-then}
use Rattle.ftp_talk.proofs.TalkLemmas.{after-same, counted-more, front-same}

-- what is there is what is told
pub told_self : {T : Type 0} {P : T → Type 0} (o : Option T) → ((x : T) → o ≡ Some x → P x) → IfSome o P
told_self None f = tt
told_self (Some x) f = f x refl

pub same_edge : (edge : EdgeView) → SameEdge edge edge
same_edge edge = record { meaning = refl; count = omega arith; paused = refl }

rises-self : (share : Option ℕ) → RisesBy 0 share share
rises-self None = tt
rises-self (Some n) = (n, refl, omega arith)

pub same_desk : (desk : DeskView) → SameDesk desk desk
same_desk desk = record {
  options = refl;
  files = refl;
  count = omega arith;
  refused = omega arith;
  journal = refl;
  outbox = λ s. refl;
  share = rises-self desk.share;
}

-- ---- asking

feed-on : (g : Ground) (feed0 feed feed1 : Option Feed) (ts : List Turn) (k : EventKind) →
    IfSome feed0 (λ f. feed ≡ Some (feed_after g f ts)) →
    IfSome feed (λ f. IsDrawn g (history g ts) k f × (feed1 ≡ Some (behind_kind g (history g ts) k f))) →
    IfSome feed0 (λ f. IsDrawn g (history g ts) k (feed_after g f ts) × (feed1 ≡ Some (behind_kind g (history g ts) k (feed_after g f ts))))
feed-on g None feed feed1 ts k now drawn = tt
feed-on g (Some f) feed feed1 ts k now drawn =
    subst (λ (o : Option Feed). IfSome o (λ f. IsDrawn g (history g ts) k f × (feed1 ≡ Some (behind_kind g (history g ts) k f)))) now drawn

journal-on : (o new old : Option (List Entry)) (h : List Entry) → new ≡ old → IfSome o (λ J. old ≡ Some (h ++ J)) → IfSome o (λ J. new ≡ Some (h ++ J))
journal-on None new old h same is = tt
journal-on (Some J) new old h same is = same ∙ is

pub ground-same : (g : Ground) (h : List Entry) (edge edge1 : EdgeView) (desk desk1 : DeskView) → IsGround g h edge desk → SameEdge edge edge1 → SameDesk desk desk1 → IsGround g h edge1 desk1
ground-same g h edge edge1 desk desk1 is edges desks =
    record {
      meaning = edges.meaning ∙ is.meaning;
      options = desks.options ∙ is.options;
      files = desks.files ∙ is.files;
      journal = journal-on g.start.desk.journal desk1.journal desk.journal h desks.journal is.journal;
    }

-- what was asked for an event, behind turns that were spoken
asking-from : (g : Ground) (state : ControlSession) (edge edge1 : EdgeView) (desk desk1 : DeskView) (sent : Option (List ℕ)) (ts : List Turn) (pieces : Pieces) (k : EventKind) →
    Speaking g state edge desk sent ts pieces →
    own_session k ≡ Some g.session →
    IfSome edge.feed (λ f. IsDrawn g (history g ts) k f × (edge1.feed ≡ Some (behind_kind g (history g ts) k f))) →
    IsCounted (missing_in g (history g ts) k) edge.faults edge1.faults →
    IsCounted (failed_in k) desk.faults desk1.faults →
    SameEdge edge edge1 →
    SameDesk desk desk1 →
    Asking g state edge1 desk1 sent ts pieces k
asking-from g state edge edge1 desk desk1 sent ts pieces k s named drawn missing failed edges desks =
    record {
      named = named;
      fed = s.seen.fed;
      feed = feed-on g g.start.edge.feed edge.feed edge1.feed ts k s.feed drawn;
      missing = counted-more (all_missing g ts) (missing_in g (history g ts) k) g.start.edge.faults edge.faults edge1.faults s.seen.edge missing edges.count;
      failed = counted-more (all_failed ts) (failed_in k) g.start.desk.faults desk.faults desk1.faults s.seen.storage failed desks.count;
      known = s.known;
      ground = ground-same g (history g ts) edge edge1 desk desk1 s.ground edges desks;
      after = after-same g state desk desk1 ts s.after desks;
      written = s.written;
      paused = subst (IsPaused (piece_delays pieces) g.start.edge.paused) (sym edges.paused) s.paused;
    }

-- an event for which nothing is asked
pub record AsksNothing (g : Ground) (h : List Entry) (k : EventKind) : Type 0 where
  pub named : own_session k ≡ Some g.session
  pub drawn : (f : Feed) → IsDrawn g h k f
  pub same : (f : Feed) → behind_kind g h k f ≡ f
  pub missing : missing_in g h k ≡ 0
  pub failed : failed_in k ≡ 0

pub asking-plain : (g : Ground) (state : ControlSession) (edge : EdgeView) (desk : DeskView) (sent : Option (List ℕ)) (ts : List Turn) (pieces : Pieces) (k : EventKind) →
    Speaking g state edge desk sent ts pieces → AsksNothing g (history g ts) k → Asking g state edge desk sent ts pieces k
asking-plain g state edge desk sent ts pieces k s a =
    asking-from g state edge edge desk desk sent ts pieces k s a.named
    (told_self edge.feed (λ f is. (a.drawn f, is ∙ ap Some (sym (a.same f)))))
    (λ lt. omega (arith, a.missing)) (λ lt. omega (arith, a.failed)) (same_edge edge) (same_desk desk)

-- for a message of the control layer nothing is asked
pub told-plain : (g : Ground) (h : List Entry) (m : ControlChanMsg) (k : EventKind) → k ≡ kind.Internal g.session m → AsksNothing g h k
told-plain g h m k is = subst (AsksNothing g h) (sym is) (record { named = refl; drawn = λ f. tt; same = λ f. refl; missing = refl; failed = refl })

-- nor for the answer to a line that is refused
pub refused-plain : (g : Ground) (h : List Entry) (e : LineError) (k : EventKind) → k ≡ refused_as g.session e → AsksNothing g h k
refused-plain g h error.Utf8 k is = told-plain g h _ k is
refused-plain g h error.InvalidEol k is = told-plain g h _ k is
refused-plain g h error.InvalidCommand k is = told-plain g h _ k is
refused-plain g h error.OutOfMemory k is = told-plain g h _ k is

-- nor for that to a password
unheard-plain : (g : Ground) (h : List Entry) (r : Result Command LineError) (k : EventKind) → GivenBy g h r k → is_heard_line r ≡ false → AsksNothing g h k
unheard-plain g h (Ok (command.Pass password)) k is unheard = subst (AsksNothing g h) (sym is) (record { named = refl; drawn = λ f. tt; same = λ f. refl; missing = refl; failed = refl })
unheard-plain g h (Ok c) k is unheard = cc
unheard-plain g h (Err e) k is unheard = refused-plain g h e k is

-- nor for any other step on which no line is heard
step-plain : (g : Ground) (h : List Entry) (old : Due) (step : Step) (k : EventKind) → Comes g h old step k → is_heard_step step ≡ false → AsksNothing g h k
step-plain g h LineDue (ALine line) k comes unheard = unheard-plain g h (parsed line) k comes.1 unheard
step-plain g h LineDue AnIdleTick k comes unheard = subst (AsksNothing g h) (sym comes.1) (record { named = refl; drawn = λ f. tt; same = λ f. refl; missing = refl; failed = refl })
step-plain g h LineDue ALongLine k comes unheard = told-plain g h _ k comes
step-plain g h (AnswerDue password) AnAnswer k comes unheard = subst (AsksNothing g h) (sym comes.1) (record { named = refl; drawn = λ f. tt; same = λ f. refl; missing = refl; failed = refl })
step-plain g h SlotTickDue ASlotTick k comes unheard = subst (AsksNothing g h) (sym comes) (record { named = refl; drawn = λ f. tt; same = λ f. refl; missing = refl; failed = refl })
step-plain g h _ _ k comes unheard = absurd comes

-- an event of a line is one of the session of the talk
own-of : (g : Ground) (h : List Entry) (c : Command) (k : EventKind) → Gives g h c k → own_session k ≡ Some g.session
own-of g h (command.User name) k e = ap own_session e
own-of g h (command.Pass password) k e = ap own_session e
own-of g h (command.Cwd path) k e = ap own_session e.1
own-of g h (command.Port text) k e = ap own_session e.1
own-of g h (command.Data c) k e = ap own_session e
own-of g h (command.Rest offset) k e = ap own_session e
own-of g h command.Pasv k e = ap own_session e.3
own-of g h command.Stou k e = ap own_session e.1
own-of g h command.Abor k e = ap own_session e
own-of g h command.Quit k e = ap own_session e
own-of g h command.Noop k e = ap own_session e
own-of g h command.TypeCmd k e = ap own_session e
own-of g h (command.Other word) k e = ap own_session e

-- what was asked for a command
pub asking-asked : (g : Ground) (state : ControlSession) (edge edge1 : EdgeView) (desk desk1 : DeskView) (sent : Option (List ℕ)) (ts : List Turn) (pieces : Pieces) (c : Command) (k : EventKind) →
    Speaking g state edge desk sent ts pieces → Asked g (history g ts) c k edge edge1 desk.faults desk1.faults → SameEdge edge edge1 → SameDesk desk desk1 → Asking g state edge1 desk1 sent ts pieces k
asking-asked g state edge edge1 desk desk1 sent ts pieces c k s asked edges desks =
    asking-from g state edge edge1 desk desk1 sent ts pieces k s (own-of g (history g ts) c k asked.gives) asked.feed asked.edge asked.storage edges desks

-- ---- what is due

-- behind a decision nothing is due where it ends the session
pub next-due : (d : Decision) (x : Due) (on : Next) → x ≡ due_at on → cond (is_end d) NothingDue x ≡ due_at (next_of d on)
next-due d x on e = due_if (is_end d) where
  due_if : (b : Bool) → cond b NothingDue x ≡ due_at (cond b next.Over on)
  due_if true = refl
  due_if false = e

-- behind a command that gives no password a line is due
pub command-due : (c : Command) (d : Decision) → gives_password c ≡ false → due_behind (Ok c) d ≡ LineDue
command-due (command.Pass p) d h = cc
command-due (command.User p) d h = refl
command-due (command.Cwd p) d h = refl
command-due (command.Port p) d h = refl
command-due (command.Data p) d h = refl
command-due (command.Rest p) d h = refl
command-due command.Pasv d h = refl
command-due command.Stou d h = refl
command-due command.Abor d h = refl
command-due command.Quit d h = refl
command-due command.Noop d h = refl
command-due command.TypeCmd d h = refl
command-due (command.Other p) d h = refl

-- behind a password that is not out a line is due
pub not-out : (p : _) (d : Decision) → is_out d ≡ false → due_behind (Ok (command.Pass p)) d ≡ LineDue
not-out p decision.PassOut h = cc
not-out p _ h = refl

-- behind a password that is out the answer is due
pub out-due : (line : List ℕ) (p : _) (d : Decision) → parsed line ≡ Ok (command.Pass p) → is_out d ≡ true → due_by (ALine line) d ≡ AnswerDue p.0
out-due line p decision.PassOut same h = ap (λ (r : Result Command LineError). due_behind r decision.PassOut) same
out-due line p _ same h = cc

-- what is due behind a line, by what was read of it
pub line-due : (line : List ℕ) (r : Result Command LineError) (d : Decision) (on : Next) → parsed line ≡ r → due_behind r d ≡ due_at on → due_by (ALine line) d ≡ due_at (next_of d on)
line-due line r d on same e = next-due d (due_behind (parsed line) d) on (ap (λ (x : Result Command LineError). due_behind x d) same ∙ e)

-- ---- standing

-- an event comes of a step where what is due, and its kind, are the same
comes-same : (g : Ground) (h : List Entry) (old new : Due) (step : Step) (k j : EventKind) → new ≡ old → j ≡ k → Comes g h old step k → Comes g h new step j
comes-same g h old new step k j stands is comes =
    subst (λ (x : EventKind). Comes g h new step x) (sym is) (subst (λ (x : Due). Comes g h x step k) (sym stands) comes)

-- one part more
abbrev pub parted-more : (g : Ground) (x : Option HeardLine) (t : Turn) (hs : List HeardLine) (rest : List ℕ) (p : PartsBefore g hs (line_of t.step ++ rest)) →
    ComesWith g (turns_of p.parts) x t → t.entry.answer ≡ answer.None → (is_long t.step ≡ true → IsLong rest) → PartsBefore g (with_heard x hs) rest
parted-more g x t hs rest p comes answer long =
    record {
      parts = record { turn = t; heard = x } ∷ p.parts;
      cut = subst (IsInput g.start.input) (sym (append_assoc (lines_in (turns_of p.parts)) (line_of t.step) rest)) p.cut;
      ruled = (p.ruled, comes, answer);
      heard = ap (with_heard x) p.heard;
      long = long;
    }

-- a step more, on which no line is heard
abbrev step-parted : (g : Ground) (state : ControlSession) (edge : EdgeView) (desk : DeskView) (sent : Option (List ℕ)) (old : Due) (step : Step) (k : EventKind) (hs : List HeardLine) (rest : List ℕ)
    (earlier : List (ℕ × Reply)) (e : Entry) →
    Standing old g state edge desk sent hs (line_of step ++ rest) → MayStep g state old step k rest → e.event.kind ≡ k → e.answer ≡ answer.None → PartsBefore g hs rest
step-parted g state edge desk sent old step k hs rest earlier e s may is answer =
    let ts = turns_of s.parted.parts in
    let comes = comes-same g (history g ts) old (due ts) step k e.event.kind s.stands is (may.comes (history g ts) s.speaking.known) in
    parted-more g None (turn_of step earlier e) hs rest s.parted (comes, may.unheard) answer may.long

-- it was taken behind parts, or cut short
step-served : (g : Ground) (state0 state : ControlSession) (edge0 edge : EdgeView) (desk0 desk : DeskView) (sent0 sent : Option (List ℕ))
    (old : Due) (step : Step) (k : EventKind) (r : Result Decision Halt) (hs : List HeardLine) (rest : List ℕ)
    (s : Standing old g state0 edge0 desk0 sent0 hs (line_of step ++ rest)) →
    MayStep g state0 old step k rest →
    IsSpoken r g state edge desk sent (turns_of s.parted.parts) (due_pieces g s.parted.parts) step k false →
    StandsBehind (due_by step) r g state edge desk sent hs rest
step-served g state0 state edge0 edge desk0 desk sent0 sent old step k (Ok d) hs rest s may spoken = record {
  parted = step-parted g state0 edge0 desk0 sent0 old step k hs rest spoken.earlier spoken.entry s may spoken.kind spoken.answer;
  speaking = spoken.speaking;
  stands = ap (due_by step) spoken.decision;
}
step-served g state0 state edge0 edge desk0 desk sent0 sent old step k (Err e) hs rest s may (inl halted) =
    record { rest = line_of step ++ rest; parted = s.parted; front = halted.0 }
step-served g state0 state edge0 edge desk0 desk sent0 sent old step k (Err e) hs rest s may (inr heard) = record {
  rest = rest;
  parted = step-parted g state0 edge0 desk0 sent0 old step k hs rest heard.earlier heard.entry s may heard.kind heard.answer;
  front = heard.front;
}

-- nothing is asked for it
asking-step : (g : Ground) (state : ControlSession) (edge : EdgeView) (desk : DeskView) (sent : Option (List ℕ)) (ts : List Turn) (pieces : Pieces) (old : Due) (step : Step) (k : EventKind) (rest : List ℕ) →
    Speaking g state edge desk sent ts pieces → MayStep g state old step k rest → Asking g state edge desk sent ts pieces k
asking-step g state edge desk sent ts pieces old step k rest s may =
    asking-plain g state edge desk sent ts pieces k s (step-plain g (history g ts) old step k (may.comes (history g ts) s.known) may.unheard)

-- so where its event was submitted, and what is due on it said, a part more stands, or it was cut short
pub step-taken : (g : Ground) (vouches : Bool) (state0 state : ControlSession) (edge0 edge : EdgeView) (desk0 desk : DeskView) (sent0 sent : Option (List ℕ))
    (old : Due) (step : Step) (k : EventKind) (r : Result Decision Halt) (hs : List HeardLine) (rest : List ℕ) →
    ((q : Ground) (ts : List Turn) (pieces : Pieces) (step : Step) → q.start.vouches ≡ vouches →
    Asking q state0 edge0 desk0 sent0 ts pieces k → IsSpoken r q state edge desk sent ts pieces step k false) →
    g.start.vouches ≡ vouches → Standing old g state0 edge0 desk0 sent0 hs (line_of step ++ rest) → MayStep g state0 old step k rest →
    StandsBehind (due_by step) r g state edge desk sent hs rest
step-taken g vouches state0 state edge0 edge desk0 desk sent0 sent old step k r hs rest spoke same s may =
    let ts = turns_of s.parted.parts in
    let pieces = due_pieces g s.parted.parts in
    step-served g state0 state edge0 edge desk0 desk sent0 sent old step k r hs rest s may
    (spoke g ts pieces step same (asking-step g state0 edge0 desk0 sent0 ts pieces old step k rest s.speaking may))

-- parts that stand are cut where nothing was submitted since
pub cut-standing : (g : Ground) (state : ControlSession) (edge edge1 : EdgeView) (desk desk1 : DeskView) (sent : Option (List ℕ)) (d : Due) (hs : List HeardLine) (rest : List ℕ) →
    Standing d g state edge desk sent hs rest → SameEdge edge edge1 → SameDesk desk desk1 → IsCut g state edge1 desk1 sent hs
cut-standing g state edge edge1 desk desk1 sent d hs rest s edges desks =
    record {
      rest = rest;
      parted = s.parted;
      front = front-same g state edge edge1 desk desk1 sent (turns_of s.parted.parts) (due_pieces g s.parted.parts) s.speaking edges.count edges.paused desks;
    }

pub cut-here : (g : Ground) (state : ControlSession) (edge : EdgeView) (desk : DeskView) (sent : Option (List ℕ)) (d : Due) (hs : List HeardLine) (rest : List ℕ) →
    Standing d g state edge desk sent hs rest → IsCut g state edge desk sent hs
cut-here g state edge desk sent d hs rest s = cut-standing g state edge edge desk desk sent d hs rest s (same_edge edge) (same_desk desk)

-- what stands, stands where the same is due
pub standing-due : (g : Ground) (state : ControlSession) (edge : EdgeView) (desk : DeskView) (sent : Option (List ℕ)) (hs : List HeardLine) (rest : List ℕ) (d e : Due) →
    d ≡ e → Standing d g state edge desk sent hs rest → Standing e g state edge desk sent hs rest
standing-due g state edge desk sent hs rest d e same s = subst (λ (x : Due). Standing x g state edge desk sent hs rest) same s

-- at an error it was cut short
pub served-err : {T : Type 0} (due_by : T → Due) (r : Result T Halt) (g : Ground) (state : ControlSession) (edge : EdgeView) (desk : DeskView) (sent : Option (List ℕ)) (hs : List HeardLine) (rest : List ℕ) →
    IsErr r → IsCut g state edge desk sent hs → StandsBehind due_by r g state edge desk sent hs rest
served-err due_by (Ok x) g state edge desk sent hs rest err cut = cc
served-err due_by (Err e) g state edge desk sent hs rest err cut = cut

-- ---- what may come

-- the answer to a line that is refused and not heard
refused-may : (g : Ground) (state : ControlSession) (line : List ℕ) (e : LineError) (k : EventKind) (rest : List ℕ) →
    IsLine line → parsed line ≡ Err e → is_heard_line (Err e) ≡ false → k ≡ refused_as state.session e → MayStep g state LineDue (ALine line) k rest
refused-may g state line e k rest is_line same unheard is = record {
  comes = λ h knows. (is_line, subst (λ (r : Result Command LineError). GivenBy g h r k) (sym same) (is ∙ ap (λ (n : ℕ). refused_as n e) knows.session));
  unheard = ap is_heard_line same ∙ unheard;
  long = λ h. cc;
}

-- what `refuse` asks of such a line
pub refuses : (g : Ground) (state : ControlSession) (line : List ℕ) (e : LineError) (on : Next) (kind : Result EventKind AllocError) (rest : List ℕ) →
    IsLine line → parsed line ≡ Err e → is_heard_line (Err e) ≡ false → ((d : Decision) → due_behind (Err e) d ≡ due_at on) → IfOk kind (λ k. k ≡ refused_as state.session e) →
    MayRefuse g state (ALine line) kind on rest
refuses g state line e on kind rest is_line same unheard due given = (
  if_ok-then kind (λ k is. refused-may g state line e k rest is_line same unheard is) given,
  λ d. ap (λ (r : Result Command LineError). due_behind r d) same ∙ due d,
)

-- a password
pub password-may : (g : Ground) (state : ControlSession) (line : List ℕ) (p : _) (rest : List ℕ) → IsLine line → parsed line ≡ Ok (command.Pass p) → MayStep g state LineDue (ALine line) (kind.Pass state.session) rest
password-may g state line p rest is_line same = record {
  comes = λ h knows. (is_line, subst (λ (r : Result Command LineError). GivenBy g h r (kind.Pass state.session)) (sym same) (ap (λ (n : ℕ). kind.Pass n) knows.session));
  unheard = ap is_heard_line same;
  long = λ h. cc;
}

-- an answer on what the state knows is one on what the entries tell
may_be : (g : Ground) (state : ControlSession) (h : List Entry) (may : List ℕ → List ℕ → IpAddr → AuthAnswer → Bool) (password : List ℕ) (said : AuthAnswer) →
    Knows g state h →
    g.start.answers ≡ may →
    may (unwrap_or state.name []) password state.client said ≡ true →
    g.start.answers (unwrap_or (user_name h) []) password g.client said ≡ true
may_be g state h may password said knows same is =
    subst (λ (m : List ℕ → List ℕ → IpAddr → AuthAnswer → Bool). m (unwrap_or (user_name h) []) password g.client said ≡ true) (sym same)
    (subst (λ (n : Option (List ℕ)). may (unwrap_or n []) password g.client said ≡ true) knows.name
    (subst (λ (a : IpAddr). may (unwrap_or state.name []) password a said ≡ true) knows.client is))

-- and where it is out, that answer
pub answer-may : (g : Ground) (state : ControlSession) (may : List ℕ → List ℕ → IpAddr → AuthAnswer → Bool) (password : List ℕ) (said : AuthAnswer) (rest : List ℕ) →
    g.start.answers ≡ may → may (unwrap_or state.name []) password state.client said ≡ true → MayStep g state (AnswerDue password) AnAnswer (kind.AuthDone state.session said) rest
answer-may g state may password said rest same is = record {
  comes = λ h knows. (said, ap (λ (n : ℕ). kind.AuthDone n said) knows.session, may_be g state h may password said knows same is);
  unheard = refl;
  long = λ h. cc;
}
