-- The begin of a talk.
use Rattle.std.proofs.Common.{◌≡◌, ℕ, ◌-◌, ◌^◌, ◌<◌, ◌≤◌, true, false, List, [], ◌∷◌, ◌++◌, Option, Some, None, refl, sym, ap, subst, ◌∙◌, arith, inl, inr}
use Rattle.std.specs.Prelude.{IfSome}
use Rattle.std.proofs.lemmas.List.{append-nil}
use Rattle.ftp_base.specs.declared.reply.Reply.{Reply}
use Rattle.ftp_base.specs.Edge.{EdgeView}
use Rattle.ftp_base.specs.declared.fault.Failed.{Failed}
use Rattle.ftp_base.specs.declared.fault.Failed.TheVariants.{Fault, Memory}
use Rattle.ftp_base.specs.Outside.{HasRisen, Writes}
use Rattle.ftp_events.specs.declared.decision.Decision.{Decision}
use Rattle.ftp_events.specs.declared.decision.Decision.TheVariants.{Opened}
use Rattle.ftp_events.specs.declared.entry.Entry.{Entry}
use Rattle.ftp_events.specs.declared.event.Answer.{Answer}
use Rattle.ftp_events.specs.declared.event.EventKind.{EventKind}
use Rattle.ftp_events.specs.declared.event.EventKind.TheVariants as kind
use Rattle.ftp_events.specs.declared.event.HubEvent.{HubEvent}
use Rattle.ftp_events.specs.Log.{new_number}
use Rattle.ftp_control.specs.Writing.{WritesFront}
use Rattle.ftp_control.specs.Lines.{Rest}
use Rattle.ftp_shared.specs.Desk.{DeskView, Appends}
use Rattle.ftp_talk.specs.Saying.{greeting_line}
use Rattle.ftp_talk.specs.declared.control_session.Peer.{Peer}
use Rattle.ftp_talk.specs.declared.control_session.ControlSession.{ControlSession}
use Rattle.ftp_talk.specs.declared.serving.ServeEnd.{ServeEnd}
use Rattle.ftp_talk.specs.declared.serving.ServeEnd.TheVariants as end
use Rattle.ftp_talk.specs.Ground.{Start, Ground}
use Rattle.ftp_talk.specs.Halts.{halt_by}
use Rattle.ftp_talk.specs.Seen.{IsSeen}
use Rattle.ftp_talk.specs.Talk.{IsInput}
use Rattle.ftp_talk.specs.Speaking.{Begins, Knows, Keeps, StandsAfter, IsCut, Talking, OutcomeHeard, end_by}
use Rattle.ftp_talk.specs.Control.{peer_of, ground_of, is_opened, is_fault, HasOpened, IsUnopened}
use Rattle.ftp_talk.specs.ControlWith.{IsServedWith, ServesWith}
use Rattle.ftp_talk.specs.Extended.{PartsBefore, OutcomeWith}
use Rattle.ftp_talk.specs.Parts.{HeardLine, MayDoSo, AreAllowed}
use Rattle.ftp_talk.proofs.PieceLemmas.{paused-none, pieces-none}
use Rattle.ftp_talk.proofs.ServeLemmas.{told_self}

pub opened-is : (d : Decision) → is_opened d ≡ true → d ≡ Opened
opened-is Opened h = refl
opened-is _ h = cc

session_in : Option Peer → Option ℕ
session_in None = None
session_in (Some p) = Some p.session

number-of : (k : EventKind) (a : Answer) (d : Decision) (peer : Peer) → peer_of k a ≡ Some peer → new_number k d ≡ Some peer.session
unfolding session_in
number-of (kind.Connect session raw local trace) a d peer h = ap session_in h
number-of (kind.Proxied number raw trace) a d peer h = ap session_in h
number-of _ a d peer h = cc

-- what is known of a session that was opened
knows-open : (e : Entry) (peer : Peer) (start : Start) (state : ControlSession) →
    e.decision ≡ Opened → Begins state peer start.desk.options → Knows (ground_of e peer start) state (e ∷ [])
knows-open e peer start state opened t =
    record {
      session = t.session;
      raw = t.raw;
      client = t.client;
      host = t.host;
      range = t.range;
      active = t.active;
      login = rw opened t.login;
      name = rw opened t.name;
      cwd = rw opened t.cwd;
    }

seen-none : (g : Ground) (storage : ℕ) → g.start.desk.faults ≤ storage → IsSeen g [] g.start.edge storage
seen-none g storage le = record { fed = told_self g.start.edge.feed (λ f is. tt); edge = λ lt. omega arith; storage = λ lt. omega arith }

-- what the desk keeps of the session is the opening alone
kept-open : (opening : HubEvent) (a : Answer) (start : Start) (opened : ControlSession) (desk1 : DeskView) (h : HasOpened opening a start opened desk1) →
    Keeps (ground_of h.entry h.peer start) desk1 []
kept-open opening a start opened desk1 h = by_journal start.desk.journal h.appended where
  named : peer_of h.entry.event.kind a ≡ Some h.peer
  named = ap (λ (x : HubEvent). peer_of x.kind a) h.submitted.event ∙ h.named

  by_journal : (o : Option (List Entry)) →
      IfSome o (λ J. Appends J start.desk desk1 h.submitted.earlier h.entry) →
      IfSome o (λ J. (desk1.journal ≡ Some ((h.entry ∷ []) ++ J)) × (desk1.outbox h.peer.session ≡ []) × Unit {0})
  by_journal None added = tt
  by_journal (Some J) added = (added.journal, added.fresh h.peer.session (number-of h.entry.event.kind a h.entry.decision h.peer named) h.decision, tt)

after-open : (opening : HubEvent) (a : Answer) (start : Start) (opened state : ControlSession) (desk1 : DeskView) (h : HasOpened opening a start opened desk1) →
    state.is_over ≡ opened.is_over → StandsAfter (ground_of h.entry h.peer start) state desk1 []
after-open opening a start opened state desk1 h over =
    record { over = over ∙ h.begins.live; kept = kept-open opening a start opened desk1 h; refused = omega (arith, h.unrefused); vouched = λ v. tt; share = h.share }

pub journal-open : (o : Option (List Entry)) (e : Entry) (desk desk1 : DeskView) (earlier : List (ℕ × Reply)) →
    IfSome o (λ J. Appends J desk desk1 earlier e) → IfSome o (λ J. desk1.journal ≡ Some ((e ∷ []) ++ J))
journal-open None e desk desk1 earlier added = tt
journal-open (Some J) e desk desk1 earlier added = added.journal

read-begin : (o : Option (List ℕ)) → (rest : List ℕ) × IsInput o rest × IfSome o (λ all. Rest [] o rest)
read-begin None = ([], tt, tt)
read-begin (Some all) = (all, refl, refl)

-- no part of a talk was spoken
abbrev parted-none : (g : Ground) (rest : List ℕ) → IsInput g.start.input rest → PartsBefore g [] rest
parted-none g rest input = record { parts = []; cut = input; ruled = tt; heard = refl; long = λ h. cc }

-- the greeting was sent, and the first line is due
pub begin-talking : (opening : HubEvent) (a : Answer) (start : Start) (opened state : ControlSession) (desk1 : DeskView) (sent1 left1 : Option (List ℕ))
    (h : HasOpened opening a start opened desk1) →
    ((g : Ground) (es : List Entry) → Knows g opened es → Knows g state es) → state.is_over ≡ opened.is_over →
    Writes start.sent sent1 (greeting_line start.desk.options.greeting) →
    left1 ≡ start.input →
    Talking (ground_of h.entry h.peer start) state start.edge desk1 sent1 [] [] left1
begin-talking opening a start opened state desk1 sent1 left1 h known over wrote is =
    let g = ground_of h.entry h.peer start in
    let r = read-begin start.input in
    record {
      rest = r.0;
      standing = record {
        parted = parted-none g r.0 r.1;
        speaking = record {
          seen = seen-none g desk1.faults h.count;
          feed = told_self start.edge.feed (λ f is. is);
          known = known g (h.entry ∷ []) (knows-open h.entry h.peer start opened h.decision h.begins);
          ground = record { meaning = refl; options = h.options; files = h.files; journal = journal-open start.desk.journal h.entry start.desk desk1 h.submitted.earlier h.appended };
          after = after-open opening a start opened state desk1 h over;
          written = subst (Writes start.sent sent1) (sym (append-nil (greeting_line start.desk.options.greeting))) wrote;
          paused = paused-none start.edge.paused start.edge.paused refl;
        };
        stands = refl;
      };
      read = subst (λ (o : Option (List ℕ)). IfSome start.input (λ all. Rest [] o r.0)) (sym is) r.2;
    }

-- a part of the greeting was sent
pub begin-cut : (opening : HubEvent) (a : Answer) (start : Start) (opened state : ControlSession) (desk1 : DeskView) (sent1 : Option (List ℕ))
    (h : HasOpened opening a start opened desk1) →
    ((g : Ground) (es : List Entry) → Knows g opened es → Knows g state es) → state.is_over ≡ opened.is_over →
    WritesFront start.sent sent1 (greeting_line start.desk.options.greeting) →
    IsCut (ground_of h.entry h.peer start) state start.edge desk1 sent1 []
begin-cut opening a start opened state desk1 sent1 h known over wrote =
    let g = ground_of h.entry h.peer start in
    let r = read-begin start.input in
    record {
      rest = r.0;
      parted = parted-none g r.0 r.1;
      front = record {
        session = (known g (h.entry ∷ []) (knows-open h.entry h.peer start opened h.decision h.begins)).session;
        options = h.options;
        seen = seen-none g desk1.faults h.count;
        after = after-open opening a start opened state desk1 h over;
        written = pieces-none start.sent sent1 start.edge.paused start.edge.paused (greeting_line start.desk.options.greeting) [] wrote refl;
      };
    }

-- what was said of each end
serves-with : (may : MayDoSo) (first : Option (List ℕ)) (x : ServeEnd) (opening : HubEvent) (a : Answer) (start : Start) (edge : EdgeView) (desk : DeskView) (sent : Option (List ℕ)) →
    IsServedWith may first x opening a start edge desk sent → ServesWith may first x opening a start edge desk sent
serves-with may first end.Ended opening a start edge desk sent h = h
serves-with may first (end.Refused d) opening a start edge desk sent h = absurd h.outcome
serves-with may first end.ReadFault opening a start edge desk sent h = h
serves-with may first end.WriteFault opening a start edge desk sent h = h
serves-with may first end.OutOfMemory opening a start edge desk sent h = inr h
serves-with may first end.Exhausted opening a start edge desk sent h = inr h

-- what was heard is what may be done
pub ends-with : (may : MayDoSo) (first : Option (List ℕ)) (x : ServeEnd) (g : Ground) (edge : EdgeView) (desk : DeskView) (sent : Option (List ℕ)) (hs : List HeardLine) →
    AreAllowed may first hs → OutcomeHeard x g edge desk sent hs → OutcomeWith may first x g edge desk sent
ends-with may first end.Ended g edge desk sent hs allowed h = (hs, allowed, h)
ends-with may first (end.Refused d) g edge desk sent hs allowed h = absurd h
ends-with may first end.ReadFault g edge desk sent hs allowed h = (hs, allowed, h)
ends-with may first end.WriteFault g edge desk sent hs allowed h = (hs, allowed, h)
ends-with may first end.OutOfMemory g edge desk sent hs allowed h = (hs, allowed, h)
ends-with may first end.Exhausted g edge desk sent hs allowed h = (hs, allowed, h)

-- an end without a session is one of serving
pub serves-unopened : (may : MayDoSo) (first : Option (List ℕ)) (x : ServeEnd) (opening : HubEvent) (a : Answer) (start : Start) (desk : DeskView) →
    IsUnopened x opening a start desk → ServesWith may first x opening a start start.edge desk start.sent
serves-unopened may first (end.Refused d) opening a start desk h = h
serves-unopened may first end.OutOfMemory opening a start desk h = inl h
serves-unopened may first end.Exhausted opening a start desk h = inl h
serves-unopened may first _ opening a start desk h = absurd h

-- a talk that was opened is served as it came out
pub serves-opened : (may : MayDoSo) (first : Option (List ℕ)) (x : ServeEnd) (opening : HubEvent) (a : Answer) (start : Start) (opened : ControlSession) (desk1 : DeskView)
    (edge : EdgeView) (desk : DeskView) (sent : Option (List ℕ)) (h : HasOpened opening a start opened desk1) →
    OutcomeWith may first x (ground_of h.entry h.peer start) edge desk sent → ServesWith may first x opening a start edge desk sent
serves-opened may first x opening a start opened desk1 edge desk sent h outcome =
    serves-with may first x opening a start edge desk sent
    (record { entry = h.entry; peer = h.peer; submitted = h.submitted; decision = h.decision; named = h.named; outcome = outcome })

-- an end that is no fault is neither
pub no-fault : (x : ServeEnd) → is_fault x ≡ false → (x ≡ end.ReadFault → ⊥) × (x ≡ end.WriteFault → ⊥)
no-fault x sound = (λ e. absurd (cc (sound, e)), λ e. absurd (cc (sound, e)))

-- a halt by a failed write, and no other, is an end by a fault
pub halt-ends : (f : Failed) (x : ServeEnd) → x ≡ end_by (halt_by f) → (x ≡ end.WriteFault → f ≡ Fault) × (x ≡ end.ReadFault → ⊥) × (x ≡ end.Exhausted → ⊥)
halt-ends Fault x is = (λ e. refl, λ e. absurd (cc (is, e)), λ e. absurd (cc (is, e)))
halt-ends Memory x is = (λ e. absurd (cc (is, e)), λ e. absurd (cc (is, e)), λ e. absurd (cc (is, e)))

-- and none where no fault was counted
pub halt-sound : (f : Failed) (x : ServeEnd) (old new : ℕ) → x ≡ end_by (halt_by f) → (f ≡ Fault → HasRisen old new) → new ≡ old → old < 2 ^ 64 - 1 → is_fault x ≡ false
halt-sound Fault x old new is rose same below = let risen = rose refl below in absurd (omega (arith, risen, same))
halt-sound Memory x old new is rose same below = ap is_fault is

-- an end by a fault only where one was counted
pub end-sound : (x : ServeEnd) (old mid new : ℕ) → old ≤ mid → mid ≤ new → (x ≡ end.ReadFault → HasRisen mid new) → (x ≡ end.WriteFault → HasRisen mid new) → new ≡ old → old < 2 ^ 64 - 1 → is_fault x ≡ false
end-sound end.ReadFault old mid new first then read write same below = let risen = read refl (omega (arith, first, then, same, below)) in absurd (omega (arith, risen, first, same))
end-sound end.WriteFault old mid new first then read write same below = let risen = write refl (omega (arith, first, then, same, below)) in absurd (omega (arith, risen, first, same))
end-sound _ old mid new first then read write same below = refl
