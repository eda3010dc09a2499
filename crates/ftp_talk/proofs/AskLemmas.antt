-- What was asked for an event.
use Rattle.std.proofs.Common.{◌≡◌, ℕ, ◌≤◌, Bool, true, List, ◌++◌, Option, Some, None, refl, sym, ap, subst, ◌∙◌, arith}
use Rattle.std.specs.Prelude.{IfSome, MatchOption}
use Rattle.ftp_base.specs.declared.net.SocketAddr.{SocketAddr}
use Rattle.ftp_base.specs.Edge.{Meaning, EdgeView, IsCounted}
use Rattle.ftp_events.specs.declared.entry.Entry.{Entry}
use Rattle.ftp_events.specs.declared.event.EventKind.{EventKind}
use Rattle.ftp_events.specs.declared.event.EventKind.TheVariants as kind
use Rattle.ftp_control.specs.declared.command.Command.TheVariants as command
use Rattle.ftp_shared.specs.Desk.{DeskView, drawn_after}
use Rattle.ftp_talk.specs.declared.control_session.ControlSession.{ControlSession}
use Rattle.ftp_talk.specs.Ground.{Ground}
use Rattle.ftp_talk.specs.Commands.{asked_target, MayConnect}
use Rattle.ftp_talk.specs.Seen.{IsDrawn, behind_kind, missing_in, failed_in}
use Rattle.ftp_talk.specs.Speaking.{Knows, IsGround, Asked, IsMade, IsMadeTo, target_for}

target-same : (g : Ground) (state : ControlSession) (h : List Entry) (text : List ℕ) → Knows g state h → target_for state text ≡ asked_target g h text
target-same g state h text knows = rw (knows.login, knows.active, knows.raw) refl

next-number : (o journal : Option (List Entry)) (h : List Entry) (n : ℕ) →
    IfSome o (λ J. journal ≡ Some (h ++ J)) → IfSome journal (λ J. n ≡ drawn_after J) → IfSome o (λ J. n ≡ drawn_after (h ++ J))
next-number None journal h n is drawn = tt
next-number (Some J) journal h n is drawn = subst (λ (x : Option (List Entry)). IfSome x (λ J. n ≡ drawn_after J)) is drawn

may-connect : (g : Ground) (h : List Entry) (target : Option SocketAddr) (draws : Bool) (journal : Option (List Entry)) (old new : EdgeView) (number : Option ℕ) →
    g.start.draws_next ≡ draws → old.meaning ≡ g.start.edge.meaning → IfSome g.start.desk.journal (λ J. journal ≡ Some (h ++ J)) →
    MatchOption target (number ≡ None) (λ to. IsMadeTo to (λ n. draws ≡ true → IfSome journal (λ J. n ≡ drawn_after J)) old new number) →
    MayConnect g h target number
may-connect g h None draws journal old new number same means is m = m
may-connect g h (Some to) draws journal old new number same means is m = (
  m.drawn,
  m.made,
  (λ d. next-number g.start.desk.journal journal h m.drawn is (m.next (sym same ∙ d))),
  ap (λ (x : Meaning). x.connects to m.drawn m.made) (sym means) ∙ m.may,
  m.number,
)

-- a PORT
pub port-asked : (g : Ground) (h : List Entry) (state : ControlSession) (text : List ℕ) (number : Option ℕ) (draws : Bool) (old new : EdgeView) (desk desk1 : DeskView) (k : EventKind) →
    g.start.draws_next ≡ draws → Knows g state h → IsGround g h old desk →
    k ≡ kind.Port state.session text number →
    IsMade (target_for state text) (λ n. draws ≡ true → IfSome desk.journal (λ J. n ≡ drawn_after J)) old new number →
    desk.faults ≤ desk1.faults →
    Asked g h (command.Port text) k old new desk.faults desk1.faults
port-asked g h state text number draws old new desk desk1 k same knows ground is made le =
    let m = subst (λ (t : Option SocketAddr). IsMade t (λ n. draws ≡ true → IfSome desk.journal (λ J. n ≡ drawn_after J)) old new number) (target-same g state h text knows) made in
    let named : k ≡ kind.Port g.session text number = is ∙ ap (λ (s : ℕ). kind.Port s text number) knows.session in
    record {
      gives = (number, named, may-connect g h (asked_target g h text) draws desk.journal old new number same ground.meaning ground.journal m.made);
      feed = subst (λ (x : EventKind). IfSome old.feed (λ f. IsDrawn g h x f × (new.feed ≡ Some (behind_kind g h x f)))) (sym named) m.feed;
      edge = subst (λ (x : EventKind). IsCounted (missing_in g h x) old.faults new.faults) (sym named) m.missing;
      storage = subst (λ (x : EventKind). IsCounted (failed_in x) desk.faults desk1.faults) (sym named) (λ lt. omega (arith, le));
    }
