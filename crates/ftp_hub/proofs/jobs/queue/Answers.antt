use Rattle.std.proofs.Common.{◌≡◌, refl, sym, ap, ◌∙◌, subst, ℕ, ◌+◌, Bool, true, false, cond, Option, Some, None, add-zero}
use Rattle.std.specs.Prelude.{nat_eq, unwrap_or}
use Rattle.std.specs.HashMap as map
use Rattle.ftp_hub.proofs.Common.{Answer, Decision, EventKind, IsFew, Options, Running, Session, Starts, Ticket, session_acts, session_after, starting}
use Rattle.ftp_events.specs.declared.decision.Decision.TheVariants as decision
use Rattle.ftp_events.specs.Acts.{notice_and_reply}
use Rattle.ftp_events.specs.CommandRows.{can_queue, if_logged_in, is_logged_in, transfer_row}
use Rattle.ftp_events.specs.declared.event.EventKind.TheVariants as kind
use Rattle.ftp_events.specs.Ages.{is_activity}
use Rattle.ftp_handlers.specs.Handlers.{is_transfer, number_of, with_queued}
use Rattle.ftp_hub.proofs.Decisions.{starts-none}
use Rattle.ftp_hub.proofs.jobs.queue.Goals as goal

-- nothing is queued: the session is told, and otherwise it is as it was
record Refuses (d : Decision) : Type 0 where
  session : (at : ℕ) (k : EventKind) (answer : Answer) (job : Option Running) (v : Session) → is_activity k ≡ true → with_queued at k d v ≡ session_after at k answer d 0 job v
  acts : (o : Options) (s : ℕ) (k : EventKind) (answer : Answer) (job : Option Running) (v : Session) → notice_and_reply o s k answer d job v ≡ session_acts o s k answer d job (Some v)
  starts : (k : EventKind) (job : Option Running) (v : Session) → starting k d job v ≡ None

-- the notices that are sent to it are none
no-notice : (at : ℕ) (k : EventKind) (d : Decision) (v : Session) → with_queued at k d v ≡ record (with_queued at k d v) { notices = v.notices + 0 }
no-notice at k d v = λ i. record (with_queued at k d v) { notices = sym (add-zero v.notices) i }

refuses-login : Refuses decision.NotLoggedIn
refuses-login = record { session = λ at k answer job v active. rw active (no-notice at k decision.NotLoggedIn v); acts = λ o s k answer job v. refl; starts = λ k job v. refl }

refuses-slot : Refuses decision.NoSlot
refuses-slot = record { session = λ at k answer job v active. rw active (no-notice at k decision.NoSlot v); acts = λ o s k answer job v. refl; starts = λ k job v. refl }

-- a transfer that is asked for is activity
transfer-active : (k : EventKind) → is_transfer k ≡ true → is_activity k ≡ true
transfer-active (kind.Transfer s c) h = refl
transfer-active (kind.Stou s word) h = refl
transfer-active k h = cc

-- a transfer is queued or refused
refuses-by : (logged free : Bool) (t : Ticket) (d : Decision) → d ≡ cond logged (cond free (decision.Queued t) decision.NoSlot) decision.NotLoggedIn → ((x : Ticket) → d ≡ decision.Queued x → ⊥) → Refuses d
refuses-by false free t d is other = subst Refuses (sym is) refuses-login
refuses-by true false t d is other = subst Refuses (sym is) refuses-slot
refuses-by true true t d is other = absurd (other t is)

-- a transfer that is not queued
pub returns-in_default : goal.returns-in_default
returns-in_default c =
    let v : Session = c.args.session.now in
    let k : EventKind = c.args.event.now.kind in
    let d : Decision = c.handle-decision.result in
    let number : number_of k ≡ c.args.number = ap (λ (n : Option ℕ). unwrap_or n 0) c.requires.named in
    let row : IsFew v → d ≡ if_logged_in v (transfer_row c.args.number v) = λ few. c.handle-decision.ensures.decision few ∙ ap (λ n. if_logged_in v (transfer_row n v)) number in
    let refuses : IsFew v → Refuses d = λ few. refuses-by (is_logged_in v.login) (can_queue v.slot v.pending) _ d (row few) c.in_default.not-Queued in
    let job : Option Running = map.get nat_eq c.args.jobs.now c.args.number in
    record {
      decision = row;
      session = λ few answer. c.handle-decision.ensures.session few ∙ (refuses few).session c.args.event.now.at k answer job v (transfer-active k c.requires.of_this_event);
      actions = λ few answer.
          c.handle-decision.ensures.actions answer job
          ∙ ap (λ n. notice_and_reply c.args.options.now n k answer d job v) number
          ∙ (refuses few).acts c.args.options.now c.args.number k answer job v;
      starts = λ few. subst (Starts c.args.jobs.now c.args.jobs.now c.args.number) (sym ((refuses few).starts k job v)) (starts-none c.args.jobs.now c.args.number);
      board = c.handle-decision.ensures.board;
      twice = c.handle-decision.ensures.twice;
    }
