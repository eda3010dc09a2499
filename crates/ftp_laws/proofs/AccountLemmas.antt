-- Each transfer that was queued waits, runs, or was settled, and no other.
use Rattle.std.proofs.Common.{◌≡◌, refl, sym, ◌∙◌, ap, ap₂, subst, ℕ, ◌+◌, ◌||◌, Bool, true, false, cond, List, Option, Some, None, arith, inl, inr}
use Rattle.std.specs.Prelude.{◌⊎◌, ◌==◌, count_by}
use Rattle.ftp_events.specs.declared.action.Action.TheVariants as action
use Rattle.std.specs.Option.{option_and_then}
use Rattle.ftp_events.specs.declared.decision.Decision.TheVariants as decision
use Rattle.ftp_events.specs.declared.decision.SlotMove.TheVariants.{Queues, Finishes}
use Rattle.ftp_events.specs.declared.session.Slot.TheVariants.{Empty, Waits, Linked}
use Rattle.ftp_events.specs.Place.{is_queued, ticket_count}
use Rattle.ftp_events.specs.CommandRows.{can_queue}
use Rattle.ftp_events.specs.Classes.{is_stop}
use Rattle.ftp_events.specs.Session.{live_sessions}
use Rattle.ftp_events.specs.Transfer.{same_ticket}
use Rattle.ftp_events.specs.History.{Nobody, One, All}
use Rattle.ftp_laws.proofs.Common.{Subject, slot_move, Options, Running, Action, Ticket, Entry, Pending, Session, Slot, named_session, is_refusal, is_used, subject, concerns, history, Lane, drops, queued_in, lane, session, running_job, due, acts_of, acts_for, drop_acts, stays, slot_of, pending_in, starting, is_pending, job_ticket}
use Rattle.ftp_laws.proofs.SubjectLemmas.{one-concerns, named-one, not-all, named-concerns, other-plain}
use Rattle.ftp_laws.specs.Census.{IsAscending}
use Rattle.ftp_laws.specs.Fates.{queues, settles}
use Rattle.ftp_laws.proofs.TicketLemmas.{same_ticket-other}
use Rattle.ftp_laws.proofs.ClassLemmas.{queues-is, queued-as}
use Rattle.ftp_laws.proofs.QuestionLemmas.{session-told}
use Rattle.ftp_laws.proofs.HoldLemmas.{live-used}
use Rattle.ftp_laws.proofs.LaneLemmas.{IsQueue, queued-live, named-concern, IsBare}
use Rattle.ftp_laws.proofs.SoundLemmas.{IsSound, queue-made}
use Rattle.ftp_laws.proofs.CountLemmas.{count-about, count-nobody, count-completions}
use Rattle.ftp_laws.proofs.Cases.{job-named}
use Rattle.ftp_laws.proofs.BalanceLemmas.{one, IsOnCancelled, settles-on-transfers, settles-on-cancelled, count-start_acts, count-drop_acts-own, settles-drop_acts, IsEnd, ended-known, IsFit, lost}
use Rattle.ftp_laws.proofs.PartLemmas.{count-stop_acts, count-concern}

-- the slot and the transfer of a session, as its history tells them, also where it is not live
pub slot-told :
    (o : Options) (past : List Entry) (s : ℕ) →
    (session o past s ≡ None → IsBare (lane (history o past s))) →
    (slot_of (session o past s) ≡ (lane (history o past s)).slot) × (pending_in (session o past s) ≡ (lane (history o past s)).pending)
slot-told o past s bare = go (session o past s) refl
  where
    go :
        (v : Option Session) → session o past s ≡ v →
        (slot_of v ≡ (lane (history o past s)).slot) × (pending_in v ≡ (lane (history o past s)).pending)
    go None x = (sym (bare x).0, sym (bare x).1)
    go (Some v) x = (ap (λ (w : Session). w.slot) (sym (session-told o past s v x).told), ap (λ (w : Session). w.pending) (sym (session-told o past s v x).told))

-- a slot that takes a transfer has none
pub queue-free : (slot : Slot) (pending : Option Pending) → can_queue slot pending ≡ true → pending ≡ None
queue-free Empty pending c = cc
queue-free (Waits port) None c = refl
queue-free (Linked n) None c = refl
queue-free (Waits port) (Some p) c = cc
queue-free (Linked n) (Some p) c = cc

-- an entry that is decided as it has to be loses and doubles no transfer of the session that it concerns
pub entry-fit :
    (o : Options) (past : List Entry) (e : Entry) (s : ℕ) →
    e.decision ≡ due o past e.event.at e.event.kind e.answer →
    concerns o past e s ≡ true →
    IsFit e.event.kind (slot_move e.decision) (queued_in (history o past s) e) (lane (history o past s))
entry-fit o past e s fit c = record { queue = queue; end = end }
  where
    queue :
        (t : Ticket) → slot_move e.decision ≡ Queues t →
        ((lane (history o past s)).pending ≡ None) × ((p : Pending) × (queued_in (history o past s) e ≡ Some p) × (p.ticket ≡ t))
    queue t m =
        let d : e.decision ≡ decision.Queued t = queues-is e.decision t m in
        let q : IsQueue o past e.event.kind t = queued-live o past e.event.at e.event.kind e.answer t (sym fit ∙ d) in
        let v : Session = q.session_then in
        let known : session o past s ≡ Some v = subst (λ (n : ℕ). session o past n ≡ Some v) (named-concern o past e q.number s fit q.named c) q.known in
        let same : (lane (history o past s)).pending ≡ v.pending = ap (λ (w : Session). w.pending) (session-told o past s v known).told in
        (same ∙ queue-free v.slot v.pending q.room, queue-made (history o past s) e t q.command d q.asked)

    end :
        slot_move e.decision ≡ Finishes →
        (t : Ticket) × (job_ticket e.event.kind ≡ Some t) × ((j : Running) × ((lane (history o past s)).running ≡ Some j) × (j.job.ticket ≡ t))
    end m =
        let x : IsEnd o past e.event.kind = ended-known o past e.event.at e.event.kind e.answer e.decision (sym fit) m in
        let own : x.ticket.session ≡ s = named-concern o past e x.ticket.session s fit (job-named e.event.kind x.ticket x.kind_is) c in
        (x.ticket, x.kind_is, (x.job, subst (λ (n : ℕ). running_job o past n ≡ Some x.job) own x.ran, x.same))

-- an entry that queues a transfer concerns the transfer's session, which is live and has counted those before it
pub record IsNext (o : Options) (past : List Entry) (e : Entry) (t : Ticket) : Type 0 where
  pub concerned : concerns o past e t.session ≡ true
  pub used : is_used past t.session ≡ true
  pub count : t.nr ≡ ticket_count (history o past t.session) + 1
  pub queued : is_queued e.decision ≡ true

-- what is known of an entry that queues a transfer
pub queues-next :
    (o : Options) (past : List Entry) (e : Entry) (t : Ticket) →
    e.decision ≡ due o past e.event.at e.event.kind e.answer →
    queues t e.decision ≡ true → IsNext o past e t
queues-next o past e t fit h =
    let d : e.decision ≡ decision.Queued t = queued-as t e.decision h in
    let q : IsQueue o past e.event.kind t = queued-live o past e.event.at e.event.kind e.answer t (sym fit ∙ d) in
    let v : Session = q.session_then in
    let own : q.number ≡ t.session = sym (ap (λ (u : Ticket). u.session) q.ticket) in
    let known : session o past t.session ≡ Some v = subst (λ (n : ℕ). session o past n ≡ Some v) own q.known in
    let named : named_session e.event.kind ≡ Some t.session = q.named ∙ ap Some own in
    let counted : v.tickets ≡ ticket_count (history o past t.session) = ap (λ (w : Session). w.tickets) (sym (session-told o past t.session v known).told) in
    record {
      concerned = named-concerns o past e t.session named;
      used = live-used o past t.session v known;
      count = ap (λ (u : Ticket). u.nr) q.ticket ∙ ap (λ n. n + 1) counted;
      queued = ap is_queued d;
    }

-- what is not in a slot is not lost with it
pub none-lost : (b c : Bool) → c ≡ false → cond b (one c) 0 ≡ 0
none-lost true c e = ap one e
none-lost false c e = refl

-- a transfer waits in no slot of another session
pub pending-other :
    (o : Options) (past : List Entry) (t : Ticket) (s : ℕ) →
    IsSound s (history o past s) → (s == t.session) ≡ false →
    is_pending t (pending_in (session o past s)) ≡ false
pending-other o past t s kept n = go (session o past s) refl (pending_in (session o past s)) refl
  where
    go :
        (v : Option Session) → session o past s ≡ v →
        (p : Option Pending) → pending_in v ≡ p →
        is_pending t p ≡ false
    go v x None y = refl
    go None x (Some p) y = cc
    go (Some v) x (Some p) y =
        let same : (lane (history o past s)).pending ≡ Some p = ap (λ (w : Session). w.pending) (session-told o past s v x).told ∙ y in
        same_ticket-other p.ticket t (ap (λ r. r == t.session) (kept.counted.waits p same).0 ∙ n)

-- an entry that does not concern a transfer's session settles it not
pub settles-elsewhere :
    (o : Options) (past : List Entry) (e : Entry) (t : Ticket) →
    is_refusal e.decision ≡ false →
    e.actions ≡ acts_of o past e →
    concerns o past e t.session ≡ false →
    ((s : ℕ) → IsSound s (history o past s)) →
    count_by (settles t) e.actions ≡ 0
settles-elsewhere o past e t counts acted c own = by_subject (subject o past e) refl
  where
    plain : is_stop e.decision ≡ false
    plain = other-plain o past e t.session c

    by_end : (ticket : Ticket) → job_ticket e.event.kind ≡ Some ticket → (same_ticket ticket t || false) ≡ false
    by_end ticket k =
        ap (λ b. b || false) (same_ticket-other ticket t (sym (one-concerns o past e ticket.session t.session (named-one o past e ticket.session plain (job-named e.event.kind ticket k))) ∙ c))

    by_cut : (s : ℕ) → (s == t.session) ≡ false → (r : Running) → running_job o past s ≡ Some r → settles t (action.Cancelled r.job.ticket) ≡ false
    by_cut s n r ran = same_ticket-other r.job.ticket t (ap (λ q. q == t.session) ((own s).counted.runs r ran).0 ∙ n)

    by_subject : (x : Subject) → subject o past e ≡ x → count_by (settles t) e.actions ≡ 0
    by_subject All x = absurd (not-all o past e plain x)
    by_subject Nobody x = count-nobody (settles t) o past e (λ m. refl) acted x
    by_subject (One s) x =
        let other : (s == t.session) ≡ false = sym (one-concerns o past e s t.session x) ∙ c in
        let v : Option Session = session o past s in
        let kept : is_pending t (pending_in v) ≡ false = pending-other o past t s (own s) other in
        omega (
          arith,
          count-about (settles t) o past e s (settles-on-transfers t s) counts acted x,
          count-completions (settles t) s e.event.kind e.decision (stays e.decision v) (running_job o past s) (settles-on-transfers t s) by_end (λ r x y. by_cut s other r x),
          settles-drop_acts t s (stays e.decision v) e.decision (slot_of v) (pending_in v),
          count-start_acts t (settles t) (option_and_then (starting e.event.kind e.decision (running_job o past s)) v) (settles-on-cancelled t),
          none-lost (drops e.decision (slot_of v)) (is_pending t (pending_in v)) kept,
        )

-- what a stop does for another session cancels no such transfer
pub stop-other :
    (p : Action → Bool) (o : Options) (past : List Entry) (e : Entry) (t : Ticket) (s : ℕ) →
    is_refusal e.decision ≡ false → e.actions ≡ acts_of o past e →
    IsOnCancelled t p → subject o past e ≡ All →
    IsSound s (history o past s) → (s == t.session) ≡ false →
    count_by p (acts_for o past e s) ≡ 0
stop-other p o past e t s counts acted on about kept n =
    let v : Option Session = session o past s in
    count-stop_acts o past e counts acted p s (on.plain s) about
    ∙ (count-drop_acts-own t p s (stays e.decision v) e.decision (slot_of v) (pending_in v) on
    ∙ none-lost (drops e.decision (slot_of v)) (is_pending t (pending_in v)) (pending-other o past t s kept n))

-- what an entry that concerns a transfer's session settles of it
pub settles-here :
    (o : Options) (past : List Entry) (e : Entry) (t : Ticket) →
    is_refusal e.decision ≡ false →
    e.actions ≡ acts_of o past e →
    concerns o past e t.session ≡ true →
    (session o past t.session ≡ None → IsBare (lane (history o past t.session))) →
    ((s : ℕ) → IsSound s (history o past s)) →
    IsAscending (live_sessions o past) →
    count_by (settles t) e.actions ≡ lost t t.session (stays e.decision (session o past t.session)) e.event.kind e.decision (lane (history o past t.session))
settles-here o past e t counts acted c bare own ascends =
    let s : ℕ = t.session in
    let v : Option Session = session o past s in
    let l : Lane = lane (history o past s) in
    let told = slot-told o past s bare in
    let same : count_by (settles t) (drop_acts s (stays e.decision v) e.decision (slot_of v) (pending_in v)) ≡ count_by (settles t) (drop_acts s (stays e.decision v) e.decision l.slot l.pending) = ap₂ (λ (slot : Slot) (pending : Option Pending). count_by (settles t) (drop_acts s (stays e.decision v) e.decision slot pending)) told.0 told.1 in
    omega (
      arith,
      count-concern o past e counts acted (settles t) s (settles-on-transfers t s) c ascends
          (λ about q n. stop-other (settles t) o past e t q counts acted (settles-on-cancelled t) about (own q) n),
      same,
      count-start_acts t (settles t) (option_and_then (starting e.event.kind e.decision (running_job o past s)) v) (settles-on-cancelled t),
    )
