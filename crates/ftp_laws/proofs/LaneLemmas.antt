-- What can be in a session's slot, and beside which job.
use Rattle.std.proofs.Common.{◌≡◌, refl, sym, ◌∙◌, ap, subst, ℕ, ◌+◌, Bool, true, false, true≢false, cond, List, ◌∷◌, Option, Some, None, arith, eqb-true}
use Rattle.std.proofs.lemmas.Option.{same_Some}
use Rattle.std.specs.Prelude.{◌≢◌, unwrap_or}
use Rattle.ftp_base.specs.declared.command.DataChanCmd.{DataChanCmd}
use Rattle.ftp_base.specs.declared.command.DataChanCmd.TheVariants.{Stor}
use Rattle.ftp_events.specs.declared.decision.Decision.TheVariants as decision
use Rattle.ftp_events.specs.declared.decision.Life.TheVariants.{Ends}
use Rattle.ftp_events.specs.declared.decision.SlotMove.TheVariants.{Awaits, Connects, Links, Queues, Finishes}
use Rattle.ftp_events.specs.declared.event.EventKind.TheVariants as kind
use Rattle.ftp_events.specs.declared.session.Slot.TheVariants.{Empty, Waits, Linked}
use Rattle.ftp_events.specs.Text.{unique_name}
use Rattle.ftp_events.specs.Slot.{asked_command}
use Rattle.ftp_events.specs.Session.{told_of_life}
use Rattle.ftp_events.specs.CommandRows.{is_logged_in, if_logged_in, can_queue, transfer_row}
use Rattle.ftp_events.specs.Decide.{if_live}
use Rattle.ftp_laws.proofs.Common.{Life, SlotMove, life, slot_move, empties, moved, new_number, Options, Ticket, Decision, Entry, EventKind, Answer, Pending, Session, Slot, named_session, past_of, concerns, history, Lane, lane_after, queued_in, lane, lives_on, session, running_job, due, IsRight}
use Rattle.ftp_laws.proofs.SubjectLemmas.{named-one, one-concerns}
use Rattle.ftp_laws.proofs.StopLemmas.{named-plain}
use Rattle.ftp_laws.proofs.ClassLemmas.{awaits-is, connects-is, queues-is, ending-empties, opened-is}
use Rattle.ftp_laws.proofs.DecisionLemmas.{IsLive, connected-live}
use Rattle.ftp_laws.proofs.GrantLemmas.{granted-free}
use Rattle.ftp_laws.proofs.QuestionLemmas.{history-other, history-own, session-other, session-own, session_by}
use Rattle.ftp_laws.proofs.EntryLemmas.{right-past}
use Rattle.ftp_laws.proofs.Cases.{by_test, by_option, by_part}

-- the ticket of a transfer that was queued
abbrev pub queued_ticket : Decision → Option Ticket
queued_ticket (decision.Queued ticket) = Some ticket
queued_ticket _ = None

-- what is known of a queued transfer: its session is live, its slot could take it, and its ticket is the session's next
pub record IsQueue (o : Options) (past : List Entry) (k : EventKind) (t : Ticket) : Type 0 where
  pub number : ℕ
  pub session_then : Session
  pub command : DataChanCmd
  pub named : named_session k ≡ Some number
  pub known : session o past number ≡ Some session_then
  pub asked : asked_command k ≡ Some command
  pub room : can_queue session_then.slot session_then.pending ≡ true
  pub ticket : t ≡ record { session = number; nr = session_then.tickets + 1 }

-- where a transfer's row queues, it is known
pub transfer-queued :
    (o : Options) (past : List Entry) (k : EventKind) (s : ℕ) (c : DataChanCmd) (t : Ticket) →
    named_session k ≡ Some s → asked_command k ≡ Some c →
    if_live (session o past s) (λ v. if_logged_in v (transfer_row s v)) ≡ decision.Queued t →
    IsQueue o past k t
transfer-queued o past k s c t n a e = by_session (session o past s) refl e
  where
    by_room :
        (v : Session) (b : Bool) →
        session o past s ≡ Some v →
        can_queue v.slot v.pending ≡ b →
        cond b (decision.Queued (record { session = s; nr = v.tickets + 1 })) decision.NoSlot ≡ decision.Queued t →
        IsQueue o past k t
    by_room v true x r h =
        record { number = s; session_then = v; command = c; named = n; known = x; asked = a; room = r; ticket = same_Some _ _ (ap queued_ticket (sym h)) }
    by_room v false x r h = cc

    by_login :
        (v : Session) (b : Bool) →
        session o past s ≡ Some v →
        cond b (transfer_row s v) decision.NotLoggedIn ≡ decision.Queued t →
        IsQueue o past k t
    by_login v true x h = by_room v (can_queue v.slot v.pending) x refl h
    by_login v false x h = cc

    by_session :
        (v : Option Session) → session o past s ≡ v →
        if_live v (λ v. if_logged_in v (transfer_row s v)) ≡ decision.Queued t →
        IsQueue o past k t
    by_session None x h = cc
    by_session (Some v) x h = by_login v (is_logged_in v.login) x h

-- a transfer is queued for a live session whose slot can take it
pub queued-live :
    (o : Options) (past : List Entry) (at : ℕ) (k : EventKind) (answer : Answer) (t : Ticket) →
    due o past at k answer ≡ decision.Queued t →
    IsQueue o past k t
queued-live o past at (kind.Transfer s c) answer t e = transfer-queued o past _ s c t refl refl e
queued-live o past at (kind.Stou s word) answer t e = transfer-queued o past _ s (Stor (unique_name word)) t refl refl e
queued-live o past at k answer t e = grind arith

-- an entry that names a session and concerns one is about that one
pub named-concern :
    (o : Options) (past : List Entry) (e : Entry) (n s : ℕ) →
    e.decision ≡ due o past e.event.at e.event.kind e.answer →
    named_session e.event.kind ≡ Some n →
    concerns o past e s ≡ true → n ≡ s
named-concern o past e n s fit named c =
    eqb-true n s (sym (one-concerns o past e n s (named-one o past e n (named-plain o past e n fit named) named)) ∙ c)

-- nothing is in the slot
abbrev pub IsBare : Lane → Type 0
IsBare l = (l.slot ≡ Empty) × (l.pending ≡ None)

-- the moves that put something into an empty slot
abbrev pub fills : SlotMove → Bool
fills (Awaits port) = true
fills Connects = true
fills (Queues ticket) = true
fills _ = false

-- a slot that is dropped is empty, or stays
pub dropped-bare :
    (b : Bool) (l : Lane) → IsBare l →
    IsBare (record { slot = cond b Empty l.slot; pending = cond b None l.pending; running = l.running })
dropped-bare true l h = (refl, refl)
dropped-bare false l h = h

-- no other move does
pub moved-bare :
    (m : SlotMove) (number : Option ℕ) (queued : Option Pending) (l : Lane) →
    fills m ≡ false → IsBare l →
    IsBare (moved m number queued l)
moved-bare (Awaits port) number queued l f h = cc
moved-bare Connects number queued l f h = cc
moved-bare (Queues ticket) number queued l f h = cc
moved-bare Links number queued l f h = rw (h.0, h.1) (refl, refl)
moved-bare Finishes number queued l f h = rw (h.0, h.1) (refl, refl)
moved-bare m number queued l f h = dropped-bare (empties m l.slot) l h

-- where a session ends nothing is left in its slot
pub lane_after-ended :
    (k : EventKind) (d : Decision) (queued : Option Pending) (l : Lane) →
    lives_on d ≡ false → IsBare (lane_after k d queued l)
lane_after-ended k d queued l e = go (life d) refl e
  where
    go : (x : Life) → life d ≡ x → unwrap_or (told_of_life x) true ≡ false → IsBare (lane_after k d queued l)
    go Ends x y = rw (ending-empties d x) (refl, refl)
    go _ x y = cc

-- only the slot of a live session is filled
pub filled-live :
    (o : Options) (past : List Entry) (at : ℕ) (k : EventKind) (answer : Answer) (d : Decision) →
    due o past at k answer ≡ d → fills (slot_move d) ≡ true →
    IsLive o past k
filled-live o past at k answer d e f = go (slot_move d) refl f
  where
    go : (m : SlotMove) → slot_move d ≡ m → fills m ≡ true → IsLive o past k
    go (Awaits port) x y = (granted-free o past at k answer port (e ∙ awaits-is d port x)).alive
    go Connects x y = (connected-live o past at k answer (e ∙ connects-is d x)).alive
    go (Queues ticket) x y =
        let q : IsQueue o past k ticket = queued-live o past at k answer ticket (e ∙ queues-is d ticket x) in
        record { number = q.number; session_then = q.session_then; named = q.named; known = q.known }
    go m x y = cc

-- after an entry that is decided as it has to be, nothing is in the slot of a session that is not live
pub ended-step :
    (o : Options) (past : List Entry) (e : Entry) (s : ℕ) →
    e.decision ≡ due o past e.event.at e.event.kind e.answer →
    (session o past s ≡ None → IsBare (lane (history o past s))) →
    session o (e ∷ past) s ≡ None →
    IsBare (lane (history o (e ∷ past) s))
ended-step o past e s fit ih none =
    by_part o past e s (λ n. rw (n, opened-is e.event.kind e.decision s n) (refl, refl))
    (λ n c.
    subst (λ (h : List Entry). IsBare (lane h)) (sym (history-own o past e s n c))
    (by_option (session o past s)
    (λ x. moved-bare (slot_move e.decision) (new_number e.event.kind e.decision) (queued_in (history o past s) e) (lane (history o past s)) (unfilled x c (fills (slot_move e.decision)) refl) (ih x))
    (λ v x. by_test (lives_on e.decision)
    (λ l. let z : Some (session_by s e (running_job o past s) v) ≡ None = sym (session-own o past e s v x n c ∙ rw l refl) ∙ none in cc)
    (λ l. lane_after-ended e.event.kind e.decision (queued_in (history o past s) e) (lane (history o past s)) l))))
    (λ n c. subst (λ (h : List Entry). IsBare (lane h)) (sym (history-other o past e s n c)) (ih (sym (session-other o past e s n c) ∙ none)))
  where
    unfilled :
        session o past s ≡ None →
        concerns o past e s ≡ true → (b : Bool) →
        fills (slot_move e.decision) ≡ b → b ≡ false
    unfilled x c false f = refl
    unfilled x c true f =
        let alive : IsLive o past e.event.kind = filled-live o past e.event.at e.event.kind e.answer e.decision (sym fit) f in
        let known : session o past s ≡ Some alive.session_then = subst (λ (n : ℕ). session o past n ≡ Some alive.session_then) (named-concern o past e alive.number s fit alive.named c) alive.known in
        let z : None ≡ Some alive.session_then = sym x ∙ known in
        cc

-- after a right log, nothing is in the slot of a session that has ended, or was never opened
pub ended-empty :
    (o : Options) (log : List Entry) (s : ℕ) → IsRight o log →
    session o (past_of log) s ≡ None →
    IsBare (lane (history o (past_of log) s))
ended-empty o log s r =
    right-past o (λ past. session o past s ≡ None → IsBare (lane (history o past s))) (λ none. (refl, refl))
    (λ log e comes ih. ended-step o (past_of log) e s comes.fit ih) log r

-- a slot that can take a transfer is not empty
pub queue-placed :
    (slot : Slot) (pending : Option Pending) →
    can_queue slot pending ≡ true → slot ≢ Empty
queue-placed Empty pending c e = absurd (true≢false (sym c))
queue-placed (Waits port) pending c e = cc
queue-placed (Linked number) pending c e = cc
