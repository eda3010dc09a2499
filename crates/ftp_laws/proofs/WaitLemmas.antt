-- What a transfer waits for, by its fate.
use Rattle.std.proofs.Common.{◌≡◌, refl, sym, ◌∙◌, ap, subst, ℕ, ◌<◌, Bool, true, false, true≢false, cond, List, [], ◌∷◌, length, Option, Some, None}
use Rattle.std.specs.Prelude.{◌≢◌}
use Rattle.std.specs.List.{list_any}
use Rattle.std.specs.Option.{option_map_or}
use Rattle.std.proofs.lemmas.Option.{same_Some}
use Rattle.ftp_events.specs.declared.session.Slot.TheVariants.{Empty, Waits, Linked}
use Rattle.ftp_events.specs.Fate.{Fate, CompletedAt, CancelledAt, AwaitsConnection, AwaitsItsEnd, AwaitsEarlierEnd, completes, cancels, settlement, is_running, in_slot, wait, fate}
use Rattle.ftp_laws.proofs.Common.{Options, Ticket, Entry, Pending, Running, Session, Slot, IpAddr, is_legacy, past_of, history, holder, lane, session, running_job, is_pending, IsRight}
use Rattle.ftp_laws.specs.Holds.{WaitsOn}
use Rattle.ftp_laws.proofs.TicketLemmas.{same_ticket-equal}
use Rattle.ftp_laws.proofs.QuestionLemmas.{session-told}
use Rattle.ftp_laws.proofs.SoundLemmas.{sound}
use Rattle.ftp_laws.proofs.HoldEndLemmas.{on-waits}
use Rattle.ftp_laws.proofs.PortLemmas.{waits-holds}
use Rattle.ftp_laws.proofs.Cases.{by_option}

-- the fates of a transfer that is not settled
abbrev is_wait : Fate → Bool
is_wait (CompletedAt place) = false
is_wait (CancelledAt place) = false
is_wait _ = true

-- what settles a transfer leaves nothing to wait for
settled-waits : (log : List Entry) (t : Ticket) (f : Fate) → settlement log t ≡ Some f → is_wait f ≡ false
settled-waits [] t f h = cc
settled-waits (e ∷ log) t f h = go (list_any (completes t) e.actions) (list_any (cancels t) e.actions) (settled-waits log t f) h
  where
    go :
        (b c : Bool) → (settlement log t ≡ Some f → is_wait f ≡ false) →
        cond b (Some (CompletedAt (length log))) (cond c (Some (CancelledAt (length log))) (settlement log t)) ≡ Some f →
        is_wait f ≡ false
    go true c before x = ap is_wait (sym (same_Some _ _ x))
    go false true before x = ap is_wait (sym (same_Some _ _ x))
    go false false before x = before x

-- a transfer that waits by its fate waits in the past
fate-waits :
    (o : Options) (log : List Entry) (t : Ticket) (f : Fate) → is_wait f ≡ true →
    fate o log t ≡ Some f → wait o (past_of log) t ≡ Some f
fate-waits o log t f w h = go (settlement log t) refl h
  where
    go :
        (x : Option Fate) → settlement log t ≡ x →
        option_map_or Some x (wait o (past_of log) t) ≡ Some f → wait o (past_of log) t ≡ Some f
    go None x y = y
    go (Some g) x y = absurd (true≢false (sym w ∙ settled-waits log t f (x ∙ y)))

-- a transfer is in the slot of its live session, and waits there for something
record IsInSlot (o : Options) (past : List Entry) (t : Ticket) (f : Fate) : Type 0 where
  view : Session
  known : session o past t.session ≡ Some view
  told : in_slot t view.slot view.pending ≡ Some f

-- what waits and does not run is there
wait-in_slot :
    (o : Options) (past : List Entry) (t : Ticket) (f : Fate) → AwaitsItsEnd ≢ f →
    wait o past t ≡ Some f → IsInSlot o past t f
wait-in_slot o past t f other h = by_run (is_running t (running_job o past t.session)) h
  where
    by_session :
        (v : Option Session) → session o past t.session ≡ v →
        option_map_or (λ v. in_slot t v.slot v.pending) v None ≡ Some f → IsInSlot o past t f
    by_session None x y = cc
    by_session (Some v) x y = record { view = v; known = x; told = y }

    by_run :
        (b : Bool) →
        cond b (Some AwaitsItsEnd) (option_map_or (λ v. in_slot t v.slot v.pending) (session o past t.session) None) ≡ Some f →
        IsInSlot o past t f
    by_run true x = absurd (other (same_Some _ _ x))
    by_run false x = by_session (session o past t.session) refl x

-- a value that is there on a condition
given-if : (b : Bool) (x f : Fate) → cond b (Some x) None ≡ Some f → (b ≡ true) × (x ≡ f)
given-if true x f h = (refl, same_Some _ _ h)
given-if false x f h = cc

-- for an earlier end waits what is in a slot that has a link
in_slot-linked :
    (t : Ticket) (slot : Slot) (pending : Option Pending) →
    in_slot t slot pending ≡ Some AwaitsEarlierEnd →
    (n : ℕ) × (slot ≡ Linked n) × (is_pending t pending ≡ true)
in_slot-linked t (Linked n) pending h = (n, refl, (given-if (is_pending t pending) AwaitsEarlierEnd AwaitsEarlierEnd h).0)
in_slot-linked t (Waits port) pending h =
    let z : AwaitsConnection ≡ AwaitsEarlierEnd = (given-if (is_pending t pending) AwaitsConnection AwaitsEarlierEnd h).1 in cc
in_slot-linked t Empty pending h = cc

-- and for a connection what is in one that waits for a port
in_slot-waits :
    (t : Ticket) (slot : Slot) (pending : Option Pending) →
    in_slot t slot pending ≡ Some AwaitsConnection →
    (p : ℕ) × (slot ≡ Waits p)
in_slot-waits t (Waits port) pending h = (port, refl)
in_slot-waits t (Linked n) pending h =
    let z : AwaitsEarlierEnd ≡ AwaitsConnection = (given-if (is_pending t pending) AwaitsEarlierEnd AwaitsConnection h).1 in cc
in_slot-waits t Empty pending h = cc

-- the transfer that waits is there
pending-is :
    (t : Ticket) (pending : Option Pending) → is_pending t pending ≡ true →
    (p : Pending) × (pending ≡ Some p) × (p.ticket ≡ t)
pending-is t None h = cc
pending-is t (Some p) h = (p, refl, same_ticket-equal p.ticket t h)

-- while a transfer waits for an earlier end an earlier one of its session runs
pub earlier-runs :
    (o : Options) (log : List Entry) (t : Ticket) → IsRight o log →
    fate o log t ≡ Some AwaitsEarlierEnd →
    (r : Running) × (running_job o (past_of log) t.session ≡ Some r) × (r.job.ticket.session ≡ t.session) × (r.job.ticket.nr < t.nr)
earlier-runs o log t r h =
    let w : IsInSlot o (past_of log) t AwaitsEarlierEnd = wait-in_slot o (past_of log) t AwaitsEarlierEnd (λ x. cc) (fate-waits o log t AwaitsEarlierEnd refl h) in
    let told = (session-told o (past_of log) t.session w.view w.known).told in
    let link = in_slot-linked t w.view.slot w.view.pending w.told in
    let p = pending-is t w.view.pending link.2 in
    let slot : (lane (history o (past_of log) t.session)).slot ≡ Linked link.0 = ap (λ (v : Session). v.slot) told ∙ link.1 in
    let pending : (lane (history o (past_of log) t.session)).pending ≡ Some p.0 = ap (λ (v : Session). v.pending) told ∙ p.1 in
    let kept = sound o log t.session r in
    by_option (running_job o (past_of log) t.session) (λ none. absurd (kept.behind link.0 p.0 slot pending none))
    (λ j x. (j, x, (kept.counted.runs j x).0, subst (λ (u : Ticket). j.job.ticket.nr < u.nr) p.2 (kept.earlier p.0 j pending x)))

-- and while one waits for a connection its session holds the port
pub awaited-held :
    (o : Options) (log : List Entry) (t : Ticket) → is_legacy o.mode ≡ false → IsRight o log →
    fate o log t ≡ Some AwaitsConnection →
    (a : IpAddr) × (p : ℕ) × WaitsOn o (past_of log) t.session a p × (holder o (past_of log) a p ≡ Some t.session)
awaited-held o log t m r h =
    let past = past_of log in
    let w : IsInSlot o past t AwaitsConnection = wait-in_slot o past t AwaitsConnection (λ x. cc) (fate-waits o log t AwaitsConnection refl h) in
    let slot = in_slot-waits t w.view.slot w.view.pending w.told in
    let a : IpAddr = w.view.opening.client in
    let on : WaitsOn o past t.session a slot.0 = (w.view, w.known, refl, slot.1) in
    (a, slot.0, on, waits-holds o log m r a slot.0 t.session (on-waits o past t.session a slot.0 on))
