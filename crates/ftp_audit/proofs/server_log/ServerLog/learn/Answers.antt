use Rattle.std.proofs.Common.{◌≡◌, ◌∙◌, refl, sym, ap, ℕ, Bool, true, false, cond, Option}
use Rattle.std.specs.Prelude.{nat_eq}
use Rattle.std.specs.HashMap as map
use Rattle.std.specs.Option.{option_and_then, option_map}
use Rattle.std.proofs.lemmas.Result.{on_ok_weaker}
use Rattle.ftp_transfer.specs.declared.job.Ticket.{Ticket}
use Rattle.ftp_events.specs.declared.decision.Decision.{Decision}
use Rattle.ftp_events.specs.declared.decision.Decision.TheVariants.{Queued}
use Rattle.ftp_events.specs.declared.entry.Entry.{Entry}
use Rattle.ftp_events.specs.Classes.{life}
use Rattle.ftp_events.specs.Login.{logged_user}
use Rattle.ftp_events.specs.Slot.{queued_by}
use Rattle.ftp_events.specs.Transfer.{same_ticket}
use Rattle.ftp_laws.specs.Fates.{queues}
use Rattle.ftp_laws.proofs.Cases.{by_test}
use Rattle.ftp_laws.proofs.ClassLemmas.{queued-as}
use Rattle.ftp_laws.proofs.TicketLemmas.{same_ticket-equal}
use Rattle.ftp_audit.specs.declared.guest.Guest.{Guest}
use Rattle.ftp_audit.specs.declared.request.Request.{Request}
use Rattle.ftp_audit.specs.Requests.{request_asked, request_of}
use Rattle.ftp_audit.specs.Tickets.{request_at}
use Rattle.ftp_audit.proofs.GuestLemmas.{guest_by-quiet, is_quiet}
use Rattle.ftp_audit.proofs.server_log.ServerLog.learn.Goals as goal

-- the transfer that a decision queues for a session
abbrev made : Entry → Decision → Guest → Option Request
made e d g = option_map (request_of g.client) (queued_by d e.event.kind (logged_user g.login g.name) g.cwd 0)

-- what is queued is asked for
asked-is :
    (e : Entry) (ticket t : Ticket) (guests : ℕ → Option Guest) (old : Option Request) → e.decision ≡ Queued ticket →
    cond (same_ticket ticket t) (option_and_then (made e (Queued ticket)) (guests ticket.session)) old ≡ request_asked e t (guests t.session) old
asked-is e ticket t guests old is = go (same_ticket ticket t) refl
  where
    queued : queues t e.decision ≡ same_ticket ticket t
    queued = ap (queues t) is

    go :
        (b : Bool) → same_ticket ticket t ≡ b →
        cond b (option_and_then (made e (Queued ticket)) (guests ticket.session)) old ≡ request_asked e t (guests t.session) old
    go true x =
        ap (λ (d : Decision). option_and_then (made e d) (guests ticket.session)) (sym is)
        ∙ (ap (λ (u : Ticket). option_and_then (made e e.decision) (guests u.session)) (same_ticket-equal ticket t x)
        ∙ ap (λ (b : Bool). cond b (option_and_then (made e e.decision) (guests t.session)) old) (sym (queued ∙ x)))
    go false x = ap (λ (b : Bool). cond b (option_and_then (made e e.decision) (guests t.session)) old) (sym (queued ∙ x))

pub returns-in-Queued-clause-learnt : goal.returns-in-Queued-clause-learnt
returns-in-Queued-clause-learnt c =
    let e : Entry = c.args.entry.now in
    let guests : ℕ → Option Guest = λ s. map.get nat_eq c.args.self.now.guests s in
    on_ok_weaker c.ask.result
    (λ asked. record {
      form = refl;
      start = refl;
      guests = λ s. sym (guest_by-quiet e s (guests s) (ap life c.in-Queued.is) (ap is_quiet c.in-Queued.is));
      requests = λ t. asked t ∙ asked-is e c.in-Queued.ticket t guests (request_at c.args.self.now.requests t) c.in-Queued.is;
      locked = refl;
    })
    c.ask.ensures.asked

-- nothing is queued by another decision
unasked : (e : Entry) (t : Ticket) (g : Option Guest) (old : Option Request) → ((x : Ticket) → e.decision ≡ Queued x → ⊥) → old ≡ request_asked e t g old
unasked e t g old other =
    let none : queues t e.decision ≡ false = by_test (queues t e.decision) (λ x. absurd (other t (queued-as t e.decision x))) (λ x. x) in
    ap (λ (b : Bool). cond b (option_and_then (made e e.decision) g) old) (sym none)

pub returns-in_default-clause-learnt : goal.returns-in_default-clause-learnt
returns-in_default-clause-learnt c =
    on_ok_weaker c.hear.result
    (λ heard. record {
      form = refl;
      start = refl;
      guests = heard;
      requests = λ t. unasked c.args.entry.now t (map.get nat_eq c.args.self.now.guests t.session) (request_at c.args.self.now.requests t) c.in_default.not-Queued;
      locked = refl;
    })
    c.hear.ensures.heard
