use Rattle.std.proofs.Common.{◌≡◌, refl, sym, ap, ◌∙◌, subst, true, false, Option, Some, None, [], add-zero}
use Rattle.std.specs.Prelude.{nat_eq, IsSomeAnd}
use Rattle.std.specs.HashMap as map
use Rattle.std.specs.Option.{option_copied_mut, option_map}
use Rattle.ftp_hub.proofs.Common.{Answer, EventKind, Jobs, Running, Session, Ticket, has, job_ticket, kept_running, session_acts, session_after}
use Rattle.ftp_events.specs.declared.decision.Decision.TheVariants as decision
use Rattle.ftp_events.specs.declared.event.Answer.TheVariants.{Moved}
use Rattle.ftp_events.specs.declared.event.EventKind.TheVariants.{Piece}
use Rattle.ftp_events.specs.EndRows.{can_move}
use Rattle.ftp_events.specs.Slot.{raise}
use Rattle.ftp_hub.proofs.Decisions.{changed-at}
use Rattle.ftp_hub.proofs.Moved.{jobs-kept, sessions-stay}
use Rattle.ftp_hub.proofs.Running.{running-none}
use Rattle.ftp_hub.proofs.Ends.{move-due, moved-passes, serves-lost, serves-told}
use Rattle.ftp_hub.proofs.hub.Hub.go_on.Goals as goal

-- a session that has ended
pub returns-in_default-get_mut-clause-serves : goal.returns-in_default-get_mut-clause-serves
returns-in_default-get_mut-clause-serves c log st =
    let t : Ticket = c.args.ticket in
    let s = t.session in
    let a : Answer = Moved c.args.bytes in
    let jobs : Jobs = c.args.self.now.jobs in
    let job : Running = c.in-Some.running.now in
    let is = c.requires.of_this_event in
    let there : map.get nat_eq jobs s ≡ Some job = sym c.get_mut.ensures.value ∙ ap option_copied_mut c.in-Some.is in
    let known = subst (λ (x : Option Running). IsSomeAnd x (λ (r : Running). (r.job.ticket ≡ t) × (r.marked ≡ false) × (can_move r.job c.args.bytes ≡ true))) there c.requires.runs in
    let none : map.get nat_eq c.args.self.now.sessions s ≡ None = sym c.in_default-get_mut.ensures.value in
    let lent = c.get_mut.follows.holds (raise c.args.bytes job) in
    serves-lost c.args.self.now _ log c.args.event.now a decision.Moved [] t job (Some (raise c.args.bytes job)) st moved-passes (ap job_ticket is) there none
    (move-due c.args.self.now log c.args.event.now c.args.bytes t job st is there known.0 known.1 known.2)
    refl
    (λ number queued l bare ran. ap (option_map (raise c.args.bytes)) ran)
    refl c.get_mut-2.follows.holds-at-none
    (λ q. (lent.3 (rw there refl)).0 q)
    (lent.2 ∙ sym (running-none decision.Moved [] (map.hash_map_len jobs) refl refl))
    refl refl refl refl

-- a live session
pub returns-in-Some-get_mut-clause-serves : goal.returns-in-Some-get_mut-clause-serves
returns-in-Some-get_mut-clause-serves c log st =
    let t : Ticket = c.args.ticket in
    let s = t.session in
    let at = c.args.event.now.at in
    let o = c.args.self.now.options in
    let k : EventKind = c.args.event.now.kind in
    let a : Answer = Moved c.args.bytes in
    let jobs : Jobs = c.args.self.now.jobs in
    let job : Running = c.in-Some.running.now in
    let v : Session = c.in-Some-get_mut.session.now in
    let is = c.requires.of_this_event in
    let there_job : map.get nat_eq jobs s ≡ Some job = sym c.get_mut.ensures.value ∙ ap option_copied_mut c.in-Some.is in
    let known = subst (λ (x : Option Running). IsSomeAnd x (λ (r : Running). (r.job.ticket ≡ t) × (r.marked ≡ false) × (can_move r.job c.args.bytes ≡ true))) there_job c.requires.runs in
    let there : map.get nat_eq c.args.self.now.sessions s ≡ Some v = sym c.in-Some-get_mut.ensures.value in
    let after : Session = record v { active_at = at } in
    let lent_job = c.get_mut.follows.holds (raise c.args.bytes job) in
    let lent = c.get_mut-2.follows.holds after in
    let acts : [] ≡ session_acts o s k a decision.Moved (map.get nat_eq jobs s) (Some v) =
    ap (λ (x : EventKind). session_acts o s x a decision.Moved (map.get nat_eq jobs s) (Some v)) (sym is)
    in
    let unchanged : after ≡ session_after at (Piece t) a decision.Moved 0 (map.get nat_eq jobs s) v =
    λ i. record v { active_at = at; notices = sym (add-zero v.notices) i; tickets = sym (add-zero v.tickets) i }
    in
    serves-told c.args.self.now _ log c.args.event.now a decision.Moved [] t v after st moved-passes (ap job_ticket is) there
    (move-due c.args.self.now log c.args.event.now c.args.bytes t job st is there_job known.0 known.1 known.2)
    acts
    (record {
      options = refl;
      session = unchanged ∙ ap (λ (x : EventKind). session_after at x a decision.Moved 0 (map.get nat_eq jobs s) v) (sym is);
      sessions = sessions-stay c.args.self.now.sessions _ decision.Moved s after refl (λ n. refl) (λ q. (lent.3 (rw there refl)).0 q) lent.2;
      jobs =
          jobs-kept jobs _ o s k a a decision.Moved [] s v (record { unfinished = refl; starts = λ k queued l. refl }) (λ job. refl)
          (λ q. (lent_job.3 (rw there_job refl)).0 q ∙ changed-at (map.get nat_eq jobs) (kept_running decision.Moved a) s q (Some (raise c.args.bytes job)) (ap (option_map (raise c.args.bytes)) there_job))
          lent_job.2 acts;
    })
    (λ client waited a p before. refl) refl refl refl refl
