use Rattle.std.proofs.Common.{◌≡◌, refl, sym, ap, ◌∙◌, subst, ◌+◌, ◌++◌, true, false, Option, Some, None, arith}
use Rattle.std.specs.Prelude.{nat_eq, IsSomeAnd}
use Rattle.std.specs.HashMap as map
use Rattle.ftp_hub.proofs.Common.{Answer, EventKind, Running, Session, Ticket, has, running_after}
use Rattle.ftp_events.specs.declared.decision.Decision.TheVariants as decision
use Rattle.ftp_events.specs.declared.event.EventKind.TheVariants as kind
use Rattle.ftp_events.specs.Acts.{cancelled, closings}
use Rattle.ftp_laws.proofs.RunningLemmas.{runs-started}
use Rattle.ftp_hub.proofs.Ends.{cut-due, cut-passes, serves-ended, serves-lost}
use Rattle.ftp_hub.proofs.hub.Hub.cut.Goals as goal

-- a session that has ended
pub returns-in-None-clause-serves : goal.returns-in-None-clause-serves
returns-in-None-clause-serves c log given st =
    let t : Ticket = c.args.ticket in
    let k : EventKind = c.args.event.now.kind in
    let a : Answer = given in
    let job : Running = c.in-Some.job in
    let there : map.get nat_eq c.args.self.now.jobs t.session ≡ Some job = sym c.take.ensures.value ∙ c.in-Some.is in
    let known = subst (λ (x : Option Running). IsSomeAnd x (λ (r : Running). (r.job.ticket ≡ t) × (r.marked ≡ true))) there c.requires.runs in
    let told = c.requires.of_this_event in
    let done =
    c.cut.ensures.actions
    ∙ ap (λ xs. xs ++ cancelled t.session false t ++ closings (Some job.job.number)) c.requires.fits.ready.actions
    ∙ ap (λ (x : Ticket). cancelled t.session false x ++ closings (Some job.job.number)) (sym known.0)
    in
    serves-lost c.args.self.now _ log c.args.event.now a decision.Cut _ t job _ st cut-passes told there (sym c.in-None.ensures.value)
    (cut-due c.args.self.now log c.args.event.now a t job st told there known.0 known.1)
    done
    (λ number queued l bare ran. rw bare refl)
    refl c.get_mut.follows.holds-at-none c.take.ensures.updates
    (omega (arith, rw c.in-Some.is at c.take.ensures.len, ap (λ xs. running_after decision.Cut xs (map.hash_map_len c.args.self.now.jobs)) done))
    refl refl refl refl

-- a live session
pub returns-in-Some-get_mut-clause-serves : goal.returns-in-Some-get_mut-clause-serves
returns-in-Some-get_mut-clause-serves c log given st =
    let t : Ticket = c.args.ticket in
    let job : Running = c.in-Some.job in
    let v : Session = c.in-Some-get_mut.session.now in
    let told = c.requires.of_this_event in
    let there_job : map.get nat_eq c.args.self.now.jobs t.session ≡ Some job = sym c.take.ensures.value ∙ c.in-Some.is in
    let known = subst (λ (x : Option Running). IsSomeAnd x (λ (r : Running). (r.job.ticket ≡ t) × (r.marked ≡ true))) there_job c.requires.runs in
    let there : map.get nat_eq c.args.self.now.sessions t.session ≡ Some v = sym c.in-Some-get_mut.ensures.value in
    let lent = c.get_mut.follows.holds c.cut-in-Some-get_mut.new.session in
    serves-ended c.args.self.now _ log c.args.event.now given decision.Cut _ t job v c.cut-in-Some-get_mut.new.session c.take.new.table st cut-passes told there_job there known.0
    (cut-due c.args.self.now log c.args.event.now given t job st told there_job known.0 known.1)
    (c.cut-in-Some-get_mut.ensures.actions c.args.self.now.options given) refl
    (c.cut-in-Some-get_mut.ensures.session given) refl
    (record { table = (lent.3 (rw there refl)).0; live = lent.2 })
    c.take.ensures.updates (omega (arith, rw c.in-Some.is at c.take.ensures.len)) c.cut-in-Some-get_mut.ensures.starts refl (sym (runs-started v.slot v.pending None)) refl
    (λ client waited a p before. refl) refl refl refl refl refl
