use Rattle.std.proofs.Common.{◌≡◌, refl, sym, ap, ◌∙◌, subst, ◌+◌, ◌++◌, true, false, Option, Some, None, [], ◌∷◌, arith}
use Rattle.std.specs.Prelude.{nat_eq, IsSomeAnd}
use Rattle.std.specs.HashMap as map
use Rattle.ftp_hub.proofs.Common.{Answer, EventKind, IsFew, Running, Session, Ticket, has, running_after}
use Rattle.ftp_events.specs.declared.action.Action.TheVariants as action
use Rattle.ftp_events.specs.declared.decision.Decision.TheVariants as decision
use Rattle.ftp_events.specs.declared.event.Answer.TheVariants.{Done}
use Rattle.ftp_events.specs.declared.event.EventKind.TheVariants as kind
use Rattle.ftp_events.specs.EndRows.{can_end}
use Rattle.ftp_laws.proofs.RunningLemmas.{runs-started}
use Rattle.ftp_hub.proofs.Named.{few-counts}
use Rattle.ftp_hub.proofs.Ends.{finish-due, finished-passes, serves-ended, serves-lost}
use Rattle.ftp_hub.proofs.hub.Hub.finish.Goals as goal

-- a session that has ended
pub returns-in-None-clause-serves : goal.returns-in-None-clause-serves
returns-in-None-clause-serves c log st =
    let t = c.args.ticket in
    let k : EventKind = c.args.event.now.kind in
    let o = c.args.self.now.options in
    let a : Answer = Done c.args.outcome in
    let job : Running = c.in-Some.job in
    let there : map.get nat_eq c.args.self.now.jobs t.session ≡ Some job = sym c.take.ensures.value ∙ c.in-Some.is in
    let known = subst (λ (x : Option Running). IsSomeAnd x (λ (r : Running). (r.job.ticket ≡ t) × (r.marked ≡ false) × (can_end r.job c.args.outcome ≡ true))) there c.requires.runs in
    let told = c.requires.of_this_event in
    let done = c.complete.ensures.actions ∙ ap (λ xs. xs ++ action.Completed t false ∷ []) c.requires.fits.ready.actions in
    serves-lost c.args.self.now _ log c.args.event.now a decision.Finished _ t job _ st finished-passes told there (sym c.in-None.ensures.value)
    (finish-due c.args.self.now log c.args.event.now c.args.outcome t job st told there known.0 known.1 known.2)
    (done ∙ rw told refl)
    (λ number queued l bare ran. rw bare refl)
    refl c.get_mut.follows.holds-at-none c.take.ensures.updates
    (omega (arith, rw c.in-Some.is at c.take.ensures.len, ap (λ xs. running_after decision.Finished xs (map.hash_map_len c.args.self.now.jobs)) done))
    refl refl refl refl

-- a live session
pub returns-in-Some-get_mut-clause-serves : goal.returns-in-Some-get_mut-clause-serves
returns-in-Some-get_mut-clause-serves c log st =
    let t : Ticket = c.args.ticket in
    let job : Running = c.in-Some.job in
    let v : Session = c.in-Some-get_mut.session.now in
    let told = c.requires.of_this_event in
    let there_job : map.get nat_eq c.args.self.now.jobs t.session ≡ Some job = sym c.take.ensures.value ∙ c.in-Some.is in
    let known = subst (λ (x : Option Running). IsSomeAnd x (λ (r : Running). (r.job.ticket ≡ t) × (r.marked ≡ false) × (can_end r.job c.args.outcome ≡ true))) there_job c.requires.runs in
    let there : map.get nat_eq c.args.self.now.sessions t.session ≡ Some v = sym c.in-Some-get_mut.ensures.value in
    let few : IsFew v = few-counts c.args.self.now log t.session v st c.requires.fits.below (sym (st.tables.sessions t.session) ∙ there) in
    let lent = c.get_mut.follows.holds c.finish.new.session in
    serves-ended c.args.self.now _ log c.args.event.now (Done c.args.outcome) decision.Finished _ t job v c.finish.new.session c.take.new.table st finished-passes told there_job there known.0
    (finish-due c.args.self.now log c.args.event.now c.args.outcome t job st told there_job known.0 known.1 known.2)
    (c.finish.ensures.actions few.notices) refl
    (c.finish.ensures.session few.notices) refl
    (record { table = (lent.3 (rw there refl)).0; live = lent.2 })
    c.take.ensures.updates (omega (arith, rw c.in-Some.is at c.take.ensures.len)) c.finish.ensures.starts refl (sym (runs-started v.slot v.pending None)) (rw told refl)
    (λ client waited a p before. refl) refl refl refl refl refl
