use Rattle.std.proofs.Common.{◌≡◌, sym, ap, ◌∙◌, ◌∷◌, subst, true, false}
use Rattle.ftp_events.specs.Counts.{Counted}
use Rattle.ftp_events.specs.Right.{next_entry}
use Rattle.ftp_hub.specs.Runs.{has_link_of, job_due}
use Rattle.ftp_hub.specs.Stands.{counters_of}
use Rattle.ftp_hub.proofs.Common.{Options, options_of, past_of}
use Rattle.ftp_hub.proofs.Refusals.{counted-same, stands-same}
use Rattle.ftp_hub.proofs.Runs.{leads-one-under}
use Rattle.ftp_hub.proofs.run.run_event.Goals as goal

-- a prepared hub stands for the same log
pub returns-in-Ok-clause-stands : goal.returns-in-Ok-clause-stands
returns-in-Ok-clause-stands g c log st = c.run_prepared.ensures.stands log (stands-same c.args.hub.now c.prepare.new.self log c.prepare.ensures.same st)

-- with the same options
pub returns-in-Ok-clause-due : goal.returns-in-Ok-clause-due
returns-in-Ok-clause-due g c log st =
    let same = c.prepare.ensures.same in
    c.run_prepared.ensures.due log (stands-same c.args.hub.now c.prepare.new.self log same st)
    ∙ ap (λ (o : Options). next_entry o log c.args.event c.run_prepared.result.answer) same.head.options

pub returns-in-Ok-clause-leads : goal.returns-in-Ok-clause-leads
returns-in-Ok-clause-leads g c log st has =
    let same = c.prepare.ensures.same in
    leads-one-under _ (options_of c.prepare.new.self) (options_of c.args.hub.now) (past_of log) c.run_prepared.result _ _ same.head.options
    (c.run_prepared.ensures.leads log (stands-same c.args.hub.now c.prepare.new.self log same st)
    (subst (λ (o : Options). has_link_of c.args.links.now (job_due o (past_of log) c.args.event.kind) ≡ true) (sym same.head.options) has))

pub returns-in-Ok-clause-lacks : goal.returns-in-Ok-clause-lacks
returns-in-Ok-clause-lacks g c log st none =
    let same = c.prepare.ensures.same in
    c.run_prepared.ensures.lacks log (stands-same c.args.hub.now c.prepare.new.self log same st)
    (subst (λ (o : Options). has_link_of c.args.links.now (job_due o (past_of log) c.args.event.kind) ≡ false) (sym same.head.options) none)

-- and has counted the same
pub returns-in-Ok-clause-counters : goal.returns-in-Ok-clause-counters
returns-in-Ok-clause-counters g c log st told =
    let old = c.args.hub.now in
    let ready = c.prepare.new.self in
    let same = c.prepare.ensures.same in
    subst (λ (o : Options). Counted o (past_of (c.run_prepared.result ∷ log)) (counters_of c.run_prepared.new.hub)) same.head.options
    (c.run_prepared.ensures.counters log (stands-same old ready log same st) (counted-same old ready (past_of log) same told))
