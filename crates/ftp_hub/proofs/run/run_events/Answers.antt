use Rattle.std.proofs.Common.{◌≡◌, ◌∙◌, sym, subst, arith}
use Rattle.ftp_hub.proofs.Common.{Options, options_of, past_of}
use Rattle.ftp_events.specs.Counts.{Counted}
use Rattle.ftp_hub.specs.Stands.{counters_of}
use Rattle.ftp_hub.proofs.Links.{has_links-under}
use Rattle.ftp_hub.proofs.Runs.{goes-on-more, headline-fresh, leads-on, leads-under}
use Rattle.ftp_hub.proofs.run.run_events.Goals as goal

-- one more event
pub loop-event-preserved : goal.loop-event-preserved
loop-event-preserved g c =
    let so_far = c.loop-event.invariant in
    let next = c.in-Ok.ensures in
    record {
      stands = λ stood. next.stands (so_far.stands stood);
      events = goes-on-more c.args.log.now.entries c.loop-event.log.entries c.run_next.new.log.entries c.args.events.now c.loop-event.event-index c.event-item.result so_far.events next.event c.loop-event-test.true c.event-item.is;
      done = omega (arith, so_far.done);
      count = omega (arith, next.count, so_far.count);
      options = next.options ∙ so_far.options;
      counters = λ stood told.
          subst (λ (o : Options). Counted o (past_of c.run_next.new.log.entries) (counters_of c.run_next.new.hub)) so_far.options
          (next.counters (so_far.stands stood)
          (subst (λ (o : Options). Counted o (past_of c.loop-event.log.entries) (counters_of c.loop-event.hub)) (sym so_far.options) (so_far.counters stood told)));
      leads = λ stood has.
          leads-on _ (options_of c.args.hub.now) c.args.log.now.entries c.loop-event.log.entries c.run_next.new.log.entries _ _ _
          (so_far.leads stood has)
          (leads-under _ _ (options_of c.args.hub.now) c.loop-event.log.entries c.run_next.new.log.entries _ _ so_far.options
          (next.leads (so_far.stands stood) (has_links-under _ _ _ _ (sym so_far.options) (so_far.has_links stood has))));
      linked = λ n has. next.linked n (so_far.linked n has);
      has_links = λ stood has.
          has_links-under _ _ _ _ so_far.options
          (next.has_links (so_far.stands stood) (has_links-under _ _ _ _ (sym so_far.options) (so_far.has_links stood has)));
    }

-- the whole run
pub returns-clause-headline : goal.returns-clause-headline
returns-clause-headline g c = λ fresh empty.
    let so_far = c.loop-event.invariant in
    headline-fresh c.args.hub.now c.loop-event.hub c.args.events.now c.loop-event.event-index c.args.log.now.entries c.loop-event.log.entries
    fresh empty so_far.options so_far.stands so_far.events c.loop-event-test.false
