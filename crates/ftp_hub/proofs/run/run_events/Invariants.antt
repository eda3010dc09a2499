use Rattle.std.proofs.Common.{◌≡◌, ◌+◌, ℕ, true, take}
use Rattle.ftp_events.specs.Leads.{beside, views}
use Rattle.ftp_hub.specs.Runs.{CountersGoOn, GoesOn, LeadsFrom, StaysLinked, is_linked}
use Rattle.ftp_hub.specs.Stands.{Stands, options_of, count_of}
use Rattle.ftp_hub.proofs.run.run_events.Given as goal

-- the hub stands for the log, which goes on by the events so far, and did to storage and links what it says
abbrev pub invariant-loop-event : goal.invariant-loop-event
invariant-loop-event g l = record {
  stands : Stands l.fn.hub l.fn.log.entries → Stands l.hub l.log.entries;
  events : GoesOn l.fn.log.entries l.log.entries (take l.event-index l.events);
  done : l.done ≡ l.event-index;
  count : count_of l.hub ≡ count_of l.fn.hub + l.event-index;
  options : options_of l.hub ≡ options_of l.fn.hub;
  counters : CountersGoOn l.fn.hub l.hub l.fn.log.entries l.log.entries;
  leads :
      LeadsFrom
      (views g.S.Storage.files g.S.Storage.rule g.S.Storage.faults g.S.Storage.fault_limit g.S.Storage.calls
      g.L.Source.left g.L.Source.sending g.L.Source.faults g.L.Source.fault_limit g.L.Source.calls)
      l.fn.hub l.fn.log.entries l.log.entries (beside l.fn.storage l.fn.links) (beside l.storage l.links);
  linked : (n : ℕ) → is_linked l.fn.links n ≡ true → is_linked l.links n ≡ true;
  has_links : StaysLinked l.fn.hub l.fn.log.entries l.log.entries l.fn.links l.links;
}
