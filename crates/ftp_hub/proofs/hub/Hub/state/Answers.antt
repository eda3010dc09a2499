use Rattle.std.proofs.Common.{refl}
use Rattle.ftp_hub.proofs.States.{state-told}
use Rattle.ftp_hub.proofs.Telling.{AreLines, HasLists, hub-formed, hub-told}
use Rattle.ftp_hub.specs.declared.state.HubState.{HubState}
use Rattle.ftp_hub.proofs.hub.Hub.state.Goals as goal

-- the state that is made of the lines
abbrev made : goal.After-from_vec-6 → HubState
made c = record {
  events = c.args.self.now.count;
  stopped = c.args.self.now.stopped;
  used = c.from_vec.result;
  records = c.from_vec-2.result;
  sessions = c.from_vec-3.result;
  slots = c.from_vec-4.result;
  queued = c.from_vec-5.result;
  jobs = c.from_vec-6.result;
}

-- it has these lists
lists : (c : goal.After-from_vec-6) → HasLists (made c) c.in_ok-used.used.items c.in_ok-records.records.items c.in_ok-lines.lines.sessions.items c.in_ok-lines.lines.slots.items c.in_ok-lines.lines.queued.items c.in_ok-jobs.jobs.items
lists c = record {
  used_is = c.from_vec.ensures;
  records_are = c.from_vec-2.ensures;
  sessions_are = c.from_vec-3.ensures;
  slots_are = c.from_vec-4.ensures;
  queued_are = c.from_vec-5.ensures;
  jobs_are = c.from_vec-6.ensures;
}

-- and they are the hub's lines
lines : (c : goal.After-from_vec-6) → AreLines c.args.self.now c.in_ok-used.used.items c.in_ok-records.records.items c.in_ok-lines.lines.sessions.items c.in_ok-lines.lines.slots.items c.in_ok-lines.lines.queued.items c.in_ok-jobs.jobs.items
lines c = record {
  numbers = c.in_ok-used.ensures.same;
  apart = c.in_ok-used.ensures.apart;
  failures = c.in_ok-records.ensures.told;
  form = c.in_ok-records.ensures.form;
  live = c.in_ok-lines.ensures;
  running = c.in_ok-jobs.ensures;
}

-- the state is told by its lines
pub returns-clause-tells : goal.returns-clause-tells
returns-clause-tells c log st = hub-told c.args.self.now log (made c) _ _ _ _ _ _ st (lists c) (lines c) refl refl

-- so it is that of the log
pub returns-clause-state : goal.returns-clause-state
returns-clause-state c log st = state-told c.args.self.now log _ (returns-clause-tells c log st) st

-- its lists have the order and the form of lines
pub returns-clause-form : goal.returns-clause-form
returns-clause-form c log st = hub-formed c.args.self.now log (made c) _ _ _ _ _ _ st (lists c) (lines c)
