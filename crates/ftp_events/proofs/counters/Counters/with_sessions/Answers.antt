use Rattle.std.proofs.Common.{refl}
use Rattle.ftp_events.proofs.counters.Counters.with_sessions.Goals as goal

-- nothing else is counted than in new counters
pub returns-clause-others : goal.returns-clause-others
returns-clause-others c o =
    let none = c.new-counters.ensures.none o in
    record {
      session = refl;
      opened = none.opened;
      failures = none.failures;
      sent = none.sent;
      received = none.received;
      transferred = none.transferred;
      read = none.read;
      written = none.written;
      replies = none.replies;
    }
