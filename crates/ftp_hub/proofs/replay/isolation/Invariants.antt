use Rattle.std.proofs.Common.{◌≡◌, ◌≤◌, take, reverse}
use Rattle.ftp_base.specs.declared.net.IpAddr.TheVariants.{V4}
use Rattle.ftp_events.specs.Isolation.{client_log}
use Rattle.ftp_events.specs.Right.{events_of}
use Rattle.ftp_hub.specs.Stands.{Stands, count_of, options_of}
use Rattle.ftp_hub.specs.OwnSessions.{Knows}
use Rattle.ftp_hub.proofs.replay.isolation.Given as goal

-- the hub stands for the log of the client's entries so far
abbrev pub invariant-loop-e : goal.invariant-loop-e
invariant-loop-e l = record {
  client : l.own.client ≡ V4 l.source;
  knows : Knows l.own (reverse (take l.e-index l.e-items));
  same_events : events_of l.alone.entries ≡ events_of (client_log (reverse (take l.e-index l.e-items)) (V4 l.source));
  stands : Stands l.hub l.alone.entries;
  options : options_of l.hub ≡ l.fn.options;
  count : count_of l.hub ≤ l.e-index;
}
