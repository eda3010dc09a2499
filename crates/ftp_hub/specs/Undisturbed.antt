-- Where no other client can change what one is served.
use Rattle.std.specs.Prelude.{◌≡◌, true, false, List}
use Rattle.ftp_base.specs.declared.net.IpAddr.{IpAddr}
use Rattle.ftp_options.specs.declared.options.Options.{Options}
use Rattle.ftp_options.specs.Modes.{is_legacy}
use Rattle.ftp_events.specs.declared.entry.Entry.{Entry}
use Rattle.ftp_events.specs.Isolation.{IsApart, locks_by_address}
use Rattle.ftp_events.specs.Right.{IsRight, IsActed}

-- the log is right and acted, its sessions share the passive ports, failed logins of one address lock no other, and nobody
-- else brings in a number of client a
pub record IsUndisturbed (o : Options) (log : List Entry) (a : IpAddr) : Type 0 where
  pub right : IsRight o log
  pub acted : IsActed o log
  pub shared : is_legacy o.mode ≡ false
  pub by_address : locks_by_address o.lockout ≡ true
  pub apart : IsApart log a
