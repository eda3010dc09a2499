-- Which address a passive reply shows.
use Rattle.std.specs.Prelude.{ℕ, Bool, false, Option, Some}
use Rattle.ftp_base.specs.declared.net.IpAddr.{IpAddr}
use Rattle.ftp_base.specs.Net.{ipv4, is_v6}
use Rattle.ftp_options.specs.declared.host.PassiveHost.{PassiveHost}
use Rattle.ftp_options.specs.declared.host.PassiveHost.TheVariants.{FromConnection, Ip, Dns}

-- the one that the client called, the fixed one, or what the name was looked up to
abbrev pub shown : PassiveHost → IpAddr → Option ℕ → Option ℕ
shown FromConnection called lookup = ipv4 called
shown (Ip ip) called lookup = Some ip
shown (Dns name) called lookup = lookup

-- the client called an address of version 6, which no passive reply can show
abbrev pub lacks_address : PassiveHost → IpAddr → Bool
lacks_address FromConnection called = is_v6 called
lacks_address _ called = false
