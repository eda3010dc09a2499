-- Addresses of peers.
use Rattle.std.specs.Prelude.{ℕ, Bool, true, false, ◌==◌, Option, Some, None}
use Rattle.ftp_base.specs.declared.net.IpAddr.{IpAddr}
use Rattle.ftp_base.specs.declared.net.IpAddr.TheVariants.{V4, V6}

-- the same address of the same version
abbrev pub same_ip : IpAddr → IpAddr → Bool
same_ip (V4 a) (V4 b) = a == b
same_ip (V6 a) (V6 b) = a == b
same_ip (V4 a) (V6 b) = false
same_ip (V6 a) (V4 b) = false

-- an address of version 6
abbrev pub is_v6 : IpAddr → Bool
is_v6 (V4 a) = false
is_v6 (V6 a) = true

-- the number of an address of version 4
abbrev pub ipv4 : IpAddr → Option ℕ
ipv4 (V4 a) = Some a
ipv4 (V6 a) = None
