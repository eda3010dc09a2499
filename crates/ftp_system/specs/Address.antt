-- Addresses of the system beside our own.
--   told a           our own address for one of the system
--   IsStdAddress     the system's address says the same as our own
use Rattle.std.specs.Prelude.{◌≡◌}
use Rattle.std.specs.declared.net.ip_addr.IpAddr.{IpAddr as StdIp}
use Rattle.std.specs.declared.net.ip_addr.IpAddr.TheVariants as std
use Rattle.std.specs.declared.net.socket_addr.SocketAddr.{SocketAddr as StdAddress}
use Rattle.std.specs.Net.Addr.{ipv4_bits, ipv6_bits, IsIpv4OfBits, IsIpv6OfBits}
use Rattle.std.specs.Net.Socket.{socket_ip, socket_port}
use Rattle.ftp_base.specs.declared.net.IpAddr.{IpAddr}
use Rattle.ftp_base.specs.declared.net.IpAddr.TheVariants as our
use Rattle.ftp_base.specs.declared.net.SocketAddr.{SocketAddr}

-- our own IP address for one of the system
abbrev pub told_ip : StdIp → IpAddr
told_ip (std.V4 ip) = our.V4 (ipv4_bits ip)
told_ip (std.V6 ip) = our.V6 (ipv6_bits ip)

-- our own address for one of the system
abbrev pub told : StdAddress → SocketAddr
told address = record { ip = told_ip (socket_ip address); port = socket_port address }

-- the system's IP address has the bits of our own
abbrev pub IsStdIp : IpAddr → StdIp → Type 0
IsStdIp (our.V4 bits) (std.V4 ip) = IsIpv4OfBits ip bits
IsStdIp (our.V6 bits) (std.V6 ip) = IsIpv6OfBits ip bits
IsStdIp _ _ = ⊥

-- the system's address has the IP address and the port of our own
abbrev pub IsStdAddress : SocketAddr → StdAddress → Type 0
IsStdAddress ours systems = IsStdIp ours.ip (socket_ip systems) × (socket_port systems ≡ ours.port)
