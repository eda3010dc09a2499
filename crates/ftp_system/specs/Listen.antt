-- Texts that say where a server listens: `x:port` and `[y]:port`.
--   IsHostText text ip    the text writes an address, of version 6 in brackets
--   IsBindText text at    the text writes an address and a port
use Rattle.std.specs.Prelude.{◌≡◌, ℕ, List, ◌++◌, codes, Some}
use Rattle.std.specs.declared.net.ipv4_addr.Ipv4Addr.{Ipv4Addr}
use Rattle.std.specs.declared.net.ipv6_addr.Ipv6Addr.{Ipv6Addr}
use Rattle.std.specs.Net.Addr.{ipv4_bits, ipv6_bits}
use Rattle.std.specs.Net.Grammar.{IsIpv4Text, IsIpv6Text}
use Rattle.ftp_base.specs.declared.net.IpAddr.{IpAddr}
use Rattle.ftp_base.specs.declared.net.IpAddr.TheVariants.{V4, V6}
use Rattle.ftp_base.specs.declared.net.SocketAddr.{SocketAddr}
use Rattle.ftp_base.specs.Decimal.{decimal_below}

-- the text writes this address, one of version 6 between brackets
abbrev pub IsHostText : List ℕ → IpAddr → Type 0
IsHostText text (V4 bits) = (a : Ipv4Addr) × IsIpv4Text text a × (bits ≡ ipv4_bits a)
IsHostText text (V6 bits) =
    (inner : List ℕ) × (a : Ipv6Addr) × (text ≡ codes "[" ++ inner ++ codes "]") × IsIpv6Text inner a × (bits ≡ ipv6_bits a)

-- the text writes this address and, behind a colon, this port in decimal digits, of which a zero leads no other
pub record IsBindText (text : List ℕ) (at : SocketAddr) : Type 0 where
  pub host : List ℕ
  pub digits : List ℕ
  pub spelled : text ≡ host ++ (codes ":" ++ digits)
  pub address : IsHostText host at.ip
  pub number : decimal_below 65536 digits ≡ Some at.port
