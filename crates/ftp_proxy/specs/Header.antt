-- What the text of a PROXY line says: its words, between single spaces, name the protocol, two addresses and two ports.
use Rattle.std.specs.Prelude.{ℕ, ◌==◌, ◌&&◌, ◌||◌, nat_le, Bool, false, List, [], ◌∷◌, length, codes, is_some, Option, Some, None, Result, Err, if◌then◌else◌}
use Rattle.std.specs.List.{slice_split, list_all}
use Rattle.std.specs.Str.{bytes_eq}
use Rattle.std.specs.Char.{is_ascii_hexdigit}
use Rattle.std.specs.Int.{w32, from_be_bytes}
use Rattle.std.specs.Option.{ok_or, option_map_or}
use Rattle.ftp_base.specs.Decimal.{decimal_below}
use Rattle.ftp_base.specs.declared.net.IpAddr.TheVariants.{V4}
use Rattle.ftp_base.specs.declared.net.SocketAddr.{SocketAddr}
use Rattle.ftp_proxy.specs.declared.header.ProxyHeader.{ProxyHeader}
use Rattle.ftp_proxy.specs.declared.error.ProxyError.{ProxyError}
use Rattle.ftp_proxy.specs.declared.error.ProxyError.TheVariants as error

infixl 10 ◌>>=◌
-- the next step, where this one gave something
abbrev pub ◌>>=◌ : {A B : Type 0} → Option A → (A → Option B) → Option B
(Some x) >>= f = f x
None >>= f = None

-- the pieces of a text between the bytes c
abbrev pub pieces : ℕ → List ℕ → List (List ℕ)
pieces c text = slice_split (λ b. b == c) text

-- the four pieces, where there are just so many
abbrev pub four : {A : Type 0} → List A → Option (A × A × A × A)
four (a ∷ b ∷ c ∷ d ∷ []) = Some (a, b, c, d)
four _ = None

-- the address of version 4 that a text spells: four numbers of a byte, joined by dots
abbrev pub ipv4_of : List ℕ → Option ℕ
ipv4_of text = do
  parts ← four (pieces 46 text)
  a ← decimal_below 256 parts.0
  b ← decimal_below 256 parts.1
  c ← decimal_below 256 parts.2
  d ← decimal_below 256 parts.3
  Some (from_be_bytes w32 (a ∷ b ∷ c ∷ d ∷ []))

-- whether a byte can stand in an address of version 6: a hexadecimal digit of either case, a colon or a dot
abbrev pub is_ipv6_byte : ℕ → Bool
is_ipv6_byte b = is_ascii_hexdigit b || (b == 58 || b == 46)

-- whether a text looks like an address of version 6
abbrev pub is_ipv6 : List ℕ → Bool
is_ipv6 text = nat_le 2 (length text) && nat_le (length text) 45 && list_all is_ipv6_byte text

-- the address and the port that two texts spell
abbrev pub endpoint_of : List ℕ → List ℕ → Option SocketAddr
endpoint_of address number = do
  ip ← ipv4_of address
  port ← decimal_below 65536 number
  Some (record { ip = V4 ip; port = port })

-- the header of these fields: both addresses of version 4, then both ports
abbrev pub tcp4_of : List (List ℕ) → Option ProxyHeader
tcp4_of fields = do
  parts ← four fields
  source ← endpoint_of parts.0 parts.2
  destination ← endpoint_of parts.1 parts.3
  Some (record { source = source; destination = destination })

-- whether these fields are both addresses of version 6, then both ports
abbrev pub is_tcp6 : List (List ℕ) → Bool
is_tcp6 fields =
    option_map_or (λ parts. is_ipv6 parts.0 && is_ipv6 parts.1 && is_some (decimal_below 65536 parts.2) && is_some (decimal_below 65536 parts.3))
    (four fields) false

-- what the fields say under the name of a protocol
abbrev pub protocol_outcome : List ℕ → List (List ℕ) → Result ProxyHeader ProxyError
protocol_outcome protocol fields =
    if bytes_eq protocol (codes "UNKNOWN") then Err error.UnsupportedVersion
    else if bytes_eq protocol (codes "TCP4") then ok_or (tcp4_of fields) error.DecodeError
    else if bytes_eq protocol (codes "TCP6") && is_tcp6 fields then Err error.IPv4Required
    else Err error.DecodeError

-- what the words say
abbrev pub header_outcome : List (List ℕ) → Result ProxyHeader ProxyError
header_outcome (word ∷ protocol ∷ fields) =
    if bytes_eq word (codes "PROXY") then protocol_outcome protocol fields else Err error.DecodeError
header_outcome _ = Err error.DecodeError
