-- A header of version 2 and its bytes (the PROXY protocol's text, section 2.2).
--
--   signature      twelve bytes that no line of version 1 begins with
--   command_of     version 2 in the high four bits; in the low ones 0 for local and 1 for proxy
--   block_of       addresses and fields, or a block that is not looked into
--   header_bytes   signature, command, family, the block's length, block
--   IsHeader       the bytes are the header
use Rattle.std.specs.Prelude.{◌≡◌, ℕ, ◌+◌, ◌*◌, ◌^◌, ◌<◌, ◌==◌, ◌&&◌, ◌||◌, not, nat_le, Bool, true, List, [], ◌∷◌, ◌++◌, length, Option, Some, None, Result, Ok, Err, if◌then◌else◌}
use Rattle.std.specs.List.{flat_map}
use Rattle.std.specs.Int.{w16, w32, w128, to_be_bytes}
use Rattle.ftp_base.specs.declared.net.IpAddr.{IpAddr}
use Rattle.ftp_base.specs.declared.net.IpAddr.TheVariants.{V4, V6}
use Rattle.ftp_base.specs.declared.net.SocketAddrPair.{SocketAddrPair}
use Rattle.ftp_base.specs.Net.{is_v6}
use Rattle.ftp_proxy.specs.declared.v2_header.Header2.{Header2}
use Rattle.ftp_proxy.specs.declared.v2_header.Body.{Body}
use Rattle.ftp_proxy.specs.declared.v2_header.Body.TheVariants.{LocalBlock, UnspecBlock, Inet, Inet6, Unix}
use Rattle.ftp_proxy.specs.declared.v2_header.Field.{Field}
use Rattle.ftp_proxy.specs.declared.v2_error.Encode2Error.{Encode2Error}
use Rattle.ftp_proxy.specs.declared.v2_error.Encode2Error.TheVariants.{OutOfMemory}

-- CR LF CR LF NUL CR LF "QUIT" LF
abbrev pub signature : List ℕ
signature = 13 ∷ 10 ∷ 13 ∷ 10 ∷ 0 ∷ 13 ∷ 10 ∷ 81 ∷ 85 ∷ 73 ∷ 84 ∷ 10 ∷ []

-- the byte of version and command
abbrev pub command_of : Body → ℕ
command_of (LocalBlock block) = 32
command_of _ = 33

-- the bytes of an address, the high ones first
abbrev pub ip_bytes : IpAddr → List ℕ
ip_bytes (V4 ip) = to_be_bytes w32 ip
ip_bytes (V6 ip) = to_be_bytes w128 ip

-- source, destination, source port, destination port
abbrev pub pair_bytes : SocketAddrPair → List ℕ
pair_bytes pair =
    ip_bytes pair.source.ip ++ (ip_bytes pair.destination.ip ++ (to_be_bytes w16 pair.source.port ++ to_be_bytes w16 pair.destination.port))

-- kind, the value's length in two bytes, value
abbrev pub field_bytes : Field → List ℕ
field_bytes field = field.kind ∷ (to_be_bytes w16 (length field.value) ++ field.value)

-- the fields, one behind the other
abbrev pub fields_bytes : List Field → List ℕ
fields_bytes fields = flat_map field_bytes fields

-- what stands behind the length
abbrev pub block_of : Body → List ℕ
block_of (LocalBlock block) = block
block_of (UnspecBlock block) = block
block_of (Inet pair fields) = pair_bytes pair ++ fields_bytes fields
block_of (Inet6 pair fields) = pair_bytes pair ++ fields_bytes fields
block_of (Unix source destination fields) = source ++ (destination ++ fields_bytes fields)

-- the bytes of a header
abbrev pub header_bytes : Header2 → List ℕ
header_bytes h =
    signature ++ command_of h.body ∷ h.family ∷ (to_be_bytes w16 (length (block_of h.body)) ++ block_of h.body)

-- a number that two bytes can say
abbrev pub in_two_bytes : ℕ → Option ℕ
in_two_bytes n = if nat_le n 65535 then Some n else None

-- whether a byte names this family: a stream of it, or datagrams
abbrev pub is_family : ℕ → ℕ → Bool
is_family family byte = byte == 16 * family + 1 || byte == 16 * family + 2

-- whether the family byte is one of the body's, and its addresses are of that family
abbrev pub suits : ℕ → Body → Bool
suits family (LocalBlock block) = true
suits family (UnspecBlock block) = family == 0
suits family (Inet pair fields) = is_family 1 family && (not (is_v6 pair.source.ip) && not (is_v6 pair.destination.ip))
suits family (Inet6 pair fields) = is_family 2 family && (is_v6 pair.source.ip && is_v6 pair.destination.ip)
suits family (Unix source destination fields) = is_family 3 family && (length source == 108 && length destination == 108)

-- the number of an address has room in its bytes
abbrev pub IpFits : IpAddr → Type 0
IpFits (V4 ip) = ip < 2 ^ 32
IpFits (V6 ip) = ip < 2 ^ 128

-- addresses and ports have room in their bytes
abbrev pub PairFits : SocketAddrPair → Type 0
PairFits pair =
    IpFits pair.source.ip × IpFits pair.destination.ip × (pair.source.port < 2 ^ 16) × (pair.destination.port < 2 ^ 16)

-- each number of the addresses has room in its bytes
abbrev pub NumbersFit : Body → Type 0
NumbersFit (Inet pair fields) = PairFits pair
NumbersFit (Inet6 pair fields) = PairFits pair
NumbersFit _ = Unit {0}

-- the bytes are the header
pub record IsHeader (bytes : List ℕ) (h : Header2) : Type 0 where
  pub spelled : bytes ≡ header_bytes h
  pub agrees : suits h.family h.body ≡ true
  pub short : length (block_of h.body) < 2 ^ 16
  pub numbers : NumbersFit h.body

-- the bytes are written, unless memory ran out
abbrev pub IsWrittenAs : List ℕ → Result (List ℕ) Encode2Error → Type 0
IsWrittenAs bytes (Err OutOfMemory) = Unit {0}
IsWrittenAs bytes answer = answer ≡ Ok bytes
