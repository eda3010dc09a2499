-- How the fields of a line are spelled: each value has one spelling.
--
-- A field begins with the one space that stands before it, and a text is the last field of its line.
use Rattle.std.specs.Prelude.{◌≡◌, ℕ, zero, suc, ◌/◌, ◌%◌, ◌^◌, ◌<◌, ◌≢◌, ◌==◌, ◌&&◌, not, nat_le, Bool, true, false, List, [], ◌∷◌, ◌++◌, map, find, codes, decimal, Option, Some, None, if◌then◌else◌}
use Rattle.std.specs.List.{flat_map, join_with_byte, AllByRecursion}
use Rattle.std.specs.Option.{option_map_or}
use Rattle.std.specs.Fmt.{digit_glyph}
use Rattle.std.specs.Int.{w32, to_be_bytes}
use Rattle.ftp_base.specs.Calls.{rises_above}
use Rattle.ftp_base.specs.declared.net.IpAddr.{IpAddr}
use Rattle.ftp_base.specs.declared.net.IpAddr.TheVariants.{V4, V6}
use Rattle.ftp_base.specs.declared.net.SocketAddr.{SocketAddr}
use Rattle.ftp_base.specs.declared.login.AuthAnswer.{AuthAnswer}
use Rattle.ftp_base.specs.declared.login.AuthAnswer.TheVariants as auth
use Rattle.ftp_base.specs.contracts.login.AuthAnswerPartialEq.TheImpl as auth_eq
use Rattle.ftp_base.specs.declared.error_kind.ErrorKind.{ErrorKind}
use Rattle.ftp_base.specs.declared.error_kind.ErrorKind.TheVariants as error
use Rattle.ftp_base.specs.contracts.error_kind.ErrorKindPartialEq.TheImpl as kind_eq
use Rattle.ftp_base.specs.declared.fault.LinkFault.{LinkFault}
use Rattle.ftp_base.specs.declared.fault.LinkFault.TheVariants as link
use Rattle.ftp_base.specs.contracts.fault.LinkFaultPartialEq.TheImpl as fault_eq
use Rattle.ftp_proxy.specs.declared.error.ProxyError.{ProxyError}
use Rattle.ftp_proxy.specs.declared.error.ProxyError.TheVariants as proxy
use Rattle.ftp_proxy.specs.contracts.error.ProxyErrorPartialEq.TheImpl as proxy_error_eq
use Rattle.ftp_proxy.specs.declared.error.ReadError.TheVariants as read

-- a space, and what stands in the field
abbrev pub field : List ℕ → List ℕ
field text = 32 ∷ text

-- a number in decimal digits, without leading zeros
abbrev pub number : ℕ → List ℕ
number n = field (decimal n)

-- a byte in two hexadecimal digits
abbrev pub hex_byte : ℕ → List ℕ
hex_byte byte = digit_glyph false (byte / 16) ∷ digit_glyph false (byte % 16) ∷ []

-- the last k hexadecimal digits of a number
unfoldable pub hex_digits : ℕ → ℕ → List ℕ
hex_digits zero n = []
hex_digits (suc k) n = hex_digits k (n / 16) ++ digit_glyph false (n % 16) ∷ []

-- bytes in pairs of hexadecimal digits, and a dot for no bytes
abbrev pub hex_text : List ℕ → List ℕ
hex_text [] = codes "."
hex_text (b ∷ bytes) = flat_map hex_byte (b ∷ bytes)

-- the four numbers of an IPv4 address, joined by dots
abbrev pub dotted : ℕ → List ℕ
dotted ip = join_with_byte 46 (map decimal (to_be_bytes w32 ip))

-- an IPv6 address stands in brackets
abbrev pub ip_text : IpAddr → List ℕ
ip_text (V4 ip) = dotted ip
ip_text (V6 ip) = 91 ∷ hex_digits 32 ip ++ 93 ∷ []

-- an address, a colon and the port
abbrev pub address_text : SocketAddr → List ℕ
address_text a = ip_text a.ip ++ 58 ∷ decimal a.port

-- a byte of a text stands for itself where it is printable and no backslash
abbrev pub is_plain : ℕ → Bool
is_plain b = nat_le 32 b && nat_le b 126 && not (b == 92)

-- any other byte stands behind a backslash and an x
abbrev pub escape_byte : ℕ → List ℕ
escape_byte b = if is_plain b then b ∷ [] else 92 ∷ 120 ∷ hex_byte b

-- a text
abbrev pub escape : List ℕ → List ℕ
escape text = flat_map escape_byte text

-- a value that may be missing: a hyphen stands for none
abbrev pub optional : {A : Type 0} → (A → List ℕ) → Option A → List ℕ
optional spell None = field (45 ∷ [])
optional spell (Some x) = field (spell x)

-- a text that may be missing: for none the line ends
abbrev pub optional_text : Option (List ℕ) → List ℕ
optional_text None = []
optional_text (Some text) = field (escape text)

-- a transfer is named by its session, a dot and its number in the session
abbrev pub ticket : ℕ → ℕ → List ℕ
ticket session nr = number session ++ 46 ∷ decimal nr

-- the word of a value in a table of words
abbrev pub word_in : {V : Type 0} → (V → V → Bool) → List (List ℕ × V) → V → List ℕ
word_in same table value = option_map_or (λ row. row.0) (find (λ row. same row.1 value) table) []

-- the values of a table of words
abbrev pub values : {V : Type 0} → List (List ℕ × V) → List V
values table = map (λ row. row.1) table

-- the words of an authenticator
abbrev pub auth_words : List (List ℕ × AuthAnswer)
auth_words =
    (codes "good", auth.Good) ∷ (codes "disabled", auth.Disabled) ∷ (codes "notentered", auth.NotEntered)
    ∷ (codes "baduser", auth.BadUser) ∷ (codes "refused", auth.Refused) ∷ []

-- what the authenticator says
abbrev pub answer_text : AuthAnswer → List ℕ
answer_text = word_in auth_eq.ghosts.eq auth_words

-- the words of a storage that refuses
abbrev pub kind_words : List (List ℕ × ErrorKind)
kind_words =
    (codes "transientfile", error.TransientFileNotAvailable) ∷ (codes "permanentfile", error.PermanentFileNotAvailable)
    ∷ (codes "permanentdir", error.PermanentDirectoryNotAvailable) ∷ (codes "dirnotempty", error.PermanentDirectoryNotEmpty)
    ∷ (codes "permission", error.PermissionDenied) ∷ (codes "closed", error.ConnectionClosed)
    ∷ (codes "local", error.LocalError) ∷ (codes "pagetype", error.PageTypeUnknown)
    ∷ (codes "space", error.InsufficientStorageSpaceError) ∷ (codes "exceeded", error.ExceededStorageAllocationError)
    ∷ (codes "badname", error.FileNameNotAllowedError) ∷ (codes "notimplemented", error.CommandNotImplemented) ∷ []

-- why a storage refuses
abbrev pub kind_text : ErrorKind → List ℕ
kind_text = word_in kind_eq.ghosts.eq kind_words

-- what a storage says of a call: why it refuses, or ok
abbrev pub refusal_text : Option ErrorKind → List ℕ
refusal_text refusal = option_map_or kind_text refusal (codes "ok")

-- the words of what a call on a connection meets
abbrev pub fault_words : List (List ℕ × LinkFault)
fault_words =
    (codes "reset", link.Reset) ∷ (codes "pipe", link.BrokenPipe) ∷ (codes "aborted", link.Aborted) ∷ (codes "other", link.Other) ∷ []

-- what a call on a connection meets
abbrev pub fault_text : LinkFault → List ℕ
fault_text = word_in fault_eq.ghosts.eq fault_words

-- the words of what can be wrong with the header of a proxy
abbrev pub proxy_error_words : List (List ℕ × ProxyError)
proxy_error_words =
    (codes "size", proxy.HeaderSize) ∷ (codes "crlf", proxy.CrlfError) ∷ (codes "notproxy", proxy.NotProxyHdr)
    ∷ (codes "decode", proxy.DecodeError) ∷ (codes "ipv4", proxy.IPv4Required) ∷ (codes "version", proxy.UnsupportedVersion)
    ∷ (codes "eof", proxy.ReadError read.UnexpectedEof) ∷ (codes "fault", proxy.ReadError read.Fault) ∷ []

-- why the header of a proxy is none
abbrev pub proxy_error_text : ProxyError → List ℕ
proxy_error_text = word_in proxy_error_eq.ghosts.eq proxy_error_words

-- a failing call on a connection: its number, a colon and what it meets
abbrev pub link_call_text : ℕ × LinkFault → List ℕ
link_call_text call = decimal call.0 ++ 58 ∷ fault_text call.1

-- values with commas between them: a hyphen stands for none
abbrev pub listed : {A : Type 0} → (A → List ℕ) → List A → List ℕ
listed spell [] = codes "-"
listed spell (x ∷ xs) = join_with_byte 44 (map spell (x ∷ xs))

-- ---- the ranges of the values

-- the bytes are bytes
abbrev pub IsText : List ℕ → Type 0
IsText text = AllByRecursion (λ b. b < 256) text

-- the bytes are bytes, and none is a space
abbrev pub IsName : List ℕ → Type 0
IsName name = AllByRecursion (λ b. (b < 256) × (b ≢ 32)) name

-- the address fits its type
abbrev pub IsIp : IpAddr → Type 0
IsIp (V4 ip) = ip < 2 ^ 32
IsIp (V6 ip) = ip < 2 ^ 128

-- the address and the port fit their types
abbrev pub IsAddress : SocketAddr → Type 0
IsAddress a = IsIp a.ip × (a.port < 2 ^ 16)

-- the value is missing, or P holds of it
abbrev pub Each : {A : Type 0} → (A → Type 0) → Option A → Type 0
Each P None = Unit {0}
Each P (Some x) = P x

-- the number fits its type
abbrev pub IsNumber : ℕ → Type 0
IsNumber n = n < 2 ^ 64

-- calls rise from 1 on, and their numbers fit their type
abbrev pub AreCalls : {A : Type 0} → (A → ℕ) → List A → Type 0
AreCalls number calls = AllByRecursion (λ call. IsNumber (number call)) calls × (rises_above number 0 calls ≡ true)
