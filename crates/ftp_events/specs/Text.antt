-- The texts of replies that show numbers (RFC 959, section 4.1.2; RFC 3659, section 5).
use Rattle.std.specs.Prelude.{ℕ, ◌+◌, ◌*◌, ◌/◌, ◌%◌, ◌&&◌, nat_lt, nat_le, List, [], ◌∷◌, ◌++◌, length, map, codes, decimal, Option, Some, None, if◌then◌else◌}
use Rattle.std.specs.List.{join_with_byte, list_all}
use Rattle.std.specs.Char.{is_ascii_digit}
use Rattle.std.specs.Str.Parse.{digits_value}
use Rattle.std.specs.Int.{to_be_bytes, from_be_bytes, w32, w128}
use Rattle.ftp_base.specs.declared.net.IpAddr.TheVariants.{V4}
use Rattle.ftp_base.specs.declared.net.SocketAddr.{SocketAddr}
use Rattle.ftp_proxy.specs.Header.{◌>>=◌, pieces}
use Rattle.uuid.specs.declared.Variant.TheVariants.{RFC4122}
use Rattle.uuid.specs.declared.Version.TheVariants.{Random}
use Rattle.uuid.specs.Parts.{with_variant, with_version}
use Rattle.uuid.specs.Text.{hyphenated_text, lower}

-- the six numbers of an address and a port
abbrev pub six_numbers : ℕ → ℕ → List ℕ
six_numbers ip port = to_be_bytes w32 ip ++ (port / 256) ∷ (port % 256) ∷ []

-- six numbers, as a passive reply shows them
abbrev pub passive_numbers : List ℕ → List ℕ
passive_numbers numbers = codes "Entering Passive Mode (" ++ join_with_byte 44 (map decimal numbers) ++ codes ")"

-- the text of a passive reply
abbrev pub passive_text : ℕ → ℕ → List ℕ
passive_text ip port = passive_numbers (six_numbers ip port)

-- the text that answers a restart offset
abbrev pub offset_text : ℕ → List ℕ
offset_text offset = codes "Restarting at " ++ decimal offset ++ codes ". Now send STORE or RETRIEVE."

-- the name of a unique file: the text of the UUID of version 4 that a random word gives
abbrev pub unique_name : ℕ → List ℕ
unique_name word = hyphenated_text lower (with_version (with_variant (to_be_bytes w128 word) RFC4122) Random)

-- a number of a byte, in one to three digits
abbrev pub octet_of : List ℕ → Option ℕ
octet_of text =
    let n = digits_value 10 text in
    if nat_le 1 (length text) && nat_le (length text) 3 && list_all is_ascii_digit text && nat_lt n 256 then Some n else None

-- the six pieces, where there are just so many
abbrev pub six : List (List ℕ) → Option (List ℕ × List ℕ × List ℕ × List ℕ × List ℕ × List ℕ)
six (a ∷ b ∷ c ∷ d ∷ high ∷ low ∷ []) = Some (a, b, c, d, high, low)
six _ = None

-- the address that the text of a PORT gives: six numbers of a byte, joined by commas (RFC 959, section 4.1.2)
abbrev pub port_target : List ℕ → Option SocketAddr
port_target text = do
  parts ← six (pieces 44 text)
  a ← octet_of parts.0
  b ← octet_of parts.1
  c ← octet_of parts.2
  d ← octet_of parts.3
  high ← octet_of parts.4
  low ← octet_of parts.5
  Some (record { ip = V4 (from_be_bytes w32 (a ∷ b ∷ c ∷ d ∷ [])); port = 256 * high + low })
