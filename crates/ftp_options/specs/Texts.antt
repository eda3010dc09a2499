-- What the errors of a server print.
use Rattle.std.specs.Prelude.{ℕ, ◌/◌, ◌%◌, ◌==◌, ◌&&◌, not, nat_le, Bool, false, List, [], ◌∷◌, ◌++◌, codes, if◌then◌else◌}
use Rattle.std.specs.List.{flat_map}
use Rattle.std.specs.Fmt.{digit_glyph}
use Rattle.ftp_options.specs.declared.error.ConfigFault.{ConfigFault}
use Rattle.ftp_options.specs.declared.error.ConfigFault.TheVariants as fault
use Rattle.ftp_options.specs.declared.error.ServerError.{ServerError}
use Rattle.ftp_options.specs.declared.error.ServerError.TheVariants as error

-- a byte prints as itself where it is printable and no backslash
abbrev pub is_plain : ℕ → Bool
is_plain b = nat_le 32 b && nat_le b 126 && not (b == 92)

-- any other byte stands behind a backslash and an x, in two hexadecimal digits
abbrev pub escape_byte : ℕ → List ℕ
escape_byte b = if is_plain b then b ∷ [] else 92 ∷ 120 ∷ digit_glyph false (b / 16) ∷ digit_glyph false (b % 16) ∷ []

-- bytes as they are printed
abbrev pub escape : List ℕ → List ℕ
escape bytes = flat_map escape_byte bytes

-- the text of a fault of registrations
abbrev pub fault_text : ConfigFault → List ℕ
fault_text (fault.InvalidName name) = codes "Invalid SITE command name: \"" ++ escape name ++ codes "\""
fault_text fault.Md5 = codes "Cannot replace built-in SITE command MD5"
fault_text (fault.Duplicate name) = codes "Cannot register SITE command " ++ escape name ++ codes " more than once"
fault_text fault.ProviderAfterSite = codes "user_detail_provider() must be called before any site_command() registrations"

-- the text of an error
abbrev pub error_text : ServerError → List ℕ
error_text (error.Configuration fault) = codes "server error: " ++ fault_text fault
error_text error.EmptyRange = codes "server error: empty passive port range"
error_text error.PortZero = codes "server error: passive port 0"
error_text error.Ipv6OutsideLegacy = codes "server error: IPv6 outside legacy mode"
error_text error.FtpsRequired = codes "server error: FTPS is not available"
error_text error.Address = codes "server error: could not parse address"
error_text error.Io = codes "server error: io error"
error_text error.Listener = codes "server error: listener error"
error_text error.Shutdown = codes "server error: shutdown grace period expired"
error_text error.OutOfMemory = codes "server error: out of memory"
