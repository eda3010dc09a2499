-- Worked examples: lines and their outcomes, each by computation.
use Rattle.std.proofs.Common.{◌≡◌, ℕ, List, [], ◌∷◌, ◌++◌, Ok, Err, refl}
use Rattle.std.specs.Prelude.{codes}
use Rattle.ftp_base.specs.declared.net.IpAddr.TheVariants.{V4}
use Rattle.ftp_proxy.specs.declared.header.ProxyHeader.{ProxyHeader}
use Rattle.ftp_proxy.specs.declared.error.ProxyError.TheVariants as error
use Rattle.ftp_proxy.specs.declared.error.ReadError.TheVariants as read
use Rattle.ftp_proxy.specs.Line.{line, taken, untaken}

-- a text as a line
abbrev ended : List ℕ → List ℕ
ended text = text ++ 13 ∷ 10 ∷ []

abbrev from_to : ℕ → ℕ → ℕ → ℕ → ProxyHeader
from_to a p b q = record { source = record { ip = V4 a; port = p }; destination = record { ip = V4 b; port = q } }

-- nine letters
abbrev nine : List ℕ
nine = codes "AAAAAAAAA"

-- 108 letters
abbrev letters : List ℕ
letters = nine ++ nine ++ nine ++ nine ++ nine ++ nine ++ nine ++ nine ++ nine ++ nine ++ nine ++ nine

-- ---- headers

the_longest : line (ended (codes "PROXY TCP4 255.255.255.255 255.255.255.255 65535 65535"))
    ≡ Ok (from_to 4294967295 65535 4294967295 65535)
the_longest = refl

source_and_destination : line (ended (codes "PROXY TCP4 1.2.3.4 5.6.7.8 9 10")) ≡ Ok (from_to 16909060 9 84281096 10)
source_and_destination = refl

zeros : line (ended (codes "PROXY TCP4 0.0.0.0 0.0.0.0 0 0")) ≡ Ok (from_to 0 0 0 0)
zeros = refl

-- ---- where the line ends

no_carriage_return : line (codes "PROXY TCP4 255.255.255.255 255.255.255.255 65535 65535" ++ 10 ∷ []) ≡ Err error.CrlfError
no_carriage_return = refl

too_short : line (ended (codes "PROXY TCP4")) ≡ Err error.HeaderSize
too_short = refl

no_line_feed : line letters ≡ Err error.NotProxyHdr
no_line_feed = refl

line_feed_too_late : line (letters ++ 10 ∷ []) ≡ Err error.NotProxyHdr
line_feed_too_late = refl

last_place : line (nine ++ nine ++ nine ++ nine ++ nine ++ nine ++ nine ++ nine ++ nine ++ nine ++ nine ++ codes "AAAAAAAA" ++ 10 ∷ []) ≡ Err error.CrlfError
last_place = refl

cut_short : line (codes "PROXY TCP4 127.0.0.1") ≡ Err (error.ReadError read.UnexpectedEof)
cut_short = refl

nothing : line [] ≡ Err (error.ReadError read.UnexpectedEof)
nothing = refl

-- ---- what is taken

taken_to_the_line_feed : taken (ended (codes "PROXY UNKNOWN") ++ codes "USER ann") ≡ ended (codes "PROXY UNKNOWN")
taken_to_the_line_feed = refl

left_behind_it : untaken (ended (codes "PROXY UNKNOWN") ++ codes "USER ann") ≡ codes "USER ann"
left_behind_it = refl

taken_when_short : untaken (ended (codes "A") ++ codes "USER ann") ≡ codes "USER ann"
taken_when_short = refl

taken_without_line_feed : untaken (letters ++ codes "A") ≡ codes "A"
taken_without_line_feed = refl

-- ---- numbers

leading_zero : line (ended (codes "PROXY TCP4 01.0.0.1 1.1.1.1 1 1")) ≡ Err error.DecodeError
leading_zero = refl

leading_zero_of_port : line (ended (codes "PROXY TCP4 1.0.0.1 1.1.1.1 1 01")) ≡ Err error.DecodeError
leading_zero_of_port = refl

above_a_byte : line (ended (codes "PROXY TCP4 256.0.0.1 1.1.1.1 1 1")) ≡ Err error.DecodeError
above_a_byte = refl

above_a_port : line (ended (codes "PROXY TCP4 1.0.0.1 1.1.1.1 65536 1")) ≡ Err error.DecodeError
above_a_port = refl

no_number : line (ended (codes "PROXY TCP4 1..0.1 1.1.1.1 1 1")) ≡ Err error.DecodeError
no_number = refl

-- ---- fields

two_spaces : line (ended (codes "PROXY TCP4  1.0.0.1 1.1.1.1 1 1")) ≡ Err error.DecodeError
two_spaces = refl

a_field_more : line (ended (codes "PROXY TCP4 1.0.0.1 1.1.1.1 1 1 ")) ≡ Err error.DecodeError
a_field_more = refl

another_word : line (ended (codes "proxy TCP4 1.0.0.1 1.1.1.1 1 1")) ≡ Err error.DecodeError
another_word = refl

-- ---- the other protocols

unknown : line (ended (codes "PROXY UNKNOWN")) ≡ Err error.UnsupportedVersion
unknown = refl

unknown_with_more : line (ended (codes "PROXY UNKNOWN ffff::1 x  y")) ≡ Err error.UnsupportedVersion
unknown_with_more = refl

unknown_with_a_space : line (ended (codes "PROXY UNKNOWN ")) ≡ Err error.UnsupportedVersion
unknown_with_a_space = refl

unknown_with_another_byte : line (ended (codes "PROXY UNKNOWN!")) ≡ Err error.DecodeError
unknown_with_another_byte = refl

version_six : line (ended (codes "PROXY TCP6 fe80::Ab 2001:DB8::1.2.3.4 1 2")) ≡ Err error.IPv4Required
version_six = refl

two_colons : line (ended (codes "PROXY TCP6 :: :: 1 2")) ≡ Err error.IPv4Required
two_colons = refl

one_byte : line (ended (codes "PROXY TCP6 : :: 1 2")) ≡ Err error.DecodeError
one_byte = refl

of_45_bytes : line (ended (codes "PROXY TCP6 0123456789abcdefABCDEF:.0123456789abcdefABCDE :: 1 2")) ≡ Err error.IPv4Required
of_45_bytes = refl

of_46_bytes : line (ended (codes "PROXY TCP6 0123456789abcdefABCDEF:.0123456789abcdefABCDEF :: 1 2")) ≡ Err error.DecodeError
of_46_bytes = refl

no_hexadecimal_digit : line (ended (codes "PROXY TCP6 fe80::g :: 1 2")) ≡ Err error.DecodeError
no_hexadecimal_digit = refl

ports_of_version_six : line (ended (codes "PROXY TCP6 :: :: 1 65536")) ≡ Err error.DecodeError
ports_of_version_six = refl
