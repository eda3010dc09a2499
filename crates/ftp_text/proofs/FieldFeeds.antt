-- No field of a line has a line feed within it.
use Rattle.std.proofs.Common.{◌≡◌, ℕ, zero, suc, ◌/◌, ◌%◌, ◌^◌, ◌<◌, Bool, true, false, not, cond, List, [], ◌∷◌, ◌++◌, refl, arith}
use Rattle.std.specs.Char.{is_ascii_digit}
use Rattle.std.specs.Fmt.{decimal, digit_glyph}
use Rattle.std.proofs.lemmas.Bool.Decides.{nat_tests}
use Rattle.std.proofs.lemmas.Fmt.{digits_decimal}
use Rattle.ftp_base.specs.declared.net.IpAddr.{IpAddr}
use Rattle.ftp_base.specs.declared.net.IpAddr.TheVariants.{V4, V6}
use Rattle.ftp_base.specs.declared.net.SocketAddr.{SocketAddr}
use Rattle.ftp_control.specs.Lines.{is_line_feed}
use Rattle.ftp_text.specs.Fields.{field, number, hex_byte, hex_digits, dotted, ip_text, address_text, is_plain, escape_byte, escape, IsText, IsAddress}
use Rattle.ftp_text.proofs.Exact.{Pass, digits_pass}
use Rattle.ftp_text.proofs.Lists.{pass-append, pass-more}
use Rattle.ftp_text.proofs.Numerals.{own}

-- the byte ends no line
abbrev pub is_line_byte : ℕ → Bool
is_line_byte b = not (is_line_feed b)

-- no byte ends a line
abbrev pub HasNone : List ℕ → Type 0
HasNone w = Pass is_line_byte w

pub both : (v w : List ℕ) → HasNone v → HasNone w → HasNone (v ++ w)
both v w p q = pass-append is_line_byte v w p q

pub digit_none : (b : ℕ) → is_ascii_digit b ≡ true → is_line_byte b ≡ true
digit_none b h = grind (arith, nat_tests)

pub decimal_none : (n : ℕ) → n < 2 ^ 64 → HasNone (decimal n)
decimal_none n lt = pass-more is_ascii_digit is_line_byte digit_none (decimal n) (digits_pass (decimal n) (digits_decimal own n lt))

pub number_none : (n : ℕ) → n < 2 ^ 64 → HasNone (number n)
number_none n lt = (refl, decimal_none n lt)

pub glyph_none : (d : ℕ) → d < 16 → is_line_byte (digit_glyph false d) ≡ true
glyph_none d lt = grind (arith, nat_tests)

pub byte_none : (b : ℕ) → b < 256 → HasNone (escape_byte b)
byte_none b lt = cases (is_plain b) refl where
  cases : (p : Bool) → is_plain b ≡ p → HasNone (cond p (b ∷ []) (92 ∷ 120 ∷ hex_byte b))
  cases true e = (grind (arith, nat_tests), tt)
  cases false e = (refl, (refl, (glyph_none (b / 16) (omega arith), (glyph_none (b % 16) (omega arith), tt))))

pub escape_none : (text : List ℕ) → IsText text → HasNone (escape text)
escape_none [] fits = tt
escape_none (b ∷ text) fits = both (escape_byte b) (escape text) (byte_none b fits.0) (escape_none text fits.1)

pub text_none : (text : List ℕ) → IsText text → HasNone (field (escape text))
text_none text fits = (refl, escape_none text fits)

pub hex_none : (k n : ℕ) → HasNone (hex_digits k n)
unfolding hex_digits
hex_none zero n = tt
hex_none (suc k) n = both (hex_digits k (n / 16)) (digit_glyph false (n % 16) ∷ []) (hex_none k (n / 16)) (glyph_none (n % 16) (omega arith), tt)

pub dotted_none : (ip : ℕ) → HasNone (dotted ip)
dotted_none ip =
    both (decimal (ip / 16777216 % 256)) _ (decimal_none _ (omega arith)) (
      refl,
      both (decimal (ip / 65536 % 256)) _ (decimal_none _ (omega arith))
          (refl, both (decimal (ip / 256 % 256)) _ (decimal_none _ (omega arith)) (refl, decimal_none (ip % 256) (omega arith))),
    )

pub ip_none : (ip : IpAddr) → HasNone (ip_text ip)
ip_none (V4 ip) = dotted_none ip
ip_none (V6 ip) = (refl, both (hex_digits 32 ip) (93 ∷ []) (hex_none 32 ip) (refl, tt))

pub address_none : (a : SocketAddr) → IsAddress a → HasNone (field (address_text a))
address_none a fits = (refl, both (ip_text a.ip) (58 ∷ decimal a.port) (ip_none a.ip) (refl, decimal_none a.port (omega (arith, fits.1))))
