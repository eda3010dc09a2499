-- The text of a PORT that has the six numbers of a passive reply gives their address.
use Rattle.std.proofs.Common.{◌≡◌, ◌≤◌, ◌<◌, ◌+◌, ◌*◌, ◌/◌, ◌%◌, ◌^◌, ℕ, Bool, true, false, List, [], ◌∷◌, ◌++◌, Option, Some, length, get_or, map, refl, sym, ap, ◌∙◌, arith}
use Rattle.std.specs.Prelude.{decimal, ◌==◌}
use Rattle.std.specs.List.{All, AllPass, join_with_byte, list_all, slice_split}
use Rattle.std.specs.Char.{is_ascii_digit}
use Rattle.std.specs.Int.{from_be_bytes, to_be_bytes, w32}
use Rattle.std.specs.Str.Parse.{AllDigits, digits_value}
use Rattle.std.proofs.lemmas.Bool.Decides.{nat_tests}
use Rattle.std.proofs.lemmas.Fmt.{decimal_is_IsNumeral, length-decimal-le}
use Rattle.std.proofs.lemmas.List.Splits.{slice_split_at, slice_split_none}
use Rattle.std.proofs.lemmas.List.{get_or_default}
use Rattle.std.proofs.lemmas.List.Sums.{list_all-from_AllPass}
use Rattle.std.proofs.lemmas.Nat.{from_be_bytes-to_be_bytes_4}
use Rattle.std.proofs.lemmas.Str.Parse.{digit_at}
use Rattle.ftp_base.specs.declared.net.IpAddr.TheVariants.{V4}
use Rattle.ftp_proxy.specs.Header.{pieces}
use Rattle.ftp_events.specs.Text.{octet_of, port_target, six, six_numbers}

-- digits pass the test for digits
all-digits : (ds : List ℕ) → AllDigits 10 ds → list_all is_ascii_digit ds ≡ true
all-digits ds digits =
    list_all-from_AllPass is_ascii_digit ds
    (λ i d lt. let here = digit_at ds i digits lt in let same = get_or_default ds i d 0 lt in rw same (grind (arith, nat_tests)))

-- and none is a comma
no-comma : (ds : List ℕ) → AllDigits 10 ds → All (λ b. (b == 44) ≡ false) ds
no-comma ds digits =
    λ i d lt. let here = digit_at ds i digits lt in let same = get_or_default ds i d 0 lt in rw same (grind (arith, nat_tests))

-- the digits of a number of a byte: three at most, none of them a comma
byte-digits : (n : ℕ) → n < 256 → (AllDigits 10 (decimal n)) × (0 < length (decimal n)) × (length (decimal n) ≤ 3) × (digits_value 10 (decimal n) ≡ n)
byte-digits n lt =
    let is = decimal_is_IsNumeral n (omega (arith, lt)) in
    (is.0.1, is.0.0, length-decimal-le 3 n (omega arith) (omega (arith, lt)) (omega (arith, lt)), is.1)

-- a number of a byte is read again
octet-again : (n : ℕ) → n < 256 → octet_of (decimal n) ≡ Some n
octet-again n lt =
    let d = byte-digits n lt in
    let all = all-digits (decimal n) d.0 in
    rw (all, d.3) (grind (arith, nat_tests, d.1, d.2, lt))

-- a number before a comma is the first piece
piece-before : (n : ℕ) (rest : List ℕ) → n < 256 → pieces 44 (decimal n ++ 44 ∷ rest) ≡ decimal n ∷ pieces 44 rest
piece-before n rest lt = slice_split_at (λ b. b == 44) (decimal n) 44 rest (no-comma (decimal n) (byte-digits n lt).0) refl

-- a number alone is the one piece
piece-alone : (n : ℕ) → n < 256 → pieces 44 (decimal n) ≡ decimal n ∷ []
piece-alone n lt = slice_split_none (λ b. b == 44) (decimal n) (no-comma (decimal n) (byte-digits n lt).0)

-- six numbers of a byte, joined by commas, are six pieces
six-pieces : (a b c d high low : ℕ) → a < 256 → b < 256 → c < 256 → d < 256 → high < 256 → low < 256 →
    pieces 44 (join_with_byte 44 (map decimal (a ∷ b ∷ c ∷ d ∷ high ∷ low ∷ [])))
    ≡ decimal a ∷ decimal b ∷ decimal c ∷ decimal d ∷ decimal high ∷ decimal low ∷ []
six-pieces a b c d high low la lb lc ld lh ll =
    rw (piece-before a _ la, piece-before b _ lb, piece-before c _ lc, piece-before d _ ld, piece-before high _ lh, piece-alone low ll) refl

-- their address is read
six-read : (a b c d high low : ℕ) → a < 256 → b < 256 → c < 256 → d < 256 → high < 256 → low < 256 →
    port_target (join_with_byte 44 (map decimal (a ∷ b ∷ c ∷ d ∷ high ∷ low ∷ [])))
    ≡ Some (record { ip = V4 (from_be_bytes w32 (a ∷ b ∷ c ∷ d ∷ [])); port = 256 * high + low })
six-read a b c d high low la lb lc ld lh ll =
    rw (six-pieces a b c d high low la lb lc ld lh ll, octet-again a la, octet-again b lb, octet-again c lc, octet-again d ld, octet-again high lh, octet-again low ll) refl

-- the text of the six numbers of an address and a port gives both
pub port-read : (ip port : ℕ) → ip < 2 ^ 32 → port < 2 ^ 16 →
    port_target (join_with_byte 44 (map decimal (six_numbers ip port))) ≡ Some (record { ip = V4 ip; port = port })
port-read ip port lip lport =
    six-read (ip / 16777216 % 256) (ip / 65536 % 256) (ip / 256 % 256) (ip % 256) (port / 256) (port % 256)
    (omega arith) (omega arith) (omega arith) (omega arith) (omega (arith, lport)) (omega arith)
    ∙ rw (from_be_bytes-to_be_bytes_4 ip lip, split) refl
  where
    split : 256 * (port / 256) + port % 256 ≡ port
    split = omega arith
