-- The text of a hash is read back.
use Rattle.std.proofs.Common.{◌≡◌, ◌∙◌, ℕ, ◌^◌, ◌<◌, Bool, true, false, cond, ◌&&◌, List, [], ◌∷◌, ◌++◌, length, get_or, Some, None, refl, sym, ap, arith}
use Rattle.std.specs.Prelude.{codes, decimal, nat_lt, ◌==◌, option_map, option_and_then}
use Rattle.std.specs.List.{All, AllPass, list_all, slice_split}
use Rattle.std.specs.Char.{is_ascii_digit, digit_value}
use Rattle.std.specs.Str.{bytes_eq}
use Rattle.std.specs.Str.Parse.{AllDigits, digits_value}
use Rattle.std.proofs.lemmas.Bool.Decides.{nat_tests}
use Rattle.std.proofs.lemmas.Bool.{eqb-true, lt-ltb}
use Rattle.std.proofs.lemmas.Fmt.{digits_decimal, digits_value-decimal, decimal_nonempty, first_decimal}
use Rattle.std.proofs.lemmas.List.Sums.{AllPass-from_list_all}
use Rattle.std.proofs.lemmas.List.Splits.{slice_split_at, slice_split_none}
use Rattle.std.proofs.lemmas.Slice.Eq.{bytes_eq-Decides}
use Rattle.hex.specs.Hex.{IsBytes, is_hex_digit, encode_lower}
use Rattle.hex.proofs.HexLemmas.{decode_of-ok, decode_of-encode_lower, decode_sized-encode_lower}
use Rattle.ftp_base.specs.Decimal.{is_decimal, decimal_below}
use Rattle.ftp_base.proofs.Digits.{own}
use Rattle.ftp_base.specs.declared.login.AuthAnswer.TheVariants.{Good}
use Rattle.ftp_config.specs.Pbkdf2.{derived_key}
use Rattle.ftp_config.specs.Number.{rounds_of}
use Rattle.ftp_config.specs.Line.{is_byte, hash_text, hash_with, hash_of_parts, hash_of, credential_of}
use Rattle.ftp_config.specs.Verdict.{answer_of, hash_by}

-- ---- no dollar stands in hexadecimal or decimal digits

apart : (test : ℕ → Bool) (b : ℕ) → test 36 ≡ false → test b ≡ true → is_byte 36 b ≡ false
apart test b not_it is = by (is_byte 36 b) refl where
  by : (e : Bool) → is_byte 36 b ≡ e → e ≡ false
  by true same = absurd (let here : test 36 ≡ true = ap test (sym (eqb-true b 36 same)) ∙ is in cc (here, not_it))
  by false other = refl

-- in hexadecimal digits
pub hex_digits-apart : (text : List ℕ) → AllPass is_hex_digit text → All (λ b. is_byte 36 b ≡ false) text
hex_digits-apart text digits k d lt = apart is_hex_digit _ refl (digits k d lt)

hex-apart : (bytes : List ℕ) → IsBytes bytes → All (λ b. is_byte 36 b ≡ false) (encode_lower bytes)
hex-apart bytes are = hex_digits-apart (encode_lower bytes) (decode_of-ok (encode_lower bytes) bytes (decode_of-encode_lower bytes are)).1

small_digit : (c : ℕ) → digit_value c < 10 → is_ascii_digit c ≡ true
small_digit c h = grind (arith, nat_tests)

are_digits : (ds : List ℕ) → AllDigits 10 ds → list_all is_ascii_digit ds ≡ true
are_digits [] h = refl
are_digits (d ∷ ds) h = rw (small_digit d h.0) (are_digits ds h.1)

-- in decimal digits
pub digits-apart : (ds : List ℕ) → list_all is_ascii_digit ds ≡ true → All (λ b. is_byte 36 b ≡ false) ds
digits-apart ds h k d lt = apart is_ascii_digit _ refl (AllPass-from_list_all is_ascii_digit ds h k d lt)

-- ---- a number of rounds is read back

both : (b c : Bool) (x : ℕ) → b ≡ true → c ≡ true → cond (b && c) (Some x) None ≡ Some x
both b c x p q = rw (p, q) refl

is_decimal-decimal : (n : ℕ) → 0 < n → n < 2 ^ 64 → is_decimal (decimal n) ≡ true
is_decimal-decimal n some small =
    let long : 0 < length (decimal n) = decimal_nonempty n small in
    let lead : 48 < get_or (decimal n) 0 0 = first_decimal n some small in
    let digits : list_all is_ascii_digit (decimal n) ≡ true = are_digits (decimal n) (digits_decimal own n small) in
    let there : (length (decimal n) == 0) ≡ false = grind (arith, nat_tests) in
    let first : (get_or (decimal n) 0 0 == 48) ≡ false = grind (arith, nat_tests) in
    rw (there, digits, first) refl

rounds_of-decimal : (n : ℕ) → 0 < n → n < 2 ^ 32 → rounds_of (decimal n) ≡ Some n
rounds_of-decimal n some small =
    let fits : n < 2 ^ 64 = omega arith in
    let value : digits_value 10 (decimal n) ≡ n = digits_value-decimal own n fits in
    let number : decimal_below (2 ^ 64) (decimal n) ≡ Some n =
    both (is_decimal (decimal n)) (nat_lt (digits_value 10 (decimal n)) (2 ^ 64)) (digits_value 10 (decimal n)) (is_decimal-decimal n some fits) (rw value (lt-ltb n (2 ^ 64) fits))
    ∙ ap Some value in
    ap (option_and_then (λ m. cond (nat_lt 0 m && nat_lt m (2 ^ 32)) (Some m) None)) number ∙ both (nat_lt 0 n) (nat_lt n (2 ^ 32)) n (lt-ltb 0 n some) (lt-ltb n (2 ^ 32) small)

-- ---- the text

hash_parts : (rounds : ℕ) (salt key : List ℕ) → 0 < rounds → rounds < 2 ^ 32 → IsBytes salt → IsBytes key →
    slice_split (is_byte 36) (hash_text rounds salt key) ≡ [] ∷ codes "pbkdf2-sha256" ∷ decimal rounds ∷ encode_lower salt ∷ encode_lower key ∷ []
hash_parts rounds salt key some small salts keys =
    let digits : list_all is_ascii_digit (decimal rounds) ≡ true = are_digits (decimal rounds) (digits_decimal own rounds (omega arith)) in
    ap (λ (rest : List (List ℕ)). [] ∷ codes "pbkdf2-sha256" ∷ rest)
    (slice_split_at (is_byte 36) (decimal rounds) 36 (encode_lower salt ++ 36 ∷ encode_lower key) (digits-apart _ digits) refl
    ∙ ap (λ (rest : List (List ℕ)). decimal rounds ∷ rest)
    (slice_split_at (is_byte 36) (encode_lower salt) 36 (encode_lower key) (hex-apart salt salts) refl
    ∙ ap (λ (rest : List (List ℕ)). encode_lower salt ∷ rest) (slice_split_none (is_byte 36) (encode_lower key) (hex-apart key keys))))

hash_with-read : (rounds : ℕ) (salt key : List ℕ) → 0 < rounds → rounds < 2 ^ 32 → IsBytes salt → IsBytes key → length key ≡ 32 →
    hash_with (decimal rounds) (encode_lower salt) (encode_lower key) ≡ Some (record { rounds = rounds; salt = salt; key = key })
unfolding hash_with
hash_with-read rounds salt key some small salts keys long =
    let n = rounds_of-decimal rounds some small in
    let s = decode_of-encode_lower salt salts in
    let k = decode_sized-encode_lower key 32 long keys in
    rw (n, s, k) refl

-- the text of a hash spells it
pub hash_of-text : (rounds : ℕ) (salt key : List ℕ) → 0 < rounds → rounds < 2 ^ 32 → IsBytes salt → IsBytes key → length key ≡ 32 →
    hash_of (hash_text rounds salt key) ≡ Some (record { rounds = rounds; salt = salt; key = key })
unfolding hash_of_parts
hash_of-text rounds salt key some small salts keys long =
    ap hash_of_parts (hash_parts rounds salt key some small salts keys) ∙ hash_with-read rounds salt key some small salts keys long

-- and Good is said to the password that it is of
pub good-text : (password : List ℕ) (rounds : ℕ) (salt text : List ℕ) → text ≡ hash_text rounds salt (derived_key password salt rounds) →
    hash_of text ≡ Some (hash_by password salt rounds) → option_map (λ who. answer_of who password) (credential_of text) ≡ Some Good
unfolding credential_of
good-text password rounds salt text spelled read =
    let star : bytes_eq text (codes "*") ≡ false = ap (λ (t : List ℕ). bytes_eq t (codes "*")) spelled in
    let mark : bytes_eq text (codes "!") ≡ false = ap (λ (t : List ℕ). bytes_eq t (codes "!")) spelled in
    let same : bytes_eq (derived_key password salt rounds) (derived_key password salt rounds) ≡ true = (bytes_eq-Decides (derived_key password salt rounds) (derived_key password salt rounds)).1 refl in
    rw (star, mark, read, same) refl
