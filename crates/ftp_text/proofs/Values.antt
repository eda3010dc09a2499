-- Addresses, texts and bytes are read exactly.
use Rattle.std.proofs.Common.{◌≡◌, ℕ, zero, suc, ◌+◌, ◌*◌, ◌/◌, ◌%◌, ◌^◌, ◌<◌, ◌≤◌, Bool, true, false, cond, ◌&&◌, eqb, ltb, List, [], ◌∷◌, ◌++◌, length, get_or, take, drop, Option, Some, None, refl, sym, ap, subst, ◌∙◌, append_assoc, arith}
use Rattle.std.specs.Fmt.{decimal, digit_glyph}
use Rattle.std.specs.Char.{is_ascii_digit, digit_value}
use Rattle.std.specs.Int.{w32, to_be_bytes, from_be_bytes}
use Rattle.std.specs.Str.{bytes_eq}
use Rattle.std.specs.Str.Parse.{digits_value, AllDigits}
use Rattle.std.specs.Prelude.{map}
use Rattle.std.specs.List.{join_with_byte}
use Rattle.std.proofs.lemmas.Bool.{eqb-true, ltb-true, lt-ltb, and_parts}
use Rattle.std.proofs.lemmas.Bool.Decides.{nat_tests}
use Rattle.std.proofs.lemmas.Option.{cond_some}
use Rattle.std.proofs.lemmas.List.{append-nil, length-append, take-append-drop, take_at, drop_at}
use Rattle.std.proofs.lemmas.Nat.{be_bytes_4, from_be_bytes-to_be_bytes_4}
use Rattle.std.proofs.lemmas.Fmt.{decimal_nonempty, digits_decimal}
use Rattle.std.proofs.lemmas.Slice.Eq.{bytes_eq-Decides}
use Rattle.std.proofs.lemmas.Str.Parse.{digit_from_value}
use Rattle.ftp_base.specs.declared.net.IpAddr.{IpAddr}
use Rattle.ftp_base.specs.declared.net.IpAddr.TheVariants.{V4, V6}
use Rattle.ftp_base.specs.declared.net.SocketAddr.{SocketAddr}
use Rattle.ftp_text.specs.Fields.{Each, IsText, IsIp, IsAddress, hex_digits, hex_byte, dotted, ip_text, address_text, is_plain, escape_byte, escape, optional_text}
use Rattle.ftp_text.specs.Reading.{◌>>=◌, after, behind, begins, pair, small_at, dotted_at, hex_numeral, hex_word_at, port_at_colon, ipv4_at, ipv6_at, address_at, ip_at, made, before_text, escaped_at, text_byte_at, text_from, text_of, text_field, optional_text_field}
use Rattle.ftp_text.proofs.Numerals.{own}
use Rattle.ftp_text.proofs.Texts.{then_text, text_step, text_byte_shorter}
use Rattle.ftp_text.proofs.Hex.{length-hex_digits, glyph_value, hex_done}
use Rattle.ftp_text.proofs.Exact.{IsNil, NoDigit, IsExact, bind_ok, some_is, after_ok, pair_exact, behind_exact, before_text_exact, made_exact, made_takes, made_again, small_exact}

-- ---- dotted addresses

octet : IsExact decimal (λ n. n < 256) NoDigit (small_at 256)
octet = small_exact 256 (omega arith)

dot_octet : IsExact (λ n. 46 ∷ decimal n) (λ n. n < 256) NoDigit (behind 46 (small_at 256))
dot_octet = behind_exact 46 octet

abbrev four_of : ℕ → ((ℕ × ℕ) × ℕ) × ℕ
four_of ip = (((get_or (to_be_bytes w32 ip) 0 0, get_or (to_be_bytes w32 ip) 1 0), get_or (to_be_bytes w32 ip) 2 0), get_or (to_be_bytes w32 ip) 3 0)

abbrev number_of_four : ((ℕ × ℕ) × ℕ) × ℕ → ℕ
number_of_four x = from_be_bytes w32 (x.0.0.0 ∷ x.0.0.1 ∷ x.0.1 ∷ x.1 ∷ [])

abbrev FourFit : ((ℕ × ℕ) × ℕ) × ℕ → Type 0
FourFit x = (((x.0.0.0 < 256) × (x.0.0.1 < 256)) × (x.0.1 < 256)) × (x.1 < 256)

four_fits : (x : ((ℕ × ℕ) × ℕ) × ℕ) → FourFit x → (i : ℕ) → get_or (x.0.0.0 ∷ x.0.0.1 ∷ x.0.1 ∷ x.1 ∷ []) i 0 < 256
four_fits x f zero = f.0.0.0
four_fits x f (suc zero) = f.0.0.1
four_fits x f (suc (suc zero)) = f.0.1
four_fits x f (suc (suc (suc zero))) = f.1
four_fits x f (suc (suc (suc (suc i)))) = omega arith

four_bytes : (x : ((ℕ × ℕ) × ℕ) × ℕ) → FourFit x → to_be_bytes w32 (number_of_four x) ≡ x.0.0.0 ∷ x.0.0.1 ∷ x.0.1 ∷ x.1 ∷ []
four_bytes x f = be_bytes_4 (x.0.0.0 ∷ x.0.0.1 ∷ x.0.1 ∷ x.1 ∷ []) (number_of_four x) refl (four_fits x f) refl

regroup : (a b c d : List ℕ) → ((a ++ 46 ∷ b) ++ 46 ∷ c) ++ 46 ∷ d ≡ a ++ (46 ∷ b ++ (46 ∷ c ++ (46 ∷ d)))
regroup a b c d = simp append_assoc

pub dotted_exact : IsExact dotted (λ ip. ip < 2 ^ 32) NoDigit dotted_at
unfolding dotted_at
dotted_exact =
    made_exact (pair_exact (pair_exact (pair_exact octet dot_octet (λ y rest h. refl)) dot_octet (λ y rest h. refl)) dot_octet (λ y rest h. refl))
    number_of_four four_of dotted (λ ip. ip < 2 ^ 32)
    (λ x f. (
      regroup (decimal x.0.0.0) (decimal x.0.0.1) (decimal x.0.1) (decimal x.1) ∙ sym (ap (λ (bs : List ℕ). join_with_byte 46 (map decimal bs)) (four_bytes x f)),
      omega arith,
    ))
    (λ ip lt. (
      (((omega arith, omega arith), omega arith), omega arith),
      from_be_bytes-to_be_bytes_4 ip lt,
      sym (regroup (decimal (four_of ip).0.0.0) (decimal (four_of ip).0.0.1) (decimal (four_of ip).0.1) (decimal (four_of ip).1)),
    ))

-- ---- hexadecimal words

hex_takes : (w : List ℕ) (n : ℕ) → hex_numeral w ≡ Some n → (hex_digits 32 n ≡ w) × (n < 2 ^ 128)
hex_takes w n e =
    let p = cond_some (bytes_eq (hex_digits 32 (digits_value 16 w)) w && ltb (digits_value 16 w) (2 ^ 128)) (digits_value 16 w) n e in
    let q = and_parts (bytes_eq (hex_digits 32 (digits_value 16 w)) w) (ltb (digits_value 16 w) (2 ^ 128)) p.0 in
    subst (λ (m : ℕ). (hex_digits 32 m ≡ w) × (m < 2 ^ 128)) p.1 ((bytes_eq-Decides _ _).0 q.0, ltb-true _ _ q.1)

pub hex_word_exact : IsExact (hex_digits 32) (λ n. n < 2 ^ 128) (λ rest. Unit {0}) hex_word_at
unfolding hex_word_at
hex_word_exact = record {
  takes = λ bytes x e.
      let first = bind_ok (hex_numeral (take 32 bytes)) (λ n. Some (n, drop 32 bytes)) x e in
      let t = hex_takes (take 32 bytes) first.0 first.1 in
      let whole : ℕ × List ℕ = (first.0, drop 32 bytes) in
      subst (λ (y : ℕ × List ℕ). (bytes ≡ hex_digits 32 y.0 ++ y.1) × (y.0 < 2 ^ 128)) (some_is whole x first.2)
      (sym (take-append-drop 32 bytes) ∙ ap (λ (w : List ℕ). w ++ drop 32 bytes) (sym t.0), t.1);
  again = λ n rest lt follows.
      let l = length-hex_digits 32 n in
      rw (take_at (hex_digits 32 n) rest 32 l, drop_at (hex_digits 32 n) rest 32 l, hex_done n (hex_digits 32 n) lt refl) refl;
}

-- ---- addresses

pub colon_exact : IsExact (λ port. 58 ∷ decimal port) (λ port. port < 2 ^ 16) NoDigit port_at_colon
colon_exact = behind_exact 58 (small_exact (2 ^ 16) (omega arith))

ipv4_pair : IsExact (λ (x : ℕ × ℕ). dotted x.0 ++ 58 ∷ decimal x.1) (λ (x : ℕ × ℕ). (x.0 < 2 ^ 32) × (x.1 < 2 ^ 16)) NoDigit (pair dotted_at port_at_colon)
ipv4_pair = pair_exact dotted_exact colon_exact (λ y rest h. refl)

ipv6_pair : IsExact (λ (x : ℕ × ℕ). 91 ∷ (hex_digits 32 x.0 ++ 93 ∷ 58 ∷ decimal x.1)) (λ (x : ℕ × ℕ). (x.0 < 2 ^ 128) × (x.1 < 2 ^ 16)) NoDigit (behind 91 (pair hex_word_at (behind 93 port_at_colon)))
ipv6_pair = behind_exact 91 (pair_exact hex_word_exact (behind_exact 93 colon_exact) (λ y rest h. tt))

pub begins_digit : (c : ℕ) (w rest : List ℕ) → is_ascii_digit c ≡ false → AllDigits 10 w → 0 < length w → begins c (w ++ rest) ≡ false
begins_digit c [] rest no_digit all some = absurd (omega arith)
begins_digit c (d ∷ w) rest no_digit all some = let r = digit_from_value d all.0 in grind (arith, nat_tests)

pub begins_decimal : (c n : ℕ) (rest : List ℕ) → is_ascii_digit c ≡ false → n < 2 ^ 64 → begins c (decimal n ++ rest) ≡ false
begins_decimal c n rest no_digit lt = begins_digit c (decimal n) rest no_digit (digits_decimal own n lt) (decimal_nonempty n lt)

pub begins_dotted : (c ip : ℕ) (rest : List ℕ) → is_ascii_digit c ≡ false → begins c (dotted ip ++ rest) ≡ false
begins_dotted c ip rest no_digit =
    let r : dotted ip ++ rest ≡ decimal (ip / 16777216 % 256) ++ (46 ∷ (decimal (ip / 65536 % 256) ++ (46 ∷ (decimal (ip / 256 % 256) ++ (46 ∷ (decimal (ip % 256) ++ rest)))))) = simp append_assoc in
    ap (begins c) r ∙ begins_decimal c (ip / 16777216 % 256) _ no_digit (omega arith)

address_cases : (b : Bool) (bytes : List ℕ) (y : SocketAddr × List ℕ) → cond b (ipv6_at bytes) (ipv4_at bytes) ≡ Some y → (bytes ≡ address_text y.0 ++ y.1) × IsAddress y.0
unfolding ipv4_at ipv6_at
address_cases true bytes y e =
    made_takes ipv6_pair (λ x. record { ip = V6 x.0; port = x.1 }) address_text IsAddress []
    (λ x. ap (λ (t : List ℕ). 91 ∷ t) (append_assoc (hex_digits 32 x.0) (93 ∷ []) (58 ∷ decimal x.1))) (λ x f. f) bytes y e
address_cases false bytes y e = made_takes ipv4_pair (λ x. record { ip = V4 x.0; port = x.1 }) address_text IsAddress [] (λ x. refl) (λ x f. f) bytes y e

address_again : (ip : IpAddr) (port : ℕ) (rest : List ℕ) → IsIp ip → port < 2 ^ 16 → NoDigit rest →
    address_at ((ip_text ip ++ 58 ∷ decimal port) ++ rest) ≡ Some (record { ip = ip; port = port }, rest)
unfolding address_at ipv4_at ipv6_at
address_again (V4 ip) port rest fits lt follows =
    let b : begins 91 ((dotted ip ++ 58 ∷ decimal port) ++ rest) ≡ false = ap (begins 91) (append_assoc (dotted ip) (58 ∷ decimal port) rest) ∙ begins_dotted 91 ip _ refl in
    rw b (made_again ipv4_pair (λ x. record { ip = V4 x.0; port = x.1 }) (ip, port) rest (fits, lt) follows)
address_again (V6 ip) port rest fits lt follows =
    let s : (hex_digits 32 ip ++ 93 ∷ []) ++ 58 ∷ decimal port ≡ hex_digits 32 ip ++ 93 ∷ 58 ∷ decimal port = append_assoc (hex_digits 32 ip) (93 ∷ []) (58 ∷ decimal port) in
    ap (λ (t : List ℕ). ipv6_at (91 ∷ t ++ rest)) s ∙ made_again ipv6_pair (λ x. record { ip = V6 x.0; port = x.1 }) (ip, port) rest (fits, lt) follows

pub address_exact : IsExact address_text IsAddress NoDigit address_at
unfolding address_at
address_exact = record {
  takes = λ bytes y e. address_cases (begins 91 bytes) bytes y e;
  again = λ a rest fits follows. address_again a.ip a.port rest fits.0 fits.1 follows;
}

-- an address of version 6 in brackets
brackets : IsExact (λ (n : ℕ). 91 ∷ (hex_digits 32 n ++ 93 ∷ [])) (λ n. n < 2 ^ 128) NoDigit (behind 91 (before_text (93 ∷ []) hex_word_at))
brackets = behind_exact 91 (before_text_exact (93 ∷ []) hex_word_exact (λ rest h. tt))

ip_cases : (b : Bool) (bytes : List ℕ) (y : IpAddr × List ℕ) → cond b (made V6 (behind 91 (before_text (93 ∷ []) hex_word_at)) bytes) (made V4 dotted_at bytes) ≡ Some y → (bytes ≡ ip_text y.0 ++ y.1) × IsIp y.0
ip_cases true bytes y e = made_takes brackets V6 ip_text IsIp [] (λ x. refl) (λ x f. f) bytes y e
ip_cases false bytes y e = made_takes dotted_exact V4 ip_text IsIp [] (λ x. refl) (λ x f. f) bytes y e

ip_again : (ip : IpAddr) (rest : List ℕ) → IsIp ip → NoDigit rest → ip_at (ip_text ip ++ rest) ≡ Some (ip, rest)
unfolding ip_at
ip_again (V4 ip) rest fits follows = rw (begins_dotted 91 ip rest refl) (made_again dotted_exact V4 ip rest fits follows)
ip_again (V6 ip) rest fits follows = made_again brackets V6 ip rest fits follows

pub ip_exact : IsExact ip_text IsIp NoDigit ip_at
unfolding ip_at
ip_exact = record { takes = λ bytes y e. ip_cases (begins 91 bytes) bytes y e; again = ip_again }

pub begins_ip : (c : ℕ) (ip : IpAddr) (rest : List ℕ) → is_ascii_digit c ≡ false → eqb 91 c ≡ false → begins c (ip_text ip ++ rest) ≡ false
begins_ip c (V4 ip) rest no_digit no_bracket = begins_dotted c ip rest no_digit
begins_ip c (V6 ip) rest no_digit no_bracket = no_bracket

-- ---- texts

byte_cases : (c : ℕ) (bytes : List ℕ) (b d : Bool) (x : ℕ × List ℕ) → is_plain c ≡ b → (d ≡ true → c ≡ 92) → cond b (Some (c, bytes)) (cond d (escaped_at bytes) None) ≡ Some x → (c ∷ bytes ≡ escape_byte x.0 ++ x.1) × (x.0 < 256)
byte_cases c bytes true d x p e h =
    let whole : ℕ × List ℕ = (c, bytes) in
    subst (λ (y : ℕ × List ℕ). (c ∷ bytes ≡ escape_byte y.0 ++ y.1) × (y.0 < 256)) (some_is whole x h) (rw p refl, grind (arith, nat_tests))
byte_cases c bytes false false x p e h = absurd cc
byte_cases c [] false true x p e h = absurd cc
byte_cases c (a ∷ []) false true x p e h = absurd cc
byte_cases c (a ∷ b ∷ []) false true x p e h = absurd cc
byte_cases c (a ∷ h ∷ l ∷ bytes) false true x p e found =
    let n = 16 * digit_value h + digit_value l in
    let q = cond_some ((eqb a 120 && ltb n 256) && bytes_eq (escape_byte n) (92 ∷ 120 ∷ h ∷ l ∷ [])) (n, bytes) x found in
    let r = and_parts (eqb a 120 && ltb n 256) (bytes_eq (escape_byte n) (92 ∷ 120 ∷ h ∷ l ∷ [])) q.0 in
    let s = and_parts (eqb a 120) (ltb n 256) r.0 in
    let t : escape_byte n ≡ 92 ∷ 120 ∷ h ∷ l ∷ [] = (bytes_eq-Decides _ _).0 r.1 in
    let heads : c ∷ a ∷ h ∷ l ∷ bytes ≡ 92 ∷ 120 ∷ h ∷ l ∷ bytes = cc (e refl, eqb-true a 120 s.0) in
    subst (λ (y : ℕ × List ℕ). (c ∷ a ∷ h ∷ l ∷ bytes ≡ escape_byte y.0 ++ y.1) × (y.0 < 256)) q.1
    (heads ∙ ap (λ (w : List ℕ). w ++ bytes) (sym t), ltb-true _ _ s.1)

pub byte_takes : (bytes : List ℕ) (x : ℕ × List ℕ) → text_byte_at bytes ≡ Some x → (bytes ≡ escape_byte x.0 ++ x.1) × (x.0 < 256)
unfolding text_byte_at
byte_takes [] x e = absurd cc
byte_takes (c ∷ bytes) x e = byte_cases c bytes (is_plain c) (eqb c 92) x refl (λ p. eqb-true _ _ p) e

abbrev read : ℕ → List ℕ → Option (ℕ × List ℕ)
read n rest = Some (n, rest)

spelled : (n b : ℕ) (w rest : List ℕ) → n ≡ b → b < 256 → escape_byte b ≡ w → cond (ltb n 256 && bytes_eq (escape_byte n) w) (read n rest) None ≡ Some (b, rest)
spelled n b w rest same lt e =
    subst (λ (m : ℕ). cond (ltb m 256 && bytes_eq (escape_byte m) w) (read m rest) None ≡ Some (b, rest)) (sym same)
    (rw (lt-ltb b 256 lt, (bytes_eq-Decides (escape_byte b) w).1 e) refl)

byte_again_cases : (b : ℕ) (rest : List ℕ) (p : Bool) → is_plain b ≡ p → b < 256 → text_byte_at (escape_byte b ++ rest) ≡ Some (b, rest)
unfolding text_byte_at
byte_again_cases b rest true p lt =
    let e : escape_byte b ≡ b ∷ [] = ap (λ q. cond q (b ∷ []) (92 ∷ 120 ∷ hex_byte b)) p in
    ap (λ (w : List ℕ). text_byte_at (w ++ rest)) e ∙ ap (λ q. cond q (read b rest) (cond (eqb b 92) (escaped_at rest) None)) p
byte_again_cases b rest false p lt =
    let e : escape_byte b ≡ 92 ∷ 120 ∷ hex_byte b = ap (λ q. cond q (b ∷ []) (92 ∷ 120 ∷ hex_byte b)) p in
    let n : 16 * digit_value (digit_glyph false (b / 16)) + digit_value (digit_glyph false (b % 16)) ≡ b =
    omega (arith, glyph_value (b / 16) (omega arith), glyph_value (b % 16) (omega arith)) in
    ap (λ (w : List ℕ). text_byte_at (w ++ rest)) e ∙ spelled (16 * digit_value (digit_glyph false (b / 16)) + digit_value (digit_glyph false (b % 16))) b (92 ∷ 120 ∷ hex_byte b) rest n lt e

pub byte_again : (b : ℕ) (rest : List ℕ) → b < 256 → text_byte_at (escape_byte b ++ rest) ≡ Some (b, rest)
byte_again b rest lt = byte_again_cases b rest (is_plain b) refl lt

some_byte : (b : ℕ) → 0 < length (escape_byte b)
some_byte b = elim (is_plain b) as (λ p. 0 < length (cond p (b ∷ []) (92 ∷ 120 ∷ hex_byte b))) [ true ↦ omega arith | false ↦ omega arith ]

text_again_step : (bytes rest : List ℕ) (b : ℕ) (t : List ℕ) → 0 < length bytes → text_byte_at bytes ≡ Some (b, rest) → text_of rest ≡ Some t → text_of bytes ≡ Some (b ∷ t)
text_again_step [] rest b t some e h = absurd (omega arith)
text_again_step (c ∷ bytes) rest b t some e h = text_step c bytes ∙ ap then_text e ∙ ap (λ r. r >>= λ u. Some (b ∷ u)) h

pub text_again : (t : List ℕ) → IsText t → text_of (escape t) ≡ Some t
unfolding text_from
text_again [] fits = refl
text_again (b ∷ t) fits =
    text_again_step (escape_byte b ++ escape t) (escape t) b t (omega (arith, length-append (escape_byte b) (escape t), some_byte b))
    (byte_again b (escape t) fits.0) (text_again t fits.1)

pub text_takes : (n : ℕ) (bytes t : List ℕ) → length bytes ≤ n → text_of bytes ≡ Some t → (bytes ≡ escape t) × IsText t
unfolding text_from
text_takes n [] t le e = subst (λ (u : List ℕ). ([] ≡ escape u) × IsText u) (some_is [] t e) (refl, tt)
text_takes zero (c ∷ bytes) t le e = absurd (omega arith)
text_takes (suc n) (c ∷ bytes) t le e =
    let read = sym (text_step c bytes) ∙ e in
    let first = bind_ok (text_byte_at (c ∷ bytes)) (λ x. text_of x.1 >>= λ u. Some (x.0 ∷ u)) t read in
    let second = bind_ok (text_of first.0.1) (λ u. Some (first.0.0 ∷ u)) t first.2 in
    let b = byte_takes (c ∷ bytes) first.0 first.1 in
    let shorter = text_byte_shorter (c ∷ bytes) first.0 first.1 in
    let others = text_takes n first.0.1 second.0 (omega (arith, shorter, le)) second.1 in
    subst (λ (u : List ℕ). (c ∷ bytes ≡ escape u) × IsText u) (some_is (first.0.0 ∷ second.0) t second.2)
    (b.0 ∙ ap (λ (w : List ℕ). escape_byte first.0.0 ++ w) others.0, (b.1, others.1))

text_field_again : (t rest : List ℕ) → IsText t → IsNil rest → text_field (32 ∷ escape t ++ rest) ≡ Some (t, rest)
unfolding text_field
text_field_again t [] fits follows = rw (append-nil (escape t), text_again t fits) refl
text_field_again t (c ∷ rest) fits follows = absurd follows

pub text_exact : IsExact (λ (t : List ℕ). 32 ∷ escape t) IsText IsNil text_field
unfolding text_field
text_exact = record {
  takes = λ bytes x e.
      let first = bind_ok (after 32 bytes) (λ rest. text_of rest >>= λ t. Some (t, [])) x e in
      let second = bind_ok (text_of first.0) (λ t. Some (t, [])) x first.2 in
      let t = text_takes (length first.0) first.0 second.0 (omega arith) second.1 in
      let whole : List ℕ × List ℕ = (second.0, []) in
      subst (λ (y : List ℕ × List ℕ). (bytes ≡ (32 ∷ escape y.0) ++ y.1) × IsText y.0) (some_is whole x second.2)
      (after_ok 32 bytes first.0 first.1 ∙ ap (λ (w : List ℕ). 32 ∷ w) (t.0 ∙ sym (append-nil (escape second.0))), t.1);
  again = text_field_again;
}

optional_text_takes : (bytes : List ℕ) (x : Option (List ℕ) × List ℕ) → optional_text_field bytes ≡ Some x → (bytes ≡ optional_text x.0 ++ x.1) × Each IsText x.0
unfolding optional_text_field
optional_text_takes [] x e =
    let whole : Option (List ℕ) × List ℕ = (None, []) in
    subst (λ (y : Option (List ℕ) × List ℕ). ([] ≡ optional_text y.0 ++ y.1) × Each IsText y.0) (some_is whole x e) (refl, tt)
optional_text_takes (c ∷ bytes) x e =
    made_takes text_exact Some optional_text (Each IsText) [] (λ t. refl) (λ t fits. fits) (c ∷ bytes) x e

optional_text_again : (o : Option (List ℕ)) (rest : List ℕ) → Each IsText o → IsNil rest → optional_text_field (optional_text o ++ rest) ≡ Some (o, rest)
unfolding optional_text_field
optional_text_again None [] fits follows = refl
optional_text_again None (c ∷ rest) fits follows = absurd follows
optional_text_again (Some t) rest fits follows = made_again text_exact Some t rest fits follows

pub optional_text_exact : IsExact optional_text (Each IsText) IsNil optional_text_field
optional_text_exact = record { takes = optional_text_takes; again = optional_text_again }
