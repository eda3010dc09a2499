-- Each field is read exactly.
use Rattle.std.proofs.Common.{◌≡◌, ℕ, ◌^◌, ◌<◌, ◌≤◌, true, List, ◌∷◌, ◌++◌, Option, Some, None, refl, sym, ap, subst, ◌∙◌, append_assoc, arith}
use Rattle.std.specs.Char.{is_ascii_digit}
use Rattle.std.proofs.lemmas.Bool.Decides.{nat_tests}
use Rattle.std.proofs.lemmas.Fmt.{digits_decimal}
use Rattle.ftp_base.specs.declared.fault.LinkFault.{LinkFault}
use Rattle.ftp_base.specs.declared.fault.LinkFault.TheVariants as link
use Rattle.ftp_base.specs.Calls.{rises_above}
use Rattle.std.specs.Fmt.{decimal}
use Rattle.ftp_base.specs.declared.login.AuthAnswer.{AuthAnswer}
use Rattle.ftp_base.specs.declared.login.AuthAnswer.TheVariants as auth
use Rattle.ftp_base.specs.declared.error_kind.ErrorKind.{ErrorKind}
use Rattle.ftp_base.specs.declared.error_kind.ErrorKind.TheVariants as error
use Rattle.ftp_base.specs.declared.reply.ReplyCode.{ReplyCode}
use Rattle.ftp_base.specs.declared.reply.ReplyCode.TheVariants as code
use Rattle.ftp_base.specs.Reply.{code_text}
use Rattle.ftp_proxy.specs.declared.error.ProxyError.{ProxyError}
use Rattle.ftp_proxy.specs.declared.error.ProxyError.TheVariants as proxy
use Rattle.ftp_proxy.specs.declared.error.ReadError.TheVariants as read
use Rattle.ftp_text.specs.Fields.{field, number, dotted, ip_text, address_text, optional, optional_text, ticket, hex_digits, answer_text, kind_text, refusal_text, fault_text, proxy_error_text, link_call_text, listed, IsIp, IsAddress, IsNumber, AreCalls, Each}
use Rattle.ftp_text.specs.Reading.{◌>>=◌, after, begins, number_at, small_at, dotted_at, ip_at, number_field, small_field, address_field, ip_field, optional_field, ticket_field, hex_word_field, find_word, word_value, answers, answer_field, kinds, refusals, refusal_field, proxy_errors, faults, calls_field, call_of, link_call_of}
use Rattle.ftp_text.specs.Message.{reply_codes}
use Rattle.ftp_text.proofs.Exact.{Ends, IsNil, Ends-from_nil, NoDigit-from_ends, IsExact, exact_weaker, pair_exact, behind_exact, Pass, bind_ok, some_is, after_ok, find_takes, find_passes, digits_pass, tested_exact, table_exact, optional_exact, number_exact, small_exact, all_of-takes, all_of-again}
use Rattle.ftp_text.proofs.Numerals.{own}
use Rattle.ftp_text.proofs.Lists.{is_inner, pass-more, pass-append, listed_exact}
use Rattle.ftp_text.proofs.Values.{begins_decimal, begins_dotted, begins_ip, dotted_exact, ip_exact, hex_word_exact, address_exact}

pub number_is : IsExact number (λ n. n < 2 ^ 64) Ends number_field
number_is = exact_weaker (behind_exact 32 number_exact) NoDigit-from_ends

pub small_is : (limit : ℕ) → limit ≤ 2 ^ 64 → IsExact number (λ n. n < limit) Ends (small_field limit)
small_is limit le = exact_weaker (behind_exact 32 (small_exact limit le)) NoDigit-from_ends

pub port_is : IsExact number (λ n. n < 2 ^ 16) Ends (small_field (2 ^ 16))
port_is = small_is (2 ^ 16) (omega arith)

pub address_is : IsExact (λ a. field (address_text a)) IsAddress Ends address_field
address_is = exact_weaker (behind_exact 32 address_exact) NoDigit-from_ends

pub ip_is : IsExact (λ ip. field (ip_text ip)) IsIp Ends ip_field
ip_is = exact_weaker (behind_exact 32 ip_exact) NoDigit-from_ends

pub optional_ip_is : IsExact (optional ip_text) (Each IsIp) Ends (optional_field ip_at)
optional_ip_is = exact_weaker (optional_exact ip_exact (λ ip rest fits. begins_ip 45 ip rest refl refl)) NoDigit-from_ends

pub answer_is : IsExact (λ (v : AuthAnswer). field (answer_text v)) (λ v. Unit {0}) Ends answer_field
answer_is = table_exact answer_text answers refl (elim [ auth.Good ↦ refl | _ ↦ refl ])

pub kind_is : IsExact (λ (k : ErrorKind). field (kind_text k)) (λ k. Unit {0}) Ends (word_value kind_text kinds)
kind_is = table_exact kind_text kinds refl (elim [ error.TransientFileNotAvailable ↦ refl | _ ↦ refl ])

pub code_is : IsExact (λ (c : ReplyCode). field (code_text c)) (λ c. Unit {0}) Ends (word_value code_text reply_codes)
code_is = table_exact code_text reply_codes refl (elim [ code.FileStatusOkay ↦ refl | _ ↦ refl ])

pub refusal_is : IsExact (λ (v : Option ErrorKind). field (refusal_text v)) (λ v. Unit {0}) Ends refusal_field
refusal_is = table_exact refusal_text refusals refl (elim [ Some error.TransientFileNotAvailable ↦ refl | _ ↦ refl ])

pub optional_number_is : IsExact (optional decimal) (Each IsNumber) Ends (optional_field number_at)
optional_number_is = exact_weaker (optional_exact number_exact (λ n rest lt. begins_decimal 45 n rest refl lt)) NoDigit-from_ends

pub optional_port_is : IsExact (optional decimal) (Each (λ n. n < 2 ^ 16)) Ends (optional_field (small_at (2 ^ 16)))
optional_port_is = exact_weaker (optional_exact (small_exact (2 ^ 16) (omega arith)) (λ n rest lt. begins_decimal 45 n rest refl (omega (arith, lt)))) NoDigit-from_ends

pub optional_dotted_is : IsExact (optional dotted) (Each (λ ip. ip < 2 ^ 32)) Ends (optional_field dotted_at)
optional_dotted_is = exact_weaker (optional_exact dotted_exact (λ ip rest lt. begins_dotted 45 ip rest refl)) NoDigit-from_ends

pub optional_starts : {A : Type 0} (s : A → List ℕ) (o : Option A) (rest : List ℕ) → Ends (optional s o ++ rest)
optional_starts s None rest = refl
optional_starts s (Some x) rest = refl

pub optional_text_starts : (o : Option (List ℕ)) (rest : List ℕ) → IsNil rest → Ends (optional_text o ++ rest)
optional_text_starts None rest h = Ends-from_nil rest h
optional_text_starts (Some t) rest h = refl

pub ticket_is : IsExact (λ (x : ℕ × ℕ). ticket x.0 x.1) (λ x. IsNumber x.0 × IsNumber x.1) Ends ticket_field
ticket_is = exact_weaker (pair_exact (behind_exact 32 number_exact) (behind_exact 46 number_exact) (λ y rest h. refl)) NoDigit-from_ends

pub hex_word_is : IsExact (λ n. field (hex_digits 32 n)) (λ n. n < 2 ^ 128) Ends hex_word_field
hex_word_is = exact_weaker (behind_exact 32 hex_word_exact) (λ rest h. tt)

pub proxy_error_is : IsExact (λ (e : ProxyError). field (proxy_error_text e)) (λ e. Unit {0}) Ends (word_value proxy_error_text proxy_errors)
proxy_error_is = table_exact proxy_error_text proxy_errors refl (elim [ proxy.ReadError read.UnexpectedEof ↦ refl | _ ↦ refl ])

-- ---- the calls that fail

digit_inner : (b : ℕ) → is_ascii_digit b ≡ true → is_inner b ≡ true
digit_inner b h = grind (arith, nat_tests)

decimal_inner : (n : ℕ) → IsNumber n → Pass is_inner (decimal n)
decimal_inner n lt = pass-more is_ascii_digit is_inner digit_inner (decimal n) (digits_pass (decimal n) (digits_decimal own n lt))

call_takes : (w : List ℕ) (n : ℕ) → call_of w ≡ Some n → (decimal n ≡ w) × IsNumber n
unfolding call_of
call_takes w n e = all_of-takes number_exact w n e

call_again : (n : ℕ) → IsNumber n → call_of (decimal n) ≡ Some n
unfolding call_of
call_again n lt = all_of-again number_exact n lt tt

pub calls_is : IsExact (λ (calls : List ℕ). field (listed decimal calls)) (AreCalls (λ n. n)) Ends (calls_field call_of (λ n. n))
unfolding calls_field
calls_is =
    tested_exact (rises_above (λ n. n) 0)
    (listed_exact decimal IsNumber call_of decimal_inner (λ n rest lt. begins_decimal 45 n rest refl lt) call_takes call_again)

fault_found : (f : LinkFault) → find_word fault_text faults (fault_text f) ≡ Some f
fault_found link.Reset = refl
fault_found _ = refl

fault_inner : (f : LinkFault) → Pass is_inner (fault_text f)
fault_inner f = find_passes is_inner fault_text faults (fault_text f) f refl (fault_found f)

-- the number of a call on a connection fits its type
abbrev IsLinkCall : ℕ × LinkFault → Type 0
IsLinkCall call = IsNumber call.0

link_call_takes : (w : List ℕ) (call : ℕ × LinkFault) → link_call_of w ≡ Some call → (link_call_text call ≡ w) × IsLinkCall call
unfolding link_call_of
link_call_takes w call e =
    let first = bind_ok (number_at w) (λ n. after 58 n.1 >>= λ rest. find_word fault_text faults rest >>= λ f. Some (n.0, f)) call e in
    let second = bind_ok (after 58 first.0.1) (λ rest. find_word fault_text faults rest >>= λ f. Some (first.0.0, f)) call first.2 in
    let third = bind_ok (find_word fault_text faults second.0) (λ f. Some (first.0.0, f)) call second.2 in
    let t = number_exact.takes w first.0 first.1 in
    let colon = after_ok 58 first.0.1 second.0 second.1 in
    let fault = find_takes fault_text faults second.0 third.0 third.1 in
    let whole : ℕ × LinkFault = (first.0.0, third.0) in
    subst (λ (c : ℕ × LinkFault). (link_call_text c ≡ w) × IsLinkCall c) (some_is whole call third.2)
    (ap (λ (rest : List ℕ). decimal first.0.0 ++ 58 ∷ rest) fault ∙ ap (λ (rest : List ℕ). decimal first.0.0 ++ rest) (sym colon) ∙ sym t.0, t.1)

link_call_again : (call : ℕ × LinkFault) → IsLinkCall call → link_call_of (link_call_text call) ≡ Some call
unfolding link_call_of
link_call_again call lt =
    rw (number_exact.again call.0 (58 ∷ fault_text call.1) lt refl, fault_found call.1) refl

pub link_calls_is : IsExact (λ (calls : List (ℕ × LinkFault)). field (listed link_call_text calls)) (AreCalls (λ call. call.0)) Ends (calls_field link_call_of (λ call. call.0))
unfolding calls_field
link_calls_is =
    tested_exact (rises_above (λ call. call.0) 0)
    (listed_exact link_call_text IsLinkCall link_call_of
    (λ call lt. pass-append is_inner (decimal call.0) (58 ∷ fault_text call.1) (decimal_inner call.0 lt) (refl, fault_inner call.1))
    (λ call rest lt. ap (begins 45) (append_assoc (decimal call.0) (58 ∷ fault_text call.1) rest) ∙ begins_decimal 45 call.0 (58 ∷ fault_text call.1 ++ rest) refl lt)
    link_call_takes link_call_again)
