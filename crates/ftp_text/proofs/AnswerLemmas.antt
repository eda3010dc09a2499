-- Each answer is read exactly.
use Rattle.std.proofs.Common.{◌≡◌, ℕ, ◌/◌, ◌%◌, ◌^◌, ◌<◌, Bool, true, false, cond, List, [], ◌∷◌, ◌++◌, length, Option, Some, None, refl, sym, ap, ◌∙◌, append_assoc, arith}
use Rattle.std.specs.Prelude.{codes, Result, Ok, Err}
use Rattle.std.specs.Fmt.{decimal}
use Rattle.std.specs.Str.Parse.{AllDigits}
use Rattle.std.proofs.lemmas.Bool.Decides.{nat_tests}
use Rattle.std.proofs.lemmas.Fmt.{decimal_nonempty, digits_decimal}
use Rattle.std.proofs.lemmas.Str.Parse.{digit_from_value}
use Rattle.ftp_base.specs.declared.fault.LinkFault.{LinkFault}
use Rattle.ftp_base.specs.declared.fault.LinkFault.TheVariants as link
use Rattle.ftp_base.specs.declared.error_kind.ErrorKind.TheVariants as error
use Rattle.ftp_base.specs.declared.net.IpAddr.{IpAddr}
use Rattle.ftp_base.specs.declared.net.IpAddr.TheVariants.{V4, V6}
use Rattle.ftp_base.specs.declared.net.SocketAddr.{SocketAddr}
use Rattle.ftp_proxy.specs.declared.error.ProxyError.{ProxyError}
use Rattle.ftp_proxy.specs.declared.error.ProxyError.TheVariants as proxy
use Rattle.ftp_proxy.specs.declared.error.ReadError.TheVariants as read
use Rattle.ftp_proxy.specs.declared.header.ProxyHeader.{ProxyHeader}
use Rattle.ftp_transfer.specs.declared.job.Completion.{Completion}
use Rattle.ftp_transfer.specs.declared.job.Completion.TheVariants as result
use Rattle.ftp_transfer.specs.declared.job.Outcome.{Outcome}
use Rattle.ftp_events.specs.declared.event.Answer.{Answer}
use Rattle.ftp_events.specs.declared.event.Answer.TheVariants as answer
use Rattle.ftp_text.specs.Fields.{field, number, dotted, ip_text, address_text, optional, fault_text, proxy_error_text, IsAddress, IsNumber}
use Rattle.ftp_text.specs.Reading.{pair, word_value, address_field}
use Rattle.ftp_text.proofs.Exact.{Ends, IsNil, Ends-from_nil, IsExact, pair_exact, made_exact, made_takes, made_again, table_exact}
use Rattle.ftp_text.proofs.FieldLemmas.{number_is, address_is, proxy_error_is}
use Rattle.ftp_text.proofs.Numerals.{own}
use Rattle.ftp_text.specs.Printing.{result_text, header_fields, outcome_fields}
use Rattle.ftp_text.specs.LineWords.{AnswerWord}
use Rattle.ftp_text.specs.LineWords as word
use Rattle.ftp_text.specs.LogLines.{answer_word_text, maybe_fault_text, answer_text, IsAnswer}
use Rattle.ftp_text.specs.AnswerReading.{answer_words, results, maybe_faults, has_letter, addresses_at, error_at, header_at, outcome_at, answer_behind, answer_at}
use Rattle.ftp_text.proofs.WordThen.{exact_spelled, marked_exact}

-- ---- the header of a proxy

digits_no_letter : (w rest : List ℕ) → AllDigits 10 w → 0 < length w → has_letter (32 ∷ w ++ rest) ≡ false
digits_no_letter [] rest all some = absurd (omega arith)
digits_no_letter (d ∷ w) rest all some = let r = digit_from_value d all.0 in grind (arith, nat_tests)

decimal_no_letter : (n : ℕ) (rest : List ℕ) → n < 2 ^ 64 → has_letter (32 ∷ decimal n ++ rest) ≡ false
decimal_no_letter n rest lt = digits_no_letter (decimal n) rest (digits_decimal own n lt) (decimal_nonempty n lt)

dotted_no_letter : (ip : ℕ) (rest : List ℕ) → has_letter (32 ∷ dotted ip ++ rest) ≡ false
dotted_no_letter ip rest =
    let r : dotted ip ++ rest ≡ decimal (ip / 16777216 % 256) ++ (46 ∷ (decimal (ip / 65536 % 256) ++ (46 ∷ (decimal (ip / 256 % 256) ++ (46 ∷ (decimal (ip % 256) ++ rest)))))) = simp append_assoc in
    ap (λ (t : List ℕ). has_letter (32 ∷ t)) r ∙ decimal_no_letter (ip / 16777216 % 256) _ (omega arith)

address_no_letter : (ip : IpAddr) (port : ℕ) (rest : List ℕ) → has_letter (32 ∷ (ip_text ip ++ 58 ∷ decimal port) ++ rest) ≡ false
address_no_letter (V4 ip) port rest =
    ap (λ (t : List ℕ). has_letter (32 ∷ t)) (append_assoc (dotted ip) (58 ∷ decimal port) rest) ∙ dotted_no_letter ip (58 ∷ decimal port ++ rest)
address_no_letter (V6 ip) port rest = refl

error_letter : (e : ProxyError) (rest : List ℕ) → has_letter (32 ∷ proxy_error_text e ++ rest) ≡ true
error_letter (proxy.ReadError read.UnexpectedEof) rest = refl
error_letter (proxy.ReadError read.Fault) rest = refl
error_letter _ rest = refl

abbrev pub IsHeader : Result ProxyHeader ProxyError → Type 0
IsHeader (Ok header) = IsAddress header.source × IsAddress header.destination
IsHeader (Err fault) = Unit {0}

abbrev Two : Type 0
Two = SocketAddr × SocketAddr

two_addresses : IsExact (λ (x : Two). field (address_text x.0) ++ field (address_text x.1)) (λ (x : Two). IsAddress x.0 × IsAddress x.1) Ends (pair address_field address_field)
two_addresses = pair_exact address_is address_is (λ y rest h. refl)

header_cases : (b : Bool) (bytes : List ℕ) (y : Result ProxyHeader ProxyError × List ℕ) → cond b (error_at bytes) (addresses_at bytes) ≡ Some y →
    (bytes ≡ header_fields y.0 ++ y.1) × IsHeader y.0
header_cases true bytes y e = made_takes proxy_error_is Err header_fields IsHeader [] (λ x. refl) (λ x f. f) bytes y e
header_cases false bytes y e =
    made_takes two_addresses (λ x. Ok (record { source = x.0; destination = x.1 })) header_fields IsHeader [] (λ x. refl) (λ x f. f) bytes y e

header_again : (h : Result ProxyHeader ProxyError) (rest : List ℕ) → IsHeader h → Ends rest → header_at (header_fields h ++ rest) ≡ Some (h, rest)
unfolding header_at
header_again (Err fault) rest fits follows = rw (error_letter fault rest) (made_again proxy_error_is Err fault rest tt follows)
header_again (Ok line) rest fits follows =
    let source = field (address_text line.source) in
    let destination = field (address_text line.destination) in
    let two : Two = (line.source, line.destination) in
    let plain : has_letter ((source ++ destination) ++ rest) ≡ false = ap has_letter (append_assoc source destination rest) ∙ address_no_letter line.source.ip line.source.port (destination ++ rest) in
    rw plain (made_again two_addresses (λ x. Ok (record { source = x.0; destination = x.1 })) two rest fits follows)

header_is : IsExact header_fields IsHeader Ends header_at
unfolding header_at
header_is = record { takes = λ bytes y e. header_cases (has_letter bytes) bytes y e; again = header_again }

-- ---- the end of a transfer

result_is : IsExact (λ (r : Completion). field (result_text r)) (λ r. Unit {0}) Ends (word_value result_text results)
result_is = table_exact result_text results refl (elim [ result.Refused error.TransientFileNotAvailable ↦ refl | result.Refused _ ↦ refl | _ ↦ refl ])

maybe_fault-optional : (f : Option LinkFault) → field (maybe_fault_text f) ≡ optional fault_text f
maybe_fault-optional None = refl
maybe_fault-optional (Some f) = refl

maybe_fault_is : IsExact (optional fault_text) (λ f. Unit {0}) Ends (word_value maybe_fault_text maybe_faults)
maybe_fault_is = exact_spelled (table_exact maybe_fault_text maybe_faults refl (elim [ Some link.Reset ↦ refl | Some _ ↦ refl | None ↦ refl ])) (λ f fits. maybe_fault-optional f)

outcome_is : IsExact outcome_fields (λ (o : Outcome). IsNumber o.bytes) Ends outcome_at
unfolding outcome_at
outcome_is =
    made_exact (pair_exact result_is (pair_exact number_is maybe_fault_is (λ f rest h. fault_starts f rest)) (λ y rest h. refl))
    (λ x. record { result = x.0; bytes = x.1.0; fault = x.1.1 })
    (λ o. (o.result, (o.bytes, o.fault)))
    outcome_fields (λ (o : Outcome). IsNumber o.bytes)
    (λ x f. (sym (append_assoc (field (result_text x.0)) (number x.1.0) (optional fault_text x.1.1)), f.1.0))
    (λ o fits. ((tt, (fits, tt)), refl, append_assoc (field (result_text o.result)) (number o.bytes) (optional fault_text o.fault))) where
      fault_starts : (f : Option LinkFault) (rest : List ℕ) → Ends (optional fault_text f ++ rest)
      fault_starts None rest = refl
      fault_starts (Some f) rest = refl

-- ---- answers, by their words

-- the word of an answer; that of none is never asked for
abbrev word_for : Answer → AnswerWord
word_for answer.None = word.Moved
word_for (answer.Header header) = word.Header
word_for (answer.Done o) = word.Done
word_for (answer.Moved bytes) = word.Moved

-- what stands behind the word
abbrev behind_word : Answer → List ℕ
behind_word answer.None = []
behind_word (answer.Header header) = header_fields header
behind_word (answer.Done o) = outcome_fields o
behind_word (answer.Moved bytes) = number bytes

IsAnswer-header : (h : Result ProxyHeader ProxyError) → IsHeader h → IsAnswer (answer.Header h)
IsAnswer-header (Ok header) fits = fits
IsAnswer-header (Err fault) fits = fits

IsHeader-answer : (h : Result ProxyHeader ProxyError) → IsAnswer (answer.Header h) → IsHeader h
IsHeader-answer (Ok header) fits = fits
IsHeader-answer (Err fault) fits = fits

abbrev Is : AnswerWord → Answer → Type 0
Is w a = IsAnswer a × (answer_word_text (word_for a) ≡ answer_word_text w)

answer_takes : (w : AnswerWord) (bytes : List ℕ) (y : Answer × List ℕ) → answer_behind w bytes ≡ Some y → (bytes ≡ behind_word y.0 ++ y.1) × Is w y.0
answer_takes word.Header bytes y e =
    made_takes header_is answer.Header behind_word (Is word.Header) [] (λ x. refl) (λ x f. (IsAnswer-header x f, refl)) bytes y e
answer_takes word.Done bytes y e = made_takes outcome_is answer.Done behind_word (Is word.Done) [] (λ x. refl) (λ x f. (f, refl)) bytes y e
answer_takes word.Moved bytes y e = made_takes number_is answer.Moved behind_word (Is word.Moved) [] (λ x. refl) (λ x f. (f, refl)) bytes y e

answer_again : (a : Answer) (rest : List ℕ) → IsAnswer a → IsNil rest → answer_behind (word_for a) (behind_word a ++ rest) ≡ Some (a, rest)
answer_again answer.None rest fits follows = absurd fits
answer_again (answer.Header h) rest fits follows = made_again header_is answer.Header h rest (IsHeader-answer h fits) (Ends-from_nil rest follows)
answer_again (answer.Done o) rest fits follows = made_again outcome_is answer.Done o rest fits (Ends-from_nil rest follows)
answer_again (answer.Moved bytes) rest fits follows = made_again number_is answer.Moved bytes rest fits (Ends-from_nil rest follows)

answer_starts : (a : Answer) (rest : List ℕ) → IsAnswer a → IsNil rest → Ends (behind_word a ++ rest)
answer_starts answer.None rest fits follows = absurd fits
answer_starts (answer.Header (Ok header)) rest fits follows = refl
answer_starts (answer.Header (Err fault)) rest fits follows = refl
answer_starts (answer.Done o) rest fits follows = refl
answer_starts (answer.Moved bytes) rest fits follows = refl

spelled : (a : Answer) → IsAnswer a → codes "?" ++ (32 ∷ answer_word_text (word_for a) ++ behind_word a) ≡ answer_text a
spelled answer.None fits = absurd fits
spelled (answer.Header header) fits = refl
spelled (answer.Done o) fits = refl
spelled (answer.Moved bytes) fits = refl

pub answer_is : IsExact answer_text IsAnswer IsNil answer_at
unfolding answer_at
answer_is =
    marked_exact (codes "?") answer_words (table_exact answer_word_text answer_words refl (elim [ word.Header ↦ refl | _ ↦ refl ])) (λ a fits. tt)
    (record { takes = answer_takes; again = answer_again; starts = answer_starts }) spelled
