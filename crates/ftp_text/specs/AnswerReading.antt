-- Reading the answer of an entry.
use Rattle.std.specs.Prelude.{ℕ, nat_le, Bool, false, List, [], ◌∷◌, ◌++◌, map, codes, Option, Some, None, Result, Ok, Err, if◌then◌else◌}
use Rattle.ftp_base.specs.declared.fault.LinkFault.{LinkFault}
use Rattle.ftp_proxy.specs.declared.error.ProxyError.{ProxyError}
use Rattle.ftp_proxy.specs.declared.header.ProxyHeader.{ProxyHeader}
use Rattle.ftp_transfer.specs.declared.job.Completion.{Completion}
use Rattle.ftp_transfer.specs.declared.job.Completion.TheVariants as result
use Rattle.ftp_transfer.specs.declared.job.Outcome.{Outcome}
use Rattle.ftp_events.specs.declared.event.Answer.{Answer}
use Rattle.ftp_events.specs.declared.event.Answer.TheVariants as answer
use Rattle.ftp_text.specs.Fields.{proxy_error_text}
use Rattle.ftp_text.specs.Reading.{Reader, pair, made, behind_text, number_field, address_field, word_value, worded, kinds, faults, proxy_errors}
use Rattle.ftp_text.specs.Printing.{result_text}
use Rattle.ftp_text.specs.LineWords.{AnswerWord}
use Rattle.ftp_text.specs.LineWords as word
use Rattle.ftp_text.specs.LogLines.{answer_word_text, maybe_fault_text}

-- all words of answers
abbrev pub answer_words : List AnswerWord
answer_words = word.Header ∷ word.Done ∷ word.Moved ∷ []

-- all ends of transfers that are no refusals
abbrev pub own_results : List Completion
own_results = result.Sent ∷ result.Written ∷ result.Listed ∷ result.WriteFailed ∷ result.OutOfMemory ∷ []

-- all ends of transfers
abbrev pub results : List Completion
results = own_results ++ map result.Refused kinds

-- all that a link can have met
abbrev pub maybe_faults : List (Option LinkFault)
maybe_faults = None ∷ map Some faults

-- whether the field begins with a letter
abbrev pub has_letter : List ℕ → Bool
has_letter (space ∷ c ∷ bytes) = nat_le 97 c
has_letter _ = false

-- the client and the address that it called
abbrev pub addresses_at : Reader (Result ProxyHeader ProxyError)
addresses_at = made (λ x. Ok (record { source = x.0; destination = x.1 })) (pair address_field address_field)

-- why there is no header
abbrev pub error_at : Reader (Result ProxyHeader ProxyError)
error_at = made Err (word_value proxy_error_text proxy_errors)

-- what the header of a proxy says, or why it is none
unfoldable pub header_at : Reader (Result ProxyHeader ProxyError)
header_at bytes = if has_letter bytes then error_at bytes else addresses_at bytes

-- how a transfer ended, how many bytes it moved, and what its link met
unfoldable pub outcome_at : Reader Outcome
outcome_at =
    made (λ x. record { result = x.0; bytes = x.1.0; fault = x.1.1 })
    (pair (word_value result_text results) (pair number_field (word_value maybe_fault_text maybe_faults)))

-- the answer behind its word
abbrev pub answer_behind : AnswerWord → Reader Answer
answer_behind word.Header = made answer.Header header_at
answer_behind word.Done = made answer.Done outcome_at
answer_behind word.Moved = made answer.Moved number_field

-- an answer, with its mark
unfoldable pub answer_at : Reader Answer
answer_at = behind_text (codes "?") (worded answer_word_text answer_words answer_behind)
