use Rattle.std.proofs.Common.{◌≡◌, ℕ, List, None, option_map, sym, ap, ◌∙◌}
use Rattle.std.specs.Option.{option_or}
use Rattle.ftp_transfer.specs.declared.job.Completion.TheVariants as result
use Rattle.ftp_text.specs.Printing.{result_text}
use Rattle.ftp_text.specs.Reading.{find_word, kinds}
use Rattle.ftp_text.specs.AnswerReading.{own_results, results}
use Rattle.ftp_text.proofs.WordTables.{find_word-then}
use Rattle.ftp_text.proofs.answer.completion_named.Goals as goal

-- a word that is none of an end's own is looked for in those of refusals
refused : (w : List ℕ) → find_word result_text own_results w ≡ None →
    find_word result_text results w ≡ option_map result.Refused (find_word (λ kind. result_text (result.Refused kind)) kinds w)
refused w none =
    find_word-then result_text own_results result.Refused kinds w
    ∙ ap (λ own. option_or own (option_map result.Refused (find_word (λ kind. result_text (result.Refused kind)) kinds w))) none

pub returns-in_ok-kind-in-None : goal.returns-in_ok-kind-in-None
returns-in_ok-kind-in-None c =
    ap (λ kind. option_map result.Refused kind) c.in_ok-kind-in-None.ensures
    ∙ sym (refused c.args.word.now (sym c.value_named.ensures ∙ c.in-None.is))

pub returns-in_err-kind-in-None : goal.returns-in_err-kind-in-None
returns-in_err-kind-in-None c =
    c.from_residual.ensures
    ∙ ap (λ kind. option_map result.Refused kind) c.in_err-kind-in-None.ensures
    ∙ sym (refused c.args.word.now (sym c.value_named.ensures ∙ c.in-None.is))
