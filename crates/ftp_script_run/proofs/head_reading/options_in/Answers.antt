use Rattle.std.proofs.Common.{sym}
use Rattle.std.proofs.lemmas.Option.{same_Some}
use Rattle.ftp_script_run.proofs.HeadLemmas.{options-found, options-lawful, options-none}
use Rattle.ftp_script_run.proofs.head_reading.options_in.Goals as goal

pub returns-in-Ok-clause-found : goal.returns-in-Ok-clause-found
returns-in-Ok-clause-found c = options-found c.args.line.now c.in-Ok.item c.options_only.result c.in-Ok.ensures.found c.if-line-gt-LONGEST_LINE.false c.options_only.ensures.found

pub returns-in-Ok-clause-options : goal.returns-in-Ok-clause-options
returns-in-Ok-clause-options c = options-lawful c.args.line.now c.in-Ok.item c.options_only.result c.in-Ok.ensures.found c.options_only.ensures.found

pub returns-in-Ok-clause-none : goal.returns-in-Ok-clause-none
returns-in-Ok-clause-none c = options-none c.args.line.now c.in-Ok.item c.options_only.result (λ j is. sym (same_Some j c.in-Ok.item (c.in-Ok.ensures.only j is))) c.options_only.ensures.none
