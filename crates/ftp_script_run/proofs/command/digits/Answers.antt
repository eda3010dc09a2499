use Rattle.ftp_script_run.proofs.CommandLemmas.{number-no_text, number-parsed, number-unparsed}
use Rattle.ftp_script_run.proofs.command.digits.Goals as goal

pub returns-in_default : goal.returns-in_default
returns-in_default c = number-no_text c.args.word.now c.in_default.ensures.cases.0

pub returns-in-Ok-from_str_radix : goal.returns-in-Ok-from_str_radix
returns-in-Ok-from_str_radix c =
    number-parsed c.args.word.now c.in-Ok.text.now c.from_str_radix.result c.in-Ok-from_str_radix.number c.in-Ok.ensures.cases.0 c.requires c.from_str_radix.ensures.value c.in-Ok-from_str_radix.is

pub returns-in-Err : goal.returns-in-Err
returns-in-Err c =
    number-unparsed c.args.word.now c.in-Ok.text.now c.from_str_radix.result c.in-Err.field-0 c.in-Ok.ensures.cases.0 c.requires c.from_str_radix.ensures.value c.in-Err.is
