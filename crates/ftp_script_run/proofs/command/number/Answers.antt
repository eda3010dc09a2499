use Rattle.std.proofs.Common.{◌∙◌, sym, arith}
use Rattle.ftp_script_run.proofs.CommandLemmas.{compared, number-zero, number-no_digit}
use Rattle.ftp_script_run.proofs.command.number.Goals as goal

pub returns-then-eq : goal.returns-then-eq
returns-then-eq c = number-zero c.args.word.now ((compared c.args.word.now c.as_slice.result.now c.eq.result c.eq.ensures).0 c.if-eq.true ∙ c.as_slice.ensures)

pub returns-in_default : goal.returns-in_default
returns-in_default c = number-no_digit c.args.word.now (λ is. (compared c.args.word.now c.as_slice.result.now c.eq.result c.eq.ensures).1 c.if-eq.false (is ∙ sym c.as_slice.ensures)) (λ some low. omega arith)

pub returns-in_default-2 : goal.returns-in_default-2
returns-in_default-2 c = number-no_digit c.args.word.now (λ is. (compared c.args.word.now c.as_slice.result.now c.eq.result c.eq.ensures).1 c.if-eq.false (is ∙ sym c.as_slice.ensures)) (λ some low. omega arith)
