use Rattle.ftp_text.proofs.StateLineLemmas.{line_says}
use Rattle.ftp_text.proofs.state_line.line_in.Goals as goal

pub returns : goal.returns
returns c =
    line_says c.args.line.now c.first_word.result.0.now c.first_word.result.1.now c.first_word.ensures.word c.first_word.ensures.rest
    c.in_ok-behind.field-0.0 c.in_ok-behind.field-0.1.now c.in_ok-behind.ensures c.whole.result c.whole.ensures
