use Rattle.std.proofs.Common.{[], arith}
use Rattle.ftp_text.specs.Spelling.{line_word_text}
use Rattle.ftp_text.specs.StateLineReading.{line_words, line_behind}
use Rattle.ftp_text.proofs.WordThen.{by_word-past}
use Rattle.ftp_text.proofs.state_line.behind.Goals as goal

pub returns-in_default : goal.returns-in_default
returns-in_default c =
    by_word-past line_word_text line_words [] line_behind c.args.word.now c.args.bytes.now
    ((λ e. grind arith), ((λ e. grind arith), ((λ e. grind arith), ((λ e. grind arith), ((λ e. grind arith), ((λ e. grind arith), ((λ e. grind arith), tt)))))))
