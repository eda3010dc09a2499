use Rattle.std.proofs.Common.{[], arith}
use Rattle.ftp_text.specs.Message.{message_word_text, words_with_fields, message_behind}
use Rattle.ftp_text.proofs.WordThen.{by_word-past}
use Rattle.ftp_text.proofs.message.with_fields.Goals as goal

pub returns-in_default : goal.returns-in_default
returns-in_default c =
    by_word-past message_word_text words_with_fields [] message_behind c.args.word.now c.args.bytes.now
    ((λ e. grind arith), ((λ e. grind arith), ((λ e. grind arith), ((λ e. grind arith), ((λ e. grind arith), ((λ e. grind arith), tt))))))
