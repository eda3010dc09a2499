use Rattle.std.proofs.Common.{[], ◌∷◌, arith}
use Rattle.ftp_text.specs.LineWords as word
use Rattle.ftp_text.specs.Message.{message_word_text, words_with_fields, message_behind}
use Rattle.ftp_text.proofs.WordThen.{by_word-past}
use Rattle.ftp_text.proofs.message.behind.Goals as goal

pub returns-in_default : goal.returns-in_default
returns-in_default c =
    rw (by_word-past message_word_text (word.Denied ∷ word.NotFound ∷ word.DelFail ∷ word.MkdirFail ∷ []) words_with_fields
    message_behind c.args.word.now c.args.bytes.now
    ((λ e. grind arith), ((λ e. grind arith), ((λ e. grind arith), ((λ e. grind arith), tt)))))
    c.with_fields.ensures
