-- The text of a reply.
use Rattle.std.specs.Prelude.{ℕ, List}
use Rattle.ftp_base.specs.declared.reply_text.Words.{Words}
use Rattle.ftp_base.specs.declared.reply_text.Words.TheVariants.{Own, Fixed}

-- the bytes of a text
abbrev pub letters_of : Words → List ℕ
letters_of (Own bytes) = bytes
letters_of (Fixed words) = words.now
