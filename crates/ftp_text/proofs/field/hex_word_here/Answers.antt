use Rattle.std.proofs.Common.{Some, ap, drop}
use Rattle.ftp_text.specs.Reading.{◌>>=◌, hex_word_at}
use Rattle.ftp_text.proofs.Hex.{hex_short}
use Rattle.ftp_text.proofs.field.hex_word_here.Goals as goal

pub returns-then-bytes-lt32 : goal.returns-then-bytes-lt32
unfolding hex_word_at
returns-then-bytes-lt32 c = ap (λ r. r >>= λ n. Some (n, drop 32 c.args.bytes.now)) (hex_short c.args.bytes.now c.if-bytes-lt32.true)
