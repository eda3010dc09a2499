use Rattle.ftp_text.proofs.Numerals.{digits_front}
use Rattle.ftp_text.proofs.field.number_here.Goals as goal

pub numeral-requires : goal.numeral-requires
numeral-requires c = rw (c.split_at.ensures.front, c.digits.ensures.count) (digits_front c.args.bytes.now)
