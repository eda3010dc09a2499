use Rattle.std.proofs.Common.{arith}
use Rattle.std.proofs.lemmas.Result.{on_ok_weaker}
use Rattle.ftp_text.proofs.TraceLemmas.{digits_one, digits_more}
use Rattle.ftp_text.proofs.writing.+put_hex_number.Goals as goal

pub returns-then-n-lt16 : goal.returns-then-n-lt16
returns-then-n-lt16 t c =
    on_ok_weaker c.put_byte.result (digits_one c.args.out.now.items _ c.args.n _ c.if-n-lt16.true c.glyph.ensures) c.put_byte.ensures

pub returns : goal.returns
returns t c =
    on_ok_weaker c.put_byte-2.result
    (digits_more c.args.out.now.items c.put_hex_number.new.out.items _ c.args.n _ (omega arith) (omega arith) c.in_ok-put_hex_number.ensures c.glyph-2.ensures)
    c.put_byte-2.ensures
