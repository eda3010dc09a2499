use Rattle.std.proofs.lemmas.Result.{on_ok_weaker}
use Rattle.ftp_text.proofs.Hex.{hex_none, hex_more_onto}
use Rattle.ftp_text.proofs.writing.+put_hex.Goals as goal

pub returns-then-count-eq0 : goal.returns-then-count-eq0
returns-then-count-eq0 t c = hex_none c.args.out.now.items c.args.count c.args.n c.if-count-eq0.true

pub returns : goal.returns
returns t c =
    on_ok_weaker c.put_byte.result
    (hex_more_onto c.args.out.now.items c.put_hex.new.out.items _ c.args.count c.args.n _ c.if-count-eq0.false c.in_ok-put_hex.ensures c.glyph.ensures)
    c.put_byte.ensures
