use Rattle.std.proofs.Common.{◌++◌, List, ℕ, ap, ◌∙◌, arith}
use Rattle.std.proofs.lemmas.Result.{on_ok_weaker}
use Rattle.ftp_text.proofs.HexTexts.{encode_byte}
use Rattle.ftp_text.proofs.writing.put_hex_byte.Goals as goal

pub returns : goal.returns
returns c =
    let pair = rw c.unwrap.ensures at c.encode_to_slice.ensures.written in
    on_ok_weaker c.put.result
    (λ e. e ∙ ap (λ (x : List ℕ). c.args.out.now.items ++ x) (pair ∙ encode_byte c.args.b (omega arith)))
    c.put.ensures
