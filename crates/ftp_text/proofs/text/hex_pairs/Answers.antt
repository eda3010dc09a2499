use Rattle.std.proofs.Common.{None, sym, ◌∙◌, inl, inr}
use Rattle.std.proofs.lemmas.Result.{err_from_is_err_and}
use Rattle.ftp_text.specs.Reading.{hex_from}
use Rattle.ftp_text.proofs.HexTexts.{decoded, refused, upper_refused, fails_none}
use Rattle.ftp_text.proofs.text.hex_pairs.Goals as goal

pub returns-in_err-bytes : goal.returns-in_err-bytes
returns-in_err-bytes c =
    let p = err_from_is_err_and c.from_residual.result c.from_residual.ensures.1 in
    elim c.in_err-bytes.ensures.err [
      | inl memory ↦ rw (p.1, p.2.1 memory) tt
      | inr bad ↦ rw p.1 (fails_none p.0 (hex_from None c.args.digits.now) (refused c.args.digits.now c.in_err-bytes.field-0.0 bad))
    ]

pub returns-then-has_upper : goal.returns-then-has_upper
returns-then-has_upper c = upper_refused c.args.digits.now (sym c.has_upper.ensures ∙ c.if-has_upper.true)

pub returns : goal.returns
returns c = rw c.from_vec.ensures (decoded c.args.digits.now c.in_ok-bytes.bytes.items c.in_ok-bytes.ensures.ok (sym c.has_upper.ensures ∙ c.if-has_upper.false))
