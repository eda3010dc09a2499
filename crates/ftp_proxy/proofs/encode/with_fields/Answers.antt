use Rattle.std.proofs.Common.{◌≡◌, ℕ, List, None, sym, ap, ◌∙◌, length, arith}
use Rattle.ftp_proxy.specs.V2Header.{in_two_bytes}
use Rattle.ftp_proxy.proofs.FieldsLemmas.{field_within, in_two_bytes_none, in_two_bytes_large}
use Rattle.ftp_proxy.proofs.encode.with_fields.Goals as goal

pub returns-in_err-value : goal.returns-in_err-value
returns-in_err-value c =
    let w = field_within c.args.fields.now c.loop-field.field-index c.field-item.result c.loop-field-test.true c.field-item.is in
    let none : in_two_bytes (length c.field-item.result.value) ≡ None =
    ap (λ (x : List ℕ). in_two_bytes (length x)) (sym c.as_slice.ensures) ∙ sym c.two_bytes.ensures ∙ c.in_err-value.was in
    let large = in_two_bytes_none (length c.field-item.result.value) none in
    c.from_residual.ensures ∙ sym (in_two_bytes_large _ (omega (arith, w, large)))

pub returns-in_err-two_bytes : goal.returns-in_err-two_bytes
returns-in_err-two_bytes c =
    let w = field_within c.args.fields.now c.loop-field.field-index c.field-item.result c.loop-field-test.true c.field-item.is in
    let none : in_two_bytes c.loop-field.sum ≡ None = sym c.two_bytes-in-loop-field.ensures ∙ c.in_err-two_bytes.was in
    let large = in_two_bytes_none c.loop-field.sum none in
    c.from_residual-in_err-two_bytes.ensures ∙ sym (in_two_bytes_large _ (omega (arith, w, large, c.loop-field.invariant.sum)))
