use Rattle.std.proofs.Common.{arith}
use Rattle.ftp_proxy.proofs.FieldsLemmas.{field_within}
use Rattle.ftp_proxy.proofs.encode.put_fields.Goals as goal

pub put_field-requires : goal.put_field-requires
put_field-requires c =
    omega (arith, field_within c.args.fields.now c.loop-field.field-index c.field-item.result c.loop-field-test.true c.field-item.is)
