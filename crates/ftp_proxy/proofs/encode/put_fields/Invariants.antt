use Rattle.std.proofs.Common.{◌≡◌, ◌++◌, take}
use Rattle.ftp_proxy.specs.V2Header.{fields_bytes}
use Rattle.ftp_proxy.proofs.encode.put_fields.Given as goal

abbrev pub invariant-loop-field : goal.invariant-loop-field
invariant-loop-field l = l.out.items ≡ l.fn.out.items ++ fields_bytes (take l.field-index l.fields)
