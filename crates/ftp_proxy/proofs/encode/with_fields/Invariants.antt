use Rattle.std.proofs.Common.{◌≡◌, ◌+◌, ◌≤◌, length, take}
use Rattle.ftp_proxy.specs.V2Header.{fields_bytes}
use Rattle.ftp_proxy.proofs.encode.with_fields.Given as goal

abbrev pub invariant-loop-field : goal.invariant-loop-field
invariant-loop-field l = record {
  sum : l.sum ≡ l.fn.len + length (fields_bytes (take l.field-index l.fields));
  small : l.sum ≤ 131073;
}
