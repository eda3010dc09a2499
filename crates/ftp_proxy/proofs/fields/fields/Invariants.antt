use Rattle.std.proofs.Common.{◌≡◌, ◌+◌, ◌-◌, ◌≤◌, length}
use Rattle.ftp_proxy.specs.Reading.{fields_at}
use Rattle.ftp_proxy.proofs.FieldsReading.{with_front}
use Rattle.ftp_proxy.proofs.fields.fields.Given as goal

abbrev pub decreases-loop-rest : goal.decreases-loop-rest
decreases-loop-rest l = length l.rest

abbrev pub invariant-loop-rest : goal.invariant-loop-rest
invariant-loop-rest l = record {
  within : length l.rest ≤ length l.bytes;
  reading : with_front l.fields.items (fields_at (length l.rest) (l.place + (length l.bytes - length l.rest)) l.rest) ≡ fields_at (length l.bytes) l.place l.bytes;
}
