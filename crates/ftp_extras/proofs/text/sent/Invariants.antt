use Rattle.std.proofs.Common.{◌≡◌, take}
use Rattle.std.specs.List.{flat_map}
use Rattle.ftp_extras.specs.Texts.{sent_byte}
use Rattle.ftp_extras.proofs.text.sent.Given as goal

-- the bytes so far
abbrev pub invariant-loop-b : goal.invariant-loop-b
invariant-loop-b l = l.text.items ≡ flat_map sent_byte (take l.b-index l.bytes)
