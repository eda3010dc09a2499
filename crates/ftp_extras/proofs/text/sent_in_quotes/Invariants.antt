use Rattle.std.proofs.Common.{◌≡◌, take}
use Rattle.std.specs.List.{flat_map}
use Rattle.ftp_extras.specs.Texts.{quoted_byte}
use Rattle.ftp_extras.proofs.text.sent_in_quotes.Given as goal

-- the bytes so far
abbrev pub invariant-loop-b : goal.invariant-loop-b
invariant-loop-b l = l.text.items ≡ flat_map quoted_byte (take l.b-index l.path)
