use Rattle.std.proofs.Common.{◌≡◌, ◌++◌, take}
use Rattle.std.specs.List.{flat_map}
use Rattle.ftp_text.specs.Fields.{hex_byte}
use Rattle.ftp_text.proofs.writing.put_hex_pairs.Given as goal

abbrev pub invariant-loop-b : goal.invariant-loop-b
invariant-loop-b l = l.out.items ≡ l.initial.out.items ++ flat_map hex_byte (take l.b-index l.bytes)
