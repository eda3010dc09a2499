use Rattle.std.proofs.Common.{◌≡◌, drop}
use Rattle.ftp_system.specs.Telnet.{text_in}
use Rattle.ftp_system.proofs.telnet.Telnet.has_text.Given as goal

abbrev pub invariant-loop-byte : goal.invariant-loop-byte
invariant-loop-byte l = text_in l.fn.self l.fn.bytes ≡ text_in l.place (drop l.byte-index l.fn.bytes)
