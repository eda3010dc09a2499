use Rattle.std.proofs.Common.{◌≡◌, ◌++◌, take}
use Rattle.ftp_text.specs.Fields.{escape}
use Rattle.ftp_text.proofs.writing.put_text.Given as goal

abbrev pub invariant-loop-b : goal.invariant-loop-b
invariant-loop-b l = l.out.items ≡ l.initial.out.items ++ escape (take l.b-index l.text)
