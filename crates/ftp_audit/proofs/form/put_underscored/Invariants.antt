use Rattle.std.proofs.Common.{◌≡◌, ◌++◌, take, map}
use Rattle.ftp_audit.specs.Forms.{xferlog_byte}
use Rattle.ftp_audit.proofs.form.put_underscored.Given as goal

abbrev pub invariant-loop-b : goal.invariant-loop-b
invariant-loop-b l = l.out.items ≡ l.initial.out.items ++ map xferlog_byte (take l.b-index l.text)
