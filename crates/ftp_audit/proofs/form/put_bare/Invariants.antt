use Rattle.std.proofs.Common.{◌≡◌, ◌++◌, take}
use Rattle.ftp_audit.specs.Forms.{blankless}
use Rattle.ftp_audit.proofs.form.put_bare.Given as goal

abbrev pub invariant-loop-b : goal.invariant-loop-b
invariant-loop-b l = l.out.items ≡ l.initial.out.items ++ blankless (take l.b-index l.text)
