use Rattle.std.proofs.Common.{sym}
use Rattle.ftp_audit.specs.Totals.{nothing}
use Rattle.ftp_audit.proofs.MarkLemmas.{newest-last}
use Rattle.ftp_audit.proofs.account.newest.Goals as goal

pub returns-in-Some : goal.returns-in-Some
returns-in-Some c = sym (newest-last nothing c.args.marks.now c.in-Some.mark.now c.in-Some.ensures.value)
