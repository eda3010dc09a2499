use Rattle.std.proofs.Common.{take, reverse}
use Rattle.ftp_audit.specs.Heard.{HasHeard}
use Rattle.ftp_audit.proofs.journal.audited.Given as goal

-- the entries so far were heard
abbrev pub invariant-loop-entry : goal.invariant-loop-entry
invariant-loop-entry l = HasHeard l.audit (reverse (take l.entry-index l.entry-items))
