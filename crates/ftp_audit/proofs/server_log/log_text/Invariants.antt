use Rattle.std.proofs.Common.{◌≡◌, take, reverse}
use Rattle.ftp_options.specs.declared.options.Options.{Options}
use Rattle.ftp_events.specs.Right.{IsRight, IsActed}
use Rattle.ftp_audit.specs.Written.{form_of, log_start}
use Rattle.ftp_audit.proofs.TakenLemmas.{IsSoFar}
use Rattle.ftp_audit.proofs.server_log.log_text.Given as goal

-- the entries so far were taken
abbrev pub invariant-loop-entry : goal.invariant-loop-entry
invariant-loop-entry l =
    (form_of l.taken ≡ l.fn.form)
    × (log_start l.taken ≡ l.fn.start)
    × ((o : Options) → IsRight o (reverse l.entry-items) → IsActed o (reverse l.entry-items) →
    IsSoFar o l.fn.form l.fn.start l.taken l.text.items (reverse (take l.entry-index l.entry-items)))
