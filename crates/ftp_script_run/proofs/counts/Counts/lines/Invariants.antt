use Rattle.ftp_script_run.proofs.CountLemmas.{HasLines}
use Rattle.ftp_script_run.proofs.counts.Counts.lines.Given as goal

-- the lines of the names so far were written
abbrev pub invariant-loop-i : goal.invariant-loop-i
invariant-loop-i l = HasLines l.self.numbers l.text.items l.i
