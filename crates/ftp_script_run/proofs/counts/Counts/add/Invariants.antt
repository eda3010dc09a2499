use Rattle.ftp_script_run.proofs.CountLemmas.{Counting}
use Rattle.ftp_script_run.proofs.counts.Counts.add.Given as goal

-- the names so far were compared
abbrev pub invariant-loop-i : goal.invariant-loop-i
invariant-loop-i l = Counting l.initial.self.numbers l.self.numbers l.entry l.i
