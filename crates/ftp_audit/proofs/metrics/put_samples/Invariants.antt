use Rattle.std.proofs.Common.{◌≡◌, ◌++◌, take}
use Rattle.ftp_audit.specs.Metrics.{number_in, samples_text}
use Rattle.ftp_audit.proofs.metrics.put_samples.Given as goal

abbrev pub invariant-loop-word : goal.invariant-loop-word
invariant-loop-word l = l.out.items ≡ l.initial.out.items ++ samples_text (number_in l.counters) (take l.word-index l.words) l.counts
