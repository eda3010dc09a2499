use Rattle.std.proofs.Common.{◌≡◌, ◌++◌, take}
use Rattle.ftp_audit.specs.Metrics.{number_in, samples_of}
use Rattle.ftp_audit.proofs.metrics.put_samples_of.Given as goal

abbrev pub invariant-loop-count : goal.invariant-loop-count
invariant-loop-count l = l.out.items ≡ l.initial.out.items ++ samples_of (number_in l.counters) (take l.count-index l.counts) l.word
