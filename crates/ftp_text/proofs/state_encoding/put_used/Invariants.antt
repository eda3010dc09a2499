use Rattle.std.proofs.Common.{◌≡◌, ◌++◌, take}
use Rattle.std.specs.List.{flat_map}
use Rattle.ftp_text.specs.declared.state_line.StateLine.TheVariants as says
use Rattle.ftp_text.specs.StateText.{with_feed}
use Rattle.ftp_text.proofs.state_encoding.put_used.Given as goal

abbrev pub invariant-loop-interval : goal.invariant-loop-interval
invariant-loop-interval l = l.out.items ≡ l.initial.out.items ++ flat_map (λ x. with_feed (says.Used x)) (take l.interval-index l.used)
