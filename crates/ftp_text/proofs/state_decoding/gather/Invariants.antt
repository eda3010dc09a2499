use Rattle.std.proofs.Common.{◌≡◌}
use Rattle.ftp_text.specs.Grammar.{no_state, with_lines}
use Rattle.ftp_text.proofs.state_decoding.gather.Given as goal

-- what the lines so far say
abbrev pub invariant-loop-line : goal.invariant-loop-line
invariant-loop-line l = l.draft ≡ with_lines no_state l.yielded
