use Rattle.std.proofs.Common.{◌≡◌, ◌+◌, ◌≤◌, length}
use Rattle.ftp_text.proofs.GrammarLemmas.{IsReadTo}
use Rattle.ftp_text.proofs.state_decoding.read_lines.Given as goal

-- the lines so far are those of the text up to the rest, and each took a byte at least
abbrev pub invariant-loop-rest : goal.invariant-loop-rest
invariant-loop-rest l = record {
  read : IsReadTo l.text l.rest l.lines.items;
  count : l.count ≡ length l.lines.items;
  bound : l.count + length l.rest ≤ length l.text;
}

abbrev pub decreases-loop-rest : goal.decreases-loop-rest
decreases-loop-rest l = length l.rest
