use Rattle.std.proofs.Common.{◌≡◌, ◌+◌, ◌-◌, ◌*◌, ◌/◌}
use Rattle.ftp_switchboard.specs.Bits.{AreSet}
use Rattle.ftp_switchboard.proofs.search.next_clear.Given as goal

-- Each word before this one was looked at, and its bits are set.
abbrev pub invariant-loop-j : goal.invariant-loop-j
invariant-loop-j l = record {
  looks : l.looks ≡ l.fn.looks + (l.j - l.from / 64);
  set : AreSet l.row.words.items l.from (64 * l.j);
}
