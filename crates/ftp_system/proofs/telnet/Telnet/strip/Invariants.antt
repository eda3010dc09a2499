use Rattle.std.proofs.Common.{◌≡◌, ◌≤◌, ◌++◌, ℕ, List, take, drop}
use Rattle.ftp_system.specs.Telnet.{text_in}
use Rattle.ftp_system.proofs.telnet.Telnet.strip.Given as goal

abbrev pub invariant-loop-i : goal.invariant-loop-i
invariant-loop-i l = record {
  text : (more : List ℕ) → text_in l.fn.self (l.fn.bytes ++ more) ≡ take l.kept l.bytes ++ text_in l.self (drop l.i l.bytes ++ more);
  within : l.kept ≤ l.i;
}
