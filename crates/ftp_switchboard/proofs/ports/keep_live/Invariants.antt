use Rattle.std.proofs.Common.{◌≡◌, ℕ, ◌<◌, ◌≤◌, length, get_or, true}
use Rattle.std.specs.BTreeSet.{contains}
use Rattle.std.specs.Ordering.{nat_cmp}
use Rattle.ftp_switchboard.specs.Board.{holder_among}
use Rattle.ftp_switchboard.specs.Bits.{AreAlike, left, session_of}
use Rattle.ftp_switchboard.proofs.ports.keep_live.Given as goal

-- Bits and pairs that are left are alike, only dead sessions hold less, and those kept are live.
abbrev pub invariant-loop-place : goal.invariant-loop-place
invariant-loop-place l = record {
  order : l.kept ≤ l.place;
  len : length l.row.pairs.items ≡ length l.fn.row.pairs.items;
  looks : l.looks ≡ l.place;
  alike : AreAlike l.range.lo l.range.hi l.row.words.items (left l.kept l.place l.row.pairs.items);
  sessions : (p : ℕ) → holder_among l.live (session_of (left l.kept l.place l.row.pairs.items) p) ≡ holder_among l.live (session_of l.fn.row.pairs.items p);
  live : (k : ℕ) → k < l.kept → contains nat_cmp l.live (get_or l.row.pairs.items k (0, 0)).1 ≡ true;
}
