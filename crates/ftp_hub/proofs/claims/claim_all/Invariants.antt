use Rattle.std.proofs.Common.{◌≡◌, ℕ, ◌<◌, true, false, Some, vec_len}
use Rattle.std.specs.Prelude.{nat_eq}
use Rattle.std.specs.HashMap as map
use Rattle.std.specs.List.{AllByRecursion}
use Rattle.ftp_laws.specs.Census.{IsAscending, has as is_listed}
use Rattle.ftp_switchboard.specs.Board.{SameRange, holder_at}
use Rattle.ftp_hub.specs.State.{WaitsAt}
use Rattle.ftp_hub.proofs.claims.claim_all.Given as goal

-- of the numbers that are not left each that waits holds its port, and whoever holds one waits, and is above all that are left
abbrev pub invariant-loop-number : goal.invariant-loop-number
invariant-loop-number l = record {
  claimed : (a p s : ℕ) → is_listed l.initial.numbers.items s ≡ true → is_listed l.numbers.items s ≡ false → WaitsAt (map.get nat_eq l.sessions s) a p → holder_at l.board a p ≡ Some s;
  held : (a p s : ℕ) → holder_at l.board a p ≡ Some s → WaitsAt (map.get nat_eq l.sessions s) a p;
  above : (a p s : ℕ) → holder_at l.board a p ≡ Some s → AllByRecursion (λ n. n < s) l.numbers.items;
  in_order : IsAscending l.numbers.items;
  range : SameRange l.fn.board l.board;
}

abbrev pub decreases-loop-number : goal.decreases-loop-number
decreases-loop-number l = vec_len l.numbers
