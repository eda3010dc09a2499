use Rattle.std.specs.Prelude.{length, nat_eq}
use Rattle.std.specs.HashMap as map
use Rattle.ftp_handlers.specs.Rooms.{leavers_in}
use Rattle.ftp_hub.proofs.Leaving.{Leaving}
use Rattle.ftp_hub.proofs.stop.leave.Given as goal

-- the first have left, and the others are there still
abbrev pub invariant-loop-number : goal.invariant-loop-number
invariant-loop-number l = Leaving (map.get nat_eq l.fn.sessions) (map.get nat_eq l.sessions) l.fn.room l.room

abbrev pub decreases-loop-number : goal.decreases-loop-number
decreases-loop-number l = length (leavers_in l.room)
