use Rattle.std.proofs.Common.{◌≡◌, take, Some}
use Rattle.std.specs.Prelude.{flat_map, nat_eq}
use Rattle.std.specs.HashMap as table
use Rattle.ftp_hub.specs.State.{queued_told, session_told, slot_told}
use Rattle.ftp_hub.proofs.Told.{told_at}
use Rattle.ftp_hub.proofs.hub.Hub.session_lines.Given as goal

-- the lines of those so far
abbrev pub invariant-loop-number : goal.invariant-loop-number
invariant-loop-number l = record {
  sessions : l.lines.sessions.items ≡ flat_map (told_at (λ s v. Some (session_told s v)) (table.get nat_eq l.self.sessions)) (take l.number-index l.number-items);
  slots : l.lines.slots.items ≡ flat_map (told_at slot_told (table.get nat_eq l.self.sessions)) (take l.number-index l.number-items);
  queued : l.lines.queued.items ≡ flat_map (told_at queued_told (table.get nat_eq l.self.sessions)) (take l.number-index l.number-items);
}
