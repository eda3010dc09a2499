use Rattle.std.proofs.Common.{◌≡◌, take}
use Rattle.ftp_events.proofs.copies.copy_all.Given as goal

-- the actions so far are copied
abbrev pub invariant-loop-action : goal.invariant-loop-action
invariant-loop-action l = l.copies.items ≡ take l.action-index l.actions
