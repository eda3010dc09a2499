use Rattle.std.proofs.Common.{◌≡◌, drop}
use Rattle.ftp_hub.specs.Twin.{first_start}
use Rattle.ftp_hub.proofs.twin.first_start.Given as goal

-- nothing has started so far
abbrev pub invariant-loop-action : goal.invariant-loop-action
invariant-loop-action l = first_start l.actions ≡ first_start (drop l.action-index l.actions)
