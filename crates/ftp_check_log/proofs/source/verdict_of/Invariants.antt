use Rattle.std.proofs.Common.{◌≡◌, ◌≤◌, ◌-◌}
use Rattle.ftp_text.specs.Place.{IsLawful}
use Rattle.ftp_check_log.specs.Pending.{unread, IsInBounds}
use Rattle.ftp_check_log.specs.ReadsOn.{ReadsOn}
use Rattle.ftp_check_log.proofs.source.verdict_of.Given as goal

-- the lines so far were read, and are as they are due
abbrev pub invariant-loop-verdict : goal.invariant-loop-verdict
invariant-loop-verdict g l = record {
  lawful : IsLawful l.checker.place;
  kept : IsInBounds l.pending;
  reads : ReadsOn (g.S.Source.left l.initial.source) l.checker (unread l.pending) (g.S.Source.left l.source);
  keeps : l.checker.keeps ≡ l.initial.checker.keeps;
  count : g.S.Source.faults l.initial.source ≤ g.S.Source.faults l.source;
}

abbrev pub decreases-loop-verdict : goal.decreases-loop-verdict
decreases-loop-verdict g l = 67108864 - l.checker.place.taken
