use Rattle.std.proofs.Common.{◌≡◌, ◌≤◌, ◌-◌, ◌^◌}
use Rattle.ftp_base.specs.Kept.{CountsOn}
use Rattle.ftp_transfer.specs.Ran.{told_by}
use Rattle.ftp_transfer.proofs.GoesOn.{HasMoved}
use Rattle.ftp_transfer.proofs.transfer.run.Given as goal

-- nothing moved so far, or a part of the run went on
abbrev pub invariant-pieces : goal.invariant-pieces
invariant-pieces g l = record {
  more : l.fn.job.done ≤ l.next.done;
  job : l.next ≡ record l.fn.job { done = l.next.done };
  went : HasMoved l.fn.job l.next
      (told_by g.S.Storage.files g.S.Storage.rule g.S.Storage.faults g.S.Storage.calls g.L.Source.left g.L.Source.sending g.L.Source.faults g.L.Source.calls l.fn.storage l.fn.link)
      (told_by g.S.Storage.files g.S.Storage.rule g.S.Storage.faults g.S.Storage.calls g.L.Source.left g.L.Source.sending g.L.Source.faults g.L.Source.calls l.storage l.link);
  storage_counts : CountsOn g.S.Storage.faults g.S.Storage.fault_limit l.fn.storage l.storage;
  link_counts : CountsOn g.L.Source.faults g.L.Source.fault_limit l.fn.link l.link;
  closed : (g.L.Source.sending l.link).closed ≡ (g.L.Source.sending l.fn.link).closed;
}

abbrev pub decreases-pieces : goal.decreases-pieces
decreases-pieces g l = 2 ^ 64 - l.next.done
