use Rattle.ftp_laws.proofs.FateLemmas.{fate-had, queued-once, settled-once, running-unslotted, running-unsettled}
use Rattle.ftp_laws.proofs.right_logs.transfers_have_one_fate.Goals as goal

pub returns : goal.returns
returns c =
    record {
      queued = λ o log t r a. (fate-had o log t r a).0;
      queued_once = queued-once;
      settled = λ o log t r a. (fate-had o log t r a).1;
      once = settled-once;
      apart = running-unslotted;
      running = running-unsettled;
    }
