use Rattle.ftp_audit.specs.Metrics.{transfers_text}
use Rattle.ftp_audit.proofs.PutLemmas.{put-next}
use Rattle.ftp_audit.proofs.metrics.put_transfers.Goals as goal

pub returns : goal.returns
unfolding transfers_text
returns c = put-next c.put_samples.result c.args.out.now.items _ _ _ c.in_ok-put_head.ensures c.put_samples.ensures
