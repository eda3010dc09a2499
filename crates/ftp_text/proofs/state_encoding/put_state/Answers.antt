use Rattle.ftp_text.proofs.WritingLemmas.{on-ok, lists-written}
use Rattle.ftp_text.proofs.state_encoding.put_state.Goals as goal

pub returns : goal.returns
returns c =
    on-ok c.put_jobs.result c.put_jobs.ensures (λ h.
    lists-written c.args.state.now c.as_slice.result.now c.as_slice-2.result.now c.as_slice-3.result.now c.as_slice-4.result.now c.as_slice-5.result.now c.as_slice-6.result.now
    c.args.out.now.items c.put_checkpoint.new.out.items c.put_used.new.out.items c.put_records.new.out.items c.put_sessions.new.out.items c.put_jobs.new.out.items
    c.as_slice.ensures c.as_slice-2.ensures c.as_slice-3.ensures c.as_slice-4.ensures c.as_slice-5.ensures c.as_slice-6.ensures
    c.in_ok-put_checkpoint.ensures c.in_ok-put_used.ensures c.in_ok-put_records.ensures c.in_ok-put_sessions.ensures h)
