use Rattle.std.proofs.Common.{[], ◌∷◌, ◌++◌, length}
use Rattle.std.specs.Prelude.{codes}
use Rattle.ftp_text.specs.Fields.{field, number, escape}
use Rattle.ftp_text.specs.Spelling.{run_fields, command_field, command_lengths, command_parts}
use Rattle.ftp_text.proofs.WritingLemmas.{on-ok, job-written}
use Rattle.ftp_text.proofs.state_writing.put_job.Goals as goal

pub returns : goal.returns
returns c =
    let j = c.args.line.now in
    on-ok c.put_byte.result c.put_byte.ensures (λ h.
    job-written c.args.out.now.items (codes "job") (run_fields j) (command_field j.job.command) (number (length j.job.user)) (command_lengths j.job.command)
    (field (escape (j.job.user ++ command_parts j.job.command j.job.path))) (10 ∷ [])
    c.put.new.out.items c.put_run.new.out.items c.put_command.new.out.items c.put_job_lengths.new.out.items c.put_job_text.new.out.items c.put_byte.new.out.items
    c.in_ok-put.ensures c.in_ok-put_run.ensures c.in_ok-put_command.ensures c.in_ok-put_job_lengths.ensures c.in_ok-put_job_text.ensures h)
