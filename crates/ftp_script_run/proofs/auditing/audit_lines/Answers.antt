use Rattle.std.proofs.Common.{[]}
use Rattle.ftp_script_run.proofs.OutcomeLemmas.{told-start}
use Rattle.ftp_script_run.proofs.auditing.audit_lines.Goals as goal

pub hear_all-status-requires-clause-lawful : goal.hear_all-status-requires-clause-lawful
hear_all-status-requires-clause-lawful g c = c.new-reader.ensures.lawful c.args.buffer.now c.requires

pub hear_all-status-requires-clause-hearing : goal.hear_all-status-requires-clause-hearing
hear_all-status-requires-clause-hearing g c = record {
  items = [];
  log = [];
  known = c.new-reader.ensures.none;
  kept = c.new-run.ensures;
  heard = c.new-audit.ensures.heard;
  read = told-start (g.S.Source.left c.args.source.now) c.new-reader.result c.args.buffer.now (λ bytes. c.new-reader.ensures.start c.args.buffer.now bytes);
}
