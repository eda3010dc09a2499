use Rattle.ftp_text.proofs.LineLaws.{returned}
use Rattle.ftp_text.proofs.LineLemmas.{reads_lines}
use Rattle.ftp_text.proofs.line.read_log_line.Goals as goal

pub returns : goal.returns
returns c =
    let r = returned reads_lines c.args.line.now c.line_in.result c.line_in.ensures in
    record { found = r.found; bad = λ bad x fits same. r.bad bad x (same, fits); only = λ x fits same. r.only x (same, fits); exact = c.line_in.ensures }
