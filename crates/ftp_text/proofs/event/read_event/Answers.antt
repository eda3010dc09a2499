use Rattle.ftp_text.proofs.LineLaws.{returned}
use Rattle.ftp_text.proofs.EventLemmas.{reads_lines}
use Rattle.ftp_text.proofs.event.read_event.Goals as goal

pub returns : goal.returns
returns c =
    let r = returned reads_lines c.args.line.now c.event.result c.event.ensures in
    record { found = r.found; bad = λ bad x fits same. r.bad bad x (same, fits); only = λ x fits same. r.only x (same, fits); exact = c.event.ensures }
