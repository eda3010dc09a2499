use Rattle.ftp_control.proofs.ControlLineLemmas.{widened}
use Rattle.ftp_control.proofs.control_line.widen.Goals as goal

pub returns-clause-same : goal.returns-clause-same
returns-clause-same c = (widened c.args.buffer.now.items c.resize.new.self.items _ 8193 c.args.held c.requires.held c.requires.room c.in_ok-resize.ensures.items).1

pub returns-clause-held : goal.returns-clause-held
returns-clause-held c = (widened c.args.buffer.now.items c.resize.new.self.items _ 8193 c.args.held c.requires.held c.requires.room c.in_ok-resize.ensures.items).0
