use Rattle.std.proofs.Common.{◌∙◌}
use Rattle.ftp_switchboard.proofs.InsideLemmas.{first_free-board}
use Rattle.ftp_switchboard.proofs.switchboard.Switchboard.free_port.Goals as goal

pub returns-in-Some-clause-free : goal.returns-in-Some-clause-free
returns-in-Some-clause-free c = rw c.in-Some.is (c.free_port_of.ensures.free ∙ first_free-board c.self.inside.range c.self.inside.rows c.self.inside.spare c.self.invariant c.args.self.now c.self.view_is c.in-Some.source c.args.word)
