use Rattle.std.proofs.Common.{ap, ◌∙◌}
use Rattle.ftp_switchboard.specs.Board.{holder_among}
use Rattle.ftp_switchboard.proofs.InsideLemmas.{holder-is, order-is}
use Rattle.ftp_switchboard.proofs.TableLemmas.{get-held}
use Rattle.ftp_switchboard.proofs.switchboard.Switchboard.scavenge.Goals as goal

pub keep_sessions-requires-clause-order : goal.keep_sessions-requires-clause-order
keep_sessions-requires-clause-order c = order-is c.self.inside.range c.self.inside.rows c.self.inside.spare c.self.invariant

pub returns-clause-holders : goal.returns-clause-holders
returns-clause-holders c a p =
    get-held c.keep_sessions.new.rows c.keep_sessions.ensures.rows.unique a p
    ∙ c.keep_sessions.ensures.holders a p
    ∙ ap (holder_among c.args.live.now) (holder-is c.self.inside.range c.self.inside.rows c.self.inside.spare c.self.invariant c.args.self.now c.self.view_is a p)
