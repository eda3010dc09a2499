use Rattle.std.proofs.Common.{◌∙◌, ap}
use Rattle.ftp_switchboard.specs.Board.{Board, released}
use Rattle.ftp_switchboard.proofs.InsideLemmas.{order-is, room-is, room-seen}
use Rattle.ftp_switchboard.proofs.TableLemmas.{held-released}
use Rattle.ftp_switchboard.proofs.switchboard.Switchboard.release.Goals as goal

pub give_up-requires-clause-order : goal.give_up-requires-clause-order
give_up-requires-clause-order c = order-is c.self.inside.range c.self.inside.rows c.self.inside.spare c.self.invariant

pub returns-clause-held : goal.returns-clause-held
returns-clause-held c =
    held-released c.self.inside.rows c.give_up.new.rows c.self.invariant.rows.unique c.give_up.ensures.rows.unique c.args.key.now.source c.args.key.now.port c.args.session c.give_up.ensures.holders
    ∙ ap (λ (b : Board). released b.held c.args.key.now c.args.session) c.self.view_is

pub returns-clause-room : goal.returns-clause-room
returns-clause-room c other apart some =
    room-seen c.self.inside.range c.give_up.new.rows c.give_up.new.spare other
    (c.give_up.ensures.room other apart (room-is c.self.inside.range c.self.inside.rows c.self.inside.spare c.self.invariant c.args.self.now c.self.view_is other some))
