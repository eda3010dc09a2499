use Rattle.std.proofs.Common.{◌∙◌, ap, sym}
use Rattle.std.specs.FinMap as finmap
use Rattle.ftp_switchboard.specs.Board.{Board}
use Rattle.ftp_switchboard.proofs.InsideLemmas.{holder-is, none-is, room-is}
use Rattle.ftp_switchboard.proofs.TableLemmas.{held-insert}
use Rattle.ftp_switchboard.proofs.switchboard.Switchboard.try_and_claim.Goals as goal

pub put-requires-clause-room : goal.put-requires-clause-room
put-requires-clause-room c = room-is c.self.inside.range c.self.inside.rows c.self.inside.spare c.self.invariant c.args.self.now c.self.view_is c.args.key.source c.requires.room

pub put-requires-clause-free : goal.put-requires-clause-free
put-requires-clause-free c =
    holder-is c.self.inside.range c.self.inside.rows c.self.inside.spare c.self.invariant c.args.self.now c.self.view_is c.args.key.source c.args.key.port ∙ sym c.holder.ensures ∙ none-is c.holder.result (sym c.is_some.ensures ∙ c.if-is_some.false)

pub returns-clause-claimed : goal.returns-clause-claimed
returns-clause-claimed c =
    held-insert c.self.inside.rows c.put.new.rows c.self.invariant.rows.unique c.put.ensures.rows.unique c.args.key.source c.args.key.port c.args.session c.put.ensures.holders
    ∙ ap (λ (b : Board). finmap.insert b.held c.args.key c.args.session) c.self.view_is
