use Rattle.std.proofs.Common.{◌∙◌, ap}
use Rattle.ftp_switchboard.specs.Board.{Board}
use Rattle.std.proofs.lemmas.Result.{on_ok_weaker}
use Rattle.ftp_switchboard.proofs.InsideLemmas.{room-is, room-seen}
use Rattle.ftp_switchboard.proofs.TableLemmas.{held-same}
use Rattle.ftp_switchboard.proofs.switchboard.Switchboard.reserve_room.Goals as goal

pub returns-clause-ok : goal.returns-clause-ok
returns-clause-ok c =
    on_ok_weaker c.make_room.result (room-seen c.self.inside.range c.make_room.new.rows c.make_room.new.spare c.args.source) c.make_room.ensures.ok

pub returns-clause-same : goal.returns-clause-same
returns-clause-same c = record {
  lo = ap (λ (b : Board). b.lo) c.self.view_is;
  hi = ap (λ (b : Board). b.hi) c.self.view_is;
  held =
      held-same c.self.inside.rows c.make_room.new.rows c.self.invariant.rows.unique c.make_room.ensures.rows.unique c.make_room.ensures.holders
      ∙ ap (λ (b : Board). b.held) c.self.view_is;
}

pub returns-clause-room : goal.returns-clause-room
returns-clause-room c source some =
    room-seen c.self.inside.range c.make_room.new.rows c.make_room.new.spare source
    (c.make_room.ensures.room source (room-is c.self.inside.range c.self.inside.rows c.self.inside.spare c.self.invariant c.args.self.now c.self.view_is source some))
