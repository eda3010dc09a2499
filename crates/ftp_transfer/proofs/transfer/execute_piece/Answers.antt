use Rattle.std.proofs.Common.{◌≡◌, ◌+◌, ◌-◌, arith, sym, rules}
use Rattle.ftp_transfer.specs.Ran.{told}
use Rattle.ftp_transfer.proofs.CleanLemmas.{clean-done}
use Rattle.ftp_transfer.proofs.CloseLemmas.{Moves-closed}
use Rattle.ftp_transfer.proofs.transfer.execute_piece.Goals as goal

pub returns-in-None-clause-ran : goal.returns-in-None-clause-ran
returns-in-None-clause-ran g c = (
  c.take_turn-turn.ensures.short (search rules),
  record {
    some = c.take_turn-turn.ensures.some (search rules);
    in_range = c.take_turn-turn.ensures.in_range;
    goes_on = c.take_turn-turn.ensures.goes_on (search rules);
    moves = rw c.in-None.is at c.take_turn-turn.ensures.moves;
    taken = c.take_turn-turn.ensures.taken (search rules);
    told = c.take_turn-turn.ensures.told;
    closed = c.take_turn-turn.ensures.closed;
  },
)

pub returns-in-Some-clause-ran : goal.returns-in-Some-clause-ran
returns-in-Some-clause-ran g c =
    let less : c.args.job.now.done + c.take_turn-turn.result.bytes - c.args.job.now.done ≡ c.take_turn-turn.result.bytes = omega arith in
    let moves = rw (c.in-Some.is, sym less) at c.take_turn-turn.ensures.moves in
    let closes = c.close.ensures.only_closes in
    rw c.outcome.ensures
    (record {
      counted = omega arith;
      faults = g.L.Source.faults c.take_turn-turn.new.link;
      calls = g.L.Source.calls c.take_turn-turn.new.link;
      not_before = c.take_turn-turn.ensures.link_counts.count;
      not_after = closes.counts.count;
      moves = Moves-closed (g.L.Source.left c.close.new.self) (g.L.Source.sending c.close.new.self) closes.same_left closes.sent closes.last_fault moves;
      closed = search rules;
    })

pub returns-in-Some-clause-complete : goal.returns-in-Some-clause-complete
returns-in-Some-clause-complete g c clean =
    clean-done c.args.job.now
    (told (g.S.Storage.files c.args.storage.now) (g.S.Storage.rule c.args.storage.now) (g.S.Storage.faults c.args.storage.now) (g.S.Storage.calls c.args.storage.now) (g.L.Source.left c.args.link.now) (g.L.Source.sending c.args.link.now) (g.L.Source.faults c.args.link.now) (g.L.Source.calls c.args.link.now))
    (told (g.S.Storage.files c.take_turn-turn.new.storage) (g.S.Storage.rule c.take_turn-turn.new.storage) (g.S.Storage.faults c.take_turn-turn.new.storage) (g.S.Storage.calls c.take_turn-turn.new.storage) (g.L.Source.left c.close.new.self) (g.L.Source.sending c.close.new.self) (g.L.Source.faults c.close.new.self) (g.L.Source.calls c.close.new.self))
    c.outcome.result
    (returns-in-Some-clause-ran g c)
    clean
