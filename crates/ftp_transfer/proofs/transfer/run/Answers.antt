use Rattle.std.proofs.Common.{◌∙◌, inr, ◌+◌, ap, arith, rules}
use Rattle.ftp_base.proofs.KeptLemmas.{CountsOn-more}
use Rattle.ftp_transfer.specs.declared.job.Job.{Job}
use Rattle.ftp_transfer.proofs.GoesOn.{moves-behind, went-behind}
use Rattle.ftp_transfer.proofs.transfer.run.Goals as goal

pub returns-in-Some-clause-moves : goal.returns-in-Some-clause-moves
returns-in-Some-clause-moves g c =
    let command = ap (λ (j : Job). j.command) c.pieces.invariant.job in
    rw c.outcome.ensures
    (moves-behind c.args.job c.pieces.next _ _ _ c.take_turn-turn.result.bytes c.in-Some.end.result c.in-Some.end.fault
    (record { storage = c.pieces.invariant.storage_counts.count; link = c.pieces.invariant.link_counts.count })
    (record { storage = c.take_turn-turn.ensures.storage_counts.count; link = c.take_turn-turn.ensures.link_counts.count })
    c.pieces.invariant.more c.pieces.invariant.job
    (rw (c.in-Some.is, command) at c.take_turn-turn.ensures.suits)
    c.pieces.invariant.went
    (rw c.in-Some.is at c.take_turn-turn.ensures.moves))

pub pieces-preserved : goal.pieces-preserved
pieces-preserved g c =
    record {
      more = omega (arith, c.pieces.invariant.more);
      job = ap (λ (j : Job). record j { done = c.pieces.next.done + c.take_turn-turn.result.bytes }) c.pieces.invariant.job;
      went = inr
          (went-behind c.args.job c.pieces.next _ _ _ c.take_turn-turn.result.bytes
          (record { storage = c.pieces.invariant.storage_counts.count; link = c.pieces.invariant.link_counts.count })
          (record { storage = c.take_turn-turn.ensures.storage_counts.count; link = c.take_turn-turn.ensures.link_counts.count })
          c.pieces.invariant.more c.pieces.invariant.job
          c.pieces.invariant.went
          (record {
            some = c.take_turn-turn.ensures.some (search rules);
            in_range = c.take_turn-turn.ensures.in_range;
            goes_on = c.take_turn-turn.ensures.goes_on (search rules);
            moves = rw c.in-None.is at c.take_turn-turn.ensures.moves;
            taken = c.take_turn-turn.ensures.taken (search rules);
            told = c.take_turn-turn.ensures.told;
            closed = c.take_turn-turn.ensures.closed;
          }));
      storage_counts = CountsOn-more c.pieces.invariant.storage_counts c.take_turn-turn.ensures.storage_counts;
      link_counts = CountsOn-more c.pieces.invariant.link_counts c.take_turn-turn.ensures.link_counts;
      closed = c.take_turn-turn.ensures.closed ∙ c.pieces.invariant.closed;
    }
