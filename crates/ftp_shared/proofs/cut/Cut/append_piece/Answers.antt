use Rattle.std.proofs.Common.{◌∙◌, List, ◌++◌}
use Rattle.std.proofs.Math.Logic.{∥∥₁_map}
use Rattle.ftp_events.specs.declared.entry.Entry.{Entry}
use Rattle.ftp_shared.specs.Jobs.{behind}
use Rattle.ftp_shared.proofs.PieceLemmas.{piece-back, piece-next}
use Rattle.ftp_shared.proofs.cut.Cut.append_piece.Goals as goal

-- the job that comes with the entry is this one, or the one that starts
pub returns-in-Ok-clause-job : goal.returns-in-Ok-clause-job
returns-in-Ok-clause-job g c =
    let made = c.in-Ok.ensures in
    ∥∥₁_map c.args.self.now.kept (λ k.
    let log : List Entry = c.args.self.now.tail.entries ++ k.front in
    let st = k.kept.stands in
    piece-next g.L.Serving.options c.args.self.now.hub log c.in-Ok.submitted c.handed_back.result c.args.job c.piece.result c.args.at c.args.bytes
    k.kept.options st c.piece.ensures (made.place ∙ k.kept.events) (made.due log st) (made.job log st) c.handed_back.ensures.receipt c.handed_back.ensures.job)

-- and the entry is the next one
pub returns-in-Ok-clause-next : goal.returns-in-Ok-clause-next
returns-in-Ok-clause-next g c = ∥∥₁_map (returns-in-Ok-clause-job g c) (λ p. p.next)

pub returns-in-Ok-clause-back : goal.returns-in-Ok-clause-back
returns-in-Ok-clause-back g c =
    piece-back c.in-Ok.submitted c.handed_back.result (behind c.args.job c.args.bytes) c.handed_back.ensures.receipt c.handed_back.ensures.job
