use Rattle.std.proofs.Math.Logic.{∥∥₁_map}
use Rattle.ftp_shared.specs.Jobs.{behind}
use Rattle.ftp_shared.proofs.PieceLemmas.{piece-back, piece-next}
use Rattle.ftp_shared.proofs.locked.Locked.append_piece.Goals as goal

-- the job that comes with the entry is this one, or the one that starts
pub returns-in-Ok-clause-job : goal.returns-in-Ok-clause-job
returns-in-Ok-clause-job g c =
    let made = c.in-Ok.ensures in
    ∥∥₁_map c.args.self.now.kept (λ k.
    piece-next g.L.Serving.options c.args.self.now.hub c.args.self.now.journal.entries c.in-Ok.submitted c.handed_back.result c.args.job c.piece.result c.args.at c.args.bytes
    k.options k.stands c.piece.ensures made.place made.due made.job c.handed_back.ensures.receipt c.handed_back.ensures.job)

-- and the entry is the next one
pub returns-in-Ok-clause-next : goal.returns-in-Ok-clause-next
returns-in-Ok-clause-next g c = ∥∥₁_map (returns-in-Ok-clause-job g c) (λ p. p.next)

pub returns-in-Ok-clause-back : goal.returns-in-Ok-clause-back
returns-in-Ok-clause-back g c =
    piece-back c.in-Ok.submitted c.handed_back.result (behind c.args.job c.args.bytes) c.handed_back.ensures.receipt c.handed_back.ensures.job
