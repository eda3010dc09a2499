use Rattle.std.proofs.Common.{◌≡◌, inr, ap, subst, ℕ, ◌+◌, ◌-◌, arith}
use Rattle.std.proofs.lemmas.Result.{IfOk-weaker}
use Rattle.ftp_events.specs.declared.event.Answer.TheVariants.{Done, Moved}
use Rattle.ftp_events.specs.declared.event.EventKind.TheVariants.{End, Piece}
use Rattle.ftp_transfer.specs.declared.job.Job.{Job}
use Rattle.ftp_shared.specs.Answers.{moved_in, outcome_in}
use Rattle.ftp_shared.specs.Next.{end_of, piece_of}
use Rattle.ftp_shared.specs.Moments.{TakesMoments}
use Rattle.ftp_shared.proofs.EndLemmas.{last-end, last-piece, moment-told, told-by, told-in, with-err}
use Rattle.ftp_shared.proofs.MomentLemmas.{takes-last, takes-more}
use Rattle.ftp_shared.proofs.ProgressLemmas.{progress-more, progress-start, runs-ended, runs-stopped}
use Rattle.ftp_shared.proofs.serve.serve_job.Goals as goal

-- nothing has moved
pub pieces-init : goal.pieces-init
pieces-init g c = progress-start _ c.in-Ok.ensures

-- a piece more has moved, and more may have been told
pub pieces-preserved : goal.pieces-preserved
pieces-preserved g c =
    progress-more _ c.pieces.invariant c.in-More.ensures.storage_counts c.in-More.ensures.link_counts
    c.in-More.ensures.ran.1 c.in-More.ensures.raised c.in-GoesOn.ensures

-- ---- the end

-- the entry is the end of the job
pub returns-in-Ended-clause-next : goal.returns-in-Ended-clause-next
returns-in-Ended-clause-next g c =
    IfOk-weaker c.finish.result _ _
    (λ s next. last-end g.H.JournalHub.options s.receipt c.args.job c.pieces.job c.now-at.result c.in-Ended.outcome c.pieces.invariant.same_share next)
    c.finish.ensures.next

-- its outcome is that of the run
pub returns-in-Ended-clause-runs : goal.returns-in-Ended-clause-runs
returns-in-Ended-clause-runs g c =
    told-by outcome_in _ g.H.JournalHub.options c.finish.result (end_of c.pieces.job c.now-at.result) (Done c.in-Ended.outcome) c.finish.ensures.next
    (runs-ended _ c.pieces.invariant c.in-Ended.ensures.storage_counts c.in-Ended.ensures.link_counts g.S.Storage.reads_take_memory g.L.Link.takes_memory c.in-Ended.outcome
    c.in-Ended.ensures.ran c.in-Ended.ensures.suits c.in-Ended.ensures.no_memory)

-- an upload is written only where it was settled
pub returns-in-Ended-clause-settled : goal.returns-in-Ended-clause-settled
returns-in-Ended-clause-settled g c =
    told-by outcome_in _ g.H.JournalHub.options c.finish.result (end_of c.pieces.job c.now-at.result) (Done c.in-Ended.outcome) c.finish.ensures.next c.in-Ended.ensures.settled

pub returns-in-Ended-clause-stops : goal.returns-in-Ended-clause-stops
returns-in-Ended-clause-stops g c =
    told-by moved_in _ g.H.JournalHub.options c.finish.result (end_of c.pieces.job c.now-at.result) (Done c.in-Ended.outcome) c.finish.ensures.next tt

-- its moment is the one that was taken last
pub returns-in-Ended-clause-moments : goal.returns-in-Ended-clause-moments
returns-in-Ended-clause-moments g c =
    let once = c.finish.ensures.once in
    IfOk-weaker c.finish.result _ _
    (λ s next.
    subst (λ (at : ℕ). TakesMoments (g.E.Edge.view c.args.edge.now) (g.E.Edge.view c.now-at.new.self) ((g.H.JournalHub.made c.finish.new.pass) - (g.H.JournalHub.made c.args.pass.now)) at)
    (moment-told g.H.JournalHub.options s.receipt (End c.pieces.job.ticket) c.now-at.result (Done c.in-Ended.outcome) next)
    (takes-last c.pieces.invariant.moments ((g.H.JournalHub.made c.finish.new.pass) - (g.H.JournalHub.made c.args.pass.now)) c.now-at.result _ (g.E.Edge.view c.pieces.edge) _
    c.pieces.invariant.taken c.now-at.ensures.next c.now-at.ensures.taken (omega (arith, once, c.pieces.invariant.enough, c.pieces.invariant.kept))))
    c.finish.ensures.next

-- or no entry tells of the run
pub returns-in-Ended-clause-untold : goal.returns-in-Ended-clause-untold
returns-in-Ended-clause-untold g c =
    with-err c.finish.result c.finish.ensures.same_share
    (λ same. inr (record {
      outcome = c.in-Ended.outcome;
      runs =
          runs-ended _ c.pieces.invariant c.in-Ended.ensures.storage_counts c.in-Ended.ensures.link_counts g.S.Storage.reads_take_memory g.L.Link.takes_memory c.in-Ended.outcome
          c.in-Ended.ensures.ran c.in-Ended.ensures.suits c.in-Ended.ensures.no_memory;
      before = c.pieces.invariant.moments;
      enough = omega (arith, same, c.pieces.invariant.enough, c.pieces.invariant.kept);
      taken = takes-more c.pieces.invariant.moments 1 _ (g.E.Edge.view c.pieces.edge) _ c.pieces.invariant.taken c.now-at.ensures.taken;
    }))

-- ---- a piece behind which the job does not go on

-- the entry is that piece
pub returns-in-Over-clause-next : goal.returns-in-Over-clause-next
returns-in-Over-clause-next g c =
    let over = c.in-Over.ensures in
    last-piece g.H.JournalHub.options c.in-Over.submitted.receipt c.args.job c.pieces.job over.at over.bytes c.pieces.invariant.same_share over.over over.next

pub returns-in-Over-clause-runs : goal.returns-in-Over-clause-runs
returns-in-Over-clause-runs g c =
    let over = c.in-Over.ensures in
    told-in outcome_in _ g.H.JournalHub.options c.in-Over.submitted.receipt (piece_of c.pieces.job over.at) (Moved over.bytes) over.next tt

pub returns-in-Over-clause-settled : goal.returns-in-Over-clause-settled
returns-in-Over-clause-settled g c =
    let over = c.in-Over.ensures in
    told-in outcome_in _ g.H.JournalHub.options c.in-Over.submitted.receipt (piece_of c.pieces.job over.at) (Moved over.bytes) over.next tt

-- a front of the run was moved, and the link was closed
pub returns-in-Over-clause-stops : goal.returns-in-Over-clause-stops
returns-in-Over-clause-stops g c =
    let over = c.in-Over.ensures in
    let total : c.execute_piece.new.job.done ≡ c.pieces.next.done + c.in-More.bytes = ap (λ (j : Job). j.done) c.in-More.ensures.raised in
    told-in moved_in _ g.H.JournalHub.options c.in-Over.submitted.receipt (piece_of c.pieces.job over.at) (Moved over.bytes) over.next
    (runs-stopped _ c.pieces.invariant c.in-More.ensures.storage_counts c.in-More.ensures.link_counts
    c.close.new.self over.bytes c.close.result c.in-More.ensures.ran.1 (omega (arith, over.within, total)) c.close.ensures.only_closes
    c.close.ensures.closed c.close.ensures.unlisted c.close.ensures.unchanged c.close.ensures.fault_rose c.close.ensures.as_listed
    g.S.Storage.reads_take_memory g.L.Link.takes_memory)

-- its moment is the one that was taken last
pub returns-in-Over-clause-moments : goal.returns-in-Over-clause-moments
returns-in-Over-clause-moments g c =
    let over = c.in-Over.ensures in
    subst (λ (at : ℕ). TakesMoments (g.E.Edge.view c.args.edge.now) (g.E.Edge.view c.report.new.edge) ((g.H.JournalHub.made c.report.new.pass) - (g.H.JournalHub.made c.args.pass.now)) at)
    (moment-told g.H.JournalHub.options c.in-Over.submitted.receipt (Piece c.pieces.job.ticket) over.at (Moved over.bytes) over.next)
    (takes-last c.pieces.invariant.moments ((g.H.JournalHub.made c.report.new.pass) - (g.H.JournalHub.made c.args.pass.now)) over.at _ (g.E.Edge.view c.pieces.edge) _
    c.pieces.invariant.taken over.moment over.taken (omega (arith, over.once, c.pieces.invariant.enough, c.pieces.invariant.kept)))
