-- What is told of a job on its way.
use Rattle.std.specs.Prelude.{◌≡◌, ℕ, ◌+◌, ◌≤◌, Bool, true, false, IfSome}
use Rattle.ftp_base.specs.Edge.{EdgeView, Takes, behind_moment, next_number}
use Rattle.ftp_events.specs.declared.event.Answer.TheVariants.{Moved}
use Rattle.ftp_shared.specs.declared.report.Reported.{Reported}
use Rattle.ftp_shared.specs.declared.report.Reported.TheVariants.{GoesOn, Over}
use Rattle.ftp_shared.specs.Moments.{behind_moments}
use Rattle.ftp_options.specs.declared.options.Options.{Options}
use Rattle.ftp_shared.specs.declared.receipt.Submitted.{Submitted}
use Rattle.ftp_shared.specs.Next.{IsNextAt, is_moved, piece_of}
use Rattle.ftp_transfer.specs.declared.job.Job.{Job}

-- the job goes on, of which more may have been told by now, and no entry was made without a moment of its own
pub record StillRuns (job next : Job) (done : ℕ) (edge edge_after : EdgeView) (count count_after : ℕ) : Type 0 where
  pub same : next ≡ record job { done = next.done }
  pub more : job.done ≤ next.done
  pub within : next.done ≤ done
  pub moments : ℕ
  pub taken : Takes (behind_moments moments) edge edge_after
  pub kept : count ≤ count_after
  pub enough : count_after ≤ count + moments

-- the job is over, by the entry of a piece that it moved, at a moment that was taken for it
pub record IsOver (o : Options) (counts : Bool) (job : Job) (done : ℕ) (edge edge_after : EdgeView) (count count_after : ℕ) (s : Submitted) : Type 0 where
  pub bytes : ℕ
  pub at : ℕ
  pub within : job.done + bytes ≤ done
  pub next : IsNextAt o s.receipt (piece_of job at) (Moved bytes)
  pub over : is_moved s.receipt.entry.decision ≡ false
  pub moment : IfSome edge.feed (λ f. at ≡ next_number f.moments)
  pub taken : Takes behind_moment edge edge_after
  pub once : count_after ≤ count + 1
  pub kept : count ≤ count_after
  -- a share counts it
  pub counted : counts ≡ true → count_after ≡ count + 1

-- what became of a job of which so many bytes moved and a piece may have been told
abbrev pub HasTold : Options → Bool → Job → ℕ → EdgeView → EdgeView → ℕ → ℕ → Reported → Type 0
HasTold o counts job done edge edge_after count count_after (GoesOn next) = StillRuns job next done edge edge_after count count_after
HasTold o counts job done edge edge_after count count_after (Over s) = IsOver o counts job done edge edge_after count count_after s
