-- The entry of a piece, and the job that comes with it.
use Rattle.std.proofs.Common.{◌≡◌, ◌∙◌, ap, sym, ℕ, ◌+◌, ◌-◌, ◌<◌, ◌^◌, Bool, true, false, ◌&&◌, cond, not, List, length, Some, arith}
use Rattle.std.specs.Prelude.{nat_le}
use Rattle.std.proofs.lemmas.Bool.Decides.{nat_tests}
use Rattle.ftp_options.specs.declared.options.Options.{Options}
use Rattle.ftp_transfer.specs.declared.job.Job.{Job}
use Rattle.ftp_transfer.specs.Transfer.{is_listing}
use Rattle.ftp_events.specs.declared.entry.Entry.{Entry}
use Rattle.ftp_events.specs.declared.event.Answer.TheVariants.{Moved}
use Rattle.ftp_events.specs.declared.event.HubEvent.{HubEvent}
use Rattle.ftp_events.specs.EndRows.{can_move}
use Rattle.ftp_events.specs.Log.{past_of}
use Rattle.ftp_events.specs.Right.{next_entry}
use Rattle.ftp_hub.specs.declared.hub.Hub.{Hub}
use Rattle.ftp_hub.specs.Stands.{Stands, options_of}
use Rattle.ftp_hub.specs.Twin.{started_job}
use Rattle.ftp_shared.specs.declared.receipt.Receipt.{Receipt}
use Rattle.ftp_shared.specs.declared.receipt.Submitted.{Submitted}
use Rattle.ftp_shared.specs.Jobs.{behind}
use Rattle.ftp_shared.specs.Next.{NextPiece, is_moved, piece_of}
use Rattle.ftp_shared.proofs.KeepsLemmas.{acted-under, right-under}

-- the bytes of a piece that a job can move are counted
pub can_move-within : (job : Job) (bytes : ℕ) → can_move job bytes ≡ true → job.done + bytes < 2 ^ 64
can_move-within job bytes can = by (not (is_listing job.command)) (nat_le 1 bytes) (nat_le bytes 8192) can where
  by : (a b c : Bool) → (a && (b && (c && nat_le (job.done + bytes) (2 ^ 64 - 1)))) ≡ true → job.done + bytes < 2 ^ 64
  by true true true h = grind (arith, nat_tests)
  by true true false h = cc
  by true false c h = cc
  by false b c h = cc

-- what was submitted, with the job where its piece was counted, is the next piece
pub piece-next :
    (o : Options) (hub : Hub) (log : List Entry) (submitted given : Submitted) (job : Job) (event : HubEvent) (at bytes : ℕ) →
    options_of hub ≡ o → Stands hub log → event ≡ piece_of job at →
    submitted.receipt.place ≡ length log →
    submitted.receipt.entry ≡ next_entry o log event (Moved bytes) →
    submitted.job ≡ started_job o (past_of log) submitted.receipt.entry →
    given.receipt ≡ submitted.receipt →
    given.job ≡ cond (is_moved submitted.receipt.entry.decision) (Some (behind job bytes)) submitted.job →
    NextPiece o given job at bytes
piece-next o hub log submitted given job event at bytes options stands piece place due started receipt jobs =
    record {
      next = record {
        journal = log;
        right = right-under o hub log options stands;
        acted = acted-under o hub log options stands;
        place = ap (λ (r : Receipt). r.place) receipt ∙ place;
        entry = ap (λ (r : Receipt). r.entry) receipt ∙ due ∙ ap (λ (v : HubEvent). next_entry o log v (Moved bytes)) piece;
      };
      comes =
          jobs
          ∙ ap (cond (is_moved submitted.receipt.entry.decision) (Some (behind job bytes))) started
          ∙ ap (λ (r : Receipt). cond (is_moved r.entry.decision) (Some (behind job bytes)) (started_job o (past_of log) r.entry)) (sym receipt);
    }

-- where it was counted the job is there
pub piece-back :
    (submitted given : Submitted) (job : Job) →
    given.receipt ≡ submitted.receipt →
    given.job ≡ cond (is_moved submitted.receipt.entry.decision) (Some job) submitted.job →
    is_moved given.receipt.entry.decision ≡ true → given.job ≡ Some job
piece-back submitted given job receipt jobs moved =
    jobs
    ∙ ap (λ (b : Bool). cond b (Some job) submitted.job) (ap (λ (r : Receipt). is_moved r.entry.decision) (sym receipt) ∙ moved)
