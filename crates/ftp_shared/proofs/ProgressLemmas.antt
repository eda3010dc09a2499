-- A job that moves piece by piece.
use Rattle.std.proofs.Common.{◌≡◌, ◌∙◌, inl, inr, refl, sym, ap, ℕ, ◌+◌, ◌-◌, ◌≤◌, Bool, true, false, arith}
use Rattle.std.specs.Prelude.{◌⊎◌, Result, Ok, Err, OnOk, OnErr}
use Rattle.ftp_base.specs.declared.fault.LinkFault.{LinkFault}
use Rattle.ftp_base.specs.Calls.{AllWell}
use Rattle.ftp_base.specs.Edge.{EdgeView, Takes}
use Rattle.ftp_base.specs.Kept.{CountsOn, OnlyCloses}
use Rattle.ftp_base.specs.Memory as memory
use Rattle.ftp_base.specs.Outside.{HasRisen}
use Rattle.ftp_base.proofs.KeptLemmas.{CountsOn-more, CountsOn-same}
use Rattle.ftp_events.specs.Leads.{Views, told_by}
use Rattle.ftp_transfer.specs.declared.job.Completion.TheVariants.{OutOfMemory}
use Rattle.ftp_transfer.specs.declared.job.Job.{Job}
use Rattle.ftp_transfer.specs.declared.job.Outcome.{Outcome}
use Rattle.ftp_transfer.specs.Ran.{Told, Ran, Went}
use Rattle.ftp_transfer.specs.Transfer.{is_retrieve, suits}
use Rattle.ftp_transfer.proofs.CleanLemmas.{clean-done}
use Rattle.ftp_transfer.proofs.CloseLemmas.{Moves-closed}
use Rattle.ftp_transfer.proofs.GoesOn.{Counted, HasMoved, moves-behind, went-behind}
use Rattle.ftp_shared.specs.Moments.{behind_moments}
use Rattle.ftp_shared.specs.Reports.{StillRuns}
use Rattle.ftp_shared.specs.Runs.{RunsOn, StopsOn, site}
use Rattle.ftp_shared.proofs.MomentLemmas.{takes-more, takes-none}

-- how far a job has come, and how much of that its share tells
pub record Progress {S L : Type 0} (v : Views S L) (job next told : Job) (storage storage_now : S) (link link_now : L) (edge edge_now : EdgeView) (count share share_now : ℕ) : Type 0 where
  pub same : next ≡ record job { done = next.done }
  pub same_share : told ≡ record job { done = told.done }
  pub more : job.done ≤ told.done
  pub within : told.done ≤ next.done
  pub counted : count + job.done ≤ next.done
  pub moved : HasMoved job next (told_by v storage link) (told_by v storage_now link_now)
  pub storage_counts : CountsOn v.storage_faults v.storage_limit storage storage_now
  pub link_counts : CountsOn v.link_faults v.link_limit link link_now
  -- each entry had a moment of its own
  pub moments : ℕ
  pub taken : Takes (behind_moments moments) edge edge_now
  pub kept : share ≤ share_now
  pub enough : share_now ≤ share + moments

-- the link is as open as before
as-open : (job next : Job) (old mid : Told) → HasMoved job next old mid → mid.sending.closed ≡ old.sending.closed
as-open job next old mid (inl (is, at_start)) = ap (λ (t : Told). t.sending.closed) at_start
as-open job next old mid (inr went) = went.closed

-- a whole run behind what moved up to here
ran-behind : (job next : Job) (old mid new : Told) (outcome : Outcome) → Counted old mid → mid.storage_faults ≤ new.storage_faults →
    job.done ≤ next.done → next ≡ record job { done = next.done } → suits outcome.result job.command ≡ true →
    HasMoved job next old mid → Ran next mid new outcome → Ran job old new outcome
ran-behind job next old mid new outcome counts grew more same fits moved ran =
    let sum : (next.done + (outcome.bytes - next.done)) - job.done ≡ outcome.bytes - job.done = omega (arith, ran.counted, more) in
    let moves =
    moves-behind job next old mid (record new { link_faults = ran.faults; link_calls = ran.calls }) (outcome.bytes - next.done) outcome.result outcome.fault
    counts (record { storage = grew; link = ran.not_before }) more same fits moved ran.moves in
    record {
      counted = omega (arith, ran.counted, more);
      faults = ran.faults;
      not_before = omega (arith, counts.link, ran.not_before);
      not_after = ran.not_after;
      calls = ran.calls;
      moves = rw sum at moves;
      closed =
          elim ran.closed [
            | inl h ↦ inl h
            | inr h ↦ inr (h.0 ∙ as-open job next old mid moved, h.1, h.2)
          ];
    }

module _ {S L : Type 0} (v : Views S L) where
  -- counts of faults that were kept did not fall
  counted-on : (s t : S) (l m : L) → CountsOn v.storage_faults v.storage_limit s t → CountsOn v.link_faults v.link_limit l m →
      Counted (told_by v s l) (told_by v t m)
  counted-on s t l m storage link = record { storage = storage.count; link = link.count }

  -- at the start nothing has moved
  pub progress-start : {job copy : Job} {s : S} {l : L} {e : EdgeView} {c : ℕ} → copy ≡ job → Progress v job copy job s s l l e e 0 c c
  progress-start {e = e} same =
      rw same
      (record {
        same = refl;
        same_share = refl;
        more = omega arith;
        within = omega arith;
        counted = omega arith;
        moved = inl (refl, refl);
        storage_counts = CountsOn-same;
        link_counts = CountsOn-same;
        moments = 0;
        taken = takes-none e;
        kept = omega arith;
        enough = omega arith;
      })

  module _ {job next told : Job} {s s1 s2 : S} {l l1 l2 : L} {e e1 : EdgeView} {count c c1 : ℕ}
      (so_far : Progress v job next told s s1 l l1 e e1 count c c1)
      (storage : CountsOn v.storage_faults v.storage_limit s1 s2) (link : CountsOn v.link_faults v.link_limit l1 l2) where
    -- a piece more moved
    went-so_far : {bytes : ℕ} → Went next (told_by v s1 l1) (told_by v s2 l2) bytes → Went job (told_by v s l) (told_by v s2 l2) ((next.done + bytes) - job.done)
    went-so_far went =
        went-behind job next (told_by v s l) (told_by v s1 l1) (told_by v s2 l2) _
        (counted-on s s1 l l1 so_far.storage_counts so_far.link_counts) (counted-on s1 s2 l1 l2 storage link)
        (omega (arith, so_far.more, so_far.within)) so_far.same so_far.moved went

    -- and the job goes on, of which more may have been told
    pub progress-more : {next' told' : Job} {e2 : EdgeView} {c2 bytes : ℕ} →
        Went next (told_by v s1 l1) (told_by v s2 l2) bytes → next' ≡ record next { done = next.done + bytes } →
        StillRuns told told' next'.done e1 e2 c1 c2 →
        Progress v job next' told' s s2 l l2 e e2 (count + 1) c c2
    progress-more {next' = next'} {told' = told'} {e2 = e2} {bytes = bytes} went raised runs =
        let total : next'.done ≡ next.done + bytes = ap (λ (j : Job). j.done) raised in
        record {
          same = raised ∙ ap (λ (j : Job). record j { done = next.done + bytes }) so_far.same ∙ ap (λ (n : ℕ). record job { done = n }) (sym total);
          same_share = runs.same ∙ ap (λ (j : Job). record j { done = told'.done }) so_far.same_share;
          more = omega (arith, so_far.more, runs.more);
          within = runs.within;
          counted = omega (arith, so_far.counted, total, went.some);
          moved = inr (rw (sym total) at (went-so_far went));
          storage_counts = CountsOn-more so_far.storage_counts storage;
          link_counts = CountsOn-more so_far.link_counts link;
          moments = so_far.moments + runs.moments;
          taken = takes-more so_far.moments runs.moments e e1 e2 so_far.taken runs.taken;
          kept = omega (arith, so_far.kept, runs.kept);
          enough = omega (arith, so_far.enough, runs.enough);
        }

    -- the run has ended
    pub runs-ended : (reads_take_memory takes_memory : Bool) (outcome : Outcome) →
        Ran next (told_by v s1 l1) (told_by v s2 l2) outcome → suits outcome.result next.command ≡ true →
        (is_retrieve next.command ≡ true → reads_take_memory ≡ false → takes_memory ≡ false → outcome.result ≡ OutOfMemory → ⊥) →
        RunsOn (site v reads_take_memory takes_memory) job outcome s s2 l l2
    runs-ended reads_take_memory takes_memory outcome ran fits memory =
        let command = ap (λ (j : Job). j.command) so_far.same in
        let fits' : suits outcome.result job.command ≡ true = rw command at fits in
        let whole : Ran job (told_by v s l) (told_by v s2 l2) outcome =
        ran-behind job next (told_by v s l) (told_by v s1 l1) (told_by v s2 l2) outcome
        (counted-on s s1 l l1 so_far.storage_counts so_far.link_counts) storage.count
        (omega (arith, so_far.more, so_far.within)) so_far.same fits' so_far.moved ran in
        record {
          ran = whole;
          suits = fits';
          complete = clean-done job (told_by v s l) (told_by v s2 l2) outcome whole;
          no_memory = rw command at memory;
          storage_counts = CountsOn-more so_far.storage_counts storage;
          link_counts = CountsOn-more so_far.link_counts link;
        }

    -- the run has stopped behind a piece, and the link was closed
    pub runs-stopped : {T E : Type 0} {bytes : ℕ} (l3 : L) (given : ℕ) (r : Result T E) →
        Went next (told_by v s1 l1) (told_by v s2 l2) bytes → told.done + given ≤ next.done + bytes →
        OnlyCloses v.left v.sending v.link_faults v.link_limit l2 l3 →
        OnOk r ((v.sending l3).closed ≡ true) → OnOk r (AllWell (λ (call : ℕ × LinkFault). call.0) (v.link_calls l2) (v.link_calls l3)) →
        OnErr r ((v.sending l3).closed ≡ (v.sending l2).closed) → OnErr r (HasRisen (v.link_faults l2) (v.link_faults l3)) → OnErr r (memory.LinkFailed (v.link_calls l2) (v.link_calls l3)) →
        (reads_take_memory takes_memory : Bool) → StopsOn (site v reads_take_memory takes_memory) job given s s2 l l3
    runs-stopped {bytes = bytes} l3 given r went within closes closed well same rose failed reads_take_memory takes_memory =
        let part = went-so_far went in
        let m = (next.done + bytes) - job.done in
        let less : (job.done + m) - job.done ≡ m = omega arith in
        record {
          bytes = job.done + m;
          moved = omega (arith, within, so_far.more, so_far.within);
          ran = record {
            counted = omega arith;
            faults = v.link_faults l2;
            not_before = omega (arith, so_far.link_counts.count, link.count);
            not_after = closes.counts.count;
            calls = v.link_calls l2;
            moves = rw less (Moves-closed (v.left l3) (v.sending l3) closes.same_left closes.sent closes.last_fault part.moves);
            closed = shut r closed well same rose failed part.closed;
          };
          storage_counts = CountsOn-more so_far.storage_counts storage;
          link_counts = CountsOn-more so_far.link_counts (CountsOn-more link closes.counts);
        }
      where
        shut : {T E : Type 0} (r : Result T E) →
            OnOk r ((v.sending l3).closed ≡ true) → OnOk r (AllWell (λ (call : ℕ × LinkFault). call.0) (v.link_calls l2) (v.link_calls l3)) →
            OnErr r ((v.sending l3).closed ≡ (v.sending l2).closed) → OnErr r (HasRisen (v.link_faults l2) (v.link_faults l3)) → OnErr r (memory.LinkFailed (v.link_calls l2) (v.link_calls l3)) →
            (v.sending l2).closed ≡ (v.sending l).closed →
            (((v.sending l3).closed ≡ true) × AllWell (λ (call : ℕ × LinkFault). call.0) (v.link_calls l2) (v.link_calls l3))
            ⊎ (((v.sending l3).closed ≡ (v.sending l).closed) × HasRisen (v.link_faults l2) (v.link_faults l3) × memory.LinkFailed (v.link_calls l2) (v.link_calls l3))
        shut (Ok x) closed well same rose failed before = inl (closed, well)
        shut (Err e) closed well same rose failed before = inr (same ∙ before, rose, failed)
