use Rattle.std.proofs.Common.{refl, ap, ◌∙◌, subst, ℕ, List, length}
use Rattle.std.specs.Option.{option_map}
use Rattle.ftp_events.specs.Counts.{CountsFrom}
use Rattle.ftp_switchboard.specs.declared.numbers.Interval.{Interval}
use Rattle.ftp_switchboard.specs.Used.{is_used as is_in_lines}
use Rattle.ftp_hub.specs.declared.state.JobLine.{JobLine}
use Rattle.ftp_hub.specs.declared.state.RecordLine.{RecordLine}
use Rattle.ftp_hub.specs.State.{failures_told, job_line, session_by_lines, told_running}
use Rattle.ftp_hub.proofs.hub.Hub.rebuilt.Goals as goal

-- the sessions that are counted are those of the lines
pub returns-clause-counters : goal.returns-clause-counters
returns-clause-counters c =
    subst (λ (n : ℕ). CountsFrom c.args.options n c.counters_from-counters.result)
    (c.in_ok-table.ensures.len ∙ ap length c.into_vec-2.ensures) c.counters_from-counters.ensures

-- each table is made of its lines
pub returns-clause-told : goal.returns-clause-told
returns-clause-told c =
    record {
      sessions = λ s.
          c.in_ok-table.ensures.told s
          ∙ (λ i. session_by_lines (c.into_vec-2.ensures i) (c.into_vec-3.ensures i) (c.into_vec-4.ensures i) s);
      live = c.in_ok-table.ensures.len ∙ ap length c.into_vec-2.ensures;
      jobs = λ s.
          c.in_ok-running.ensures.jobs s
          ∙ ap (λ (ls : List JobLine). option_map told_running (job_line ls s)) c.into_vec-5.ensures;
      running = c.in_ok-running.ensures.len ∙ ap length c.into_vec-5.ensures;
      numbers = λ n. c.in_ok-numbers.ensures.same n ∙ ap (λ (is : List Interval). is_in_lines is n) c.as_slice.ensures;
      failures = λ key.
          c.in_ok-failures.ensures.told key
          ∙ ap (λ (ls : List RecordLine). failures_told c.args.options.lockout ls key) c.into_vec.ensures;
      stopped = refl;
      events = refl;
    }
