-- The counters after an entry.
use Rattle.std.proofs.Common.{◌≡◌, refl, sym, ap, ◌∙◌, subst, ℕ, suc, ◌+◌, ◌-◌, ◌^◌, ◌<◌, ◌≤◌, Bool, true, false, cond, List, [], ◌∷◌, length, Option, Some, None, arith}
use Rattle.std.specs.Prelude.{nat_eq}
use Rattle.std.specs.Option.{option_and_then, option_map}
use Rattle.std.specs.HashMap as map
use Rattle.ftp_hub.proofs.Common.{Action, Answer, Decision, Entry, EventKind, Hub, HubEvent, Options, Running, Stands, Ticket, entry, is_refusal, job_ticket, live_after, past_of, running_job}
use Rattle.ftp_events.specs.declared.counters.Counters.{Counters}
use Rattle.ftp_events.specs.declared.decision.Life.{Life}
use Rattle.ftp_events.specs.declared.decision.Life.TheVariants.{Goes, Opens, Ends}
use Rattle.ftp_events.specs.declared.event.EventKind.TheVariants as kind
use Rattle.ftp_events.specs.declared.status.Ended.{Ended}
use Rattle.ftp_events.specs.Classes.{is_stop, life}
use Rattle.ftp_events.specs.Counts.{Counted, ended_job}
use Rattle.ftp_events.specs.Session.{live_by_life, live_count}
use Rattle.ftp_events.specs.Statuses.{ended_of}
use Rattle.ftp_laws.proofs.Cases.{by_test}
use Rattle.ftp_laws.proofs.EntryLemmas.{past-more}
use Rattle.ftp_laws.proofs.QuestionLemmas.{counting-counts, counting-refused}
use Rattle.ftp_hub.specs.Stands.{ended_in}

-- with a decision one session more is live at most
live-one : (d : Decision) (n : ℕ) → live_after d n ≤ n + 1
live-one d n = go (is_stop d) (life d)
  where
    go : (b : Bool) (l : Life) → cond b 0 (live_by_life l n) ≤ n + 1
    go true l = omega arith
    go false Opens = omega arith
    go false Ends = omega arith
    go false Goes = omega arith

-- so no more sessions are live than the log has entries
live-few : (log : List Entry) → live_count (past_of log) ≤ length log
live-few [] = omega arith
live-few (e ∷ log) =
    past-more (λ p. live_count p ≤ suc (length log)) e log (omega (arith, live-few log))
    (λ counts. omega (arith, live-one e.decision (live_count (past_of log)), live-few log))

-- what is counted of a job by the table is so by the log
ended-due : (hub : Hub) (log : List Entry) (k : EventKind) → Stands hub log → hub.options.collect_metrics ≡ true → ended_in hub k ≡ ended_job hub.options (past_of log) k
ended-due hub log k st kept = rw kept (by_ticket (job_ticket k))
  where
    by_ticket :
        (t : Option Ticket) →
        option_and_then (λ (t : Ticket). option_map (λ (r : Running). ended_of r.job) (map.get nat_eq hub.jobs t.session)) t
        ≡ option_and_then (λ (t : Ticket). option_map (λ (r : Running). ended_of r.job) (running_job hub.options (past_of log) t.session)) t
    by_ticket None = refl
    by_ticket (Some t) = ap (option_map (λ (r : Running). ended_of r.job)) (st.tables.jobs t.session)

-- where no counts are kept, nothing is
ended-none : (hub : Hub) (k : EventKind) → hub.options.collect_metrics ≡ false → ended_in hub k ≡ None
ended-none hub k off = rw off refl

-- what a note of an entry makes of the counters
abbrev pub Notes : Options → Answer → Decision → List Action → Option Ended → Counters → Counters → Type 0
Notes o answer d done ended old new =
    (past : List Entry) (event : HubEvent) → is_refusal d ≡ false → live_count past < 2 ^ 64 → ended ≡ ended_job o past event.kind →
    Counted o past old → Counted o (entry event answer d done ∷ past) new

-- the counters after an entry
pub counted-more :
    (hub : Hub) (log : List Entry) (event : HubEvent) (answer : Answer) (d : Decision) (done : List Action) (new : Counters) →
    Stands hub log → Counted hub.options (past_of log) hub.counters → hub.count < 2 ^ 64 - 1 →
    Notes hub.options answer d done (ended_in hub event.kind) hub.counters new →
    (is_refusal d ≡ true → new ≡ hub.counters) →
    Counted hub.options (past_of (entry event answer d done ∷ log)) new
counted-more hub log event answer d done new st told below notes stays = by_test (is_refusal d) refused counts
  where
    o : Options
    o = hub.options

    past : List Entry
    past = past_of log

    e : Entry
    e = entry event answer d done

    few : live_count past < 2 ^ 64
    few = omega (arith, live-few log, st.counted, below)

    refused : is_refusal d ≡ true → Counted o (past_of (e ∷ log)) new
    refused r =
        subst (λ (p : List Entry). Counted o p new) (sym (counting-refused e log r))
        (subst (λ (x : Counters). Counted o past x) (sym (stays r)) told)

    -- another event, of which nothing is counted
    swept : HubEvent
    swept = record { at = event.at; kind = kind.Sweep }

    counts : is_refusal d ≡ false → Counted o (past_of (e ∷ log)) new
    counts r =
        subst (λ (p : List Entry). Counted o p new) (sym (counting-counts e log r))
        (by_test o.collect_metrics
        (λ kept. notes past event r few (ended-due hub log event.kind st kept) told)
        (λ off.
        record {
          kept = λ kept.
              let clash : true ≡ false = sym kept ∙ off in
              cc;
          none = (notes past swept r few (ended-none hub event.kind off) told).none;
        }))
