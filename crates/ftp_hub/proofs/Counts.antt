-- How many notices an entry sends, and that a session has no more of them than the log has entries.
use Rattle.std.proofs.Common.{◌≡◌, refl, sym, ap, ◌∙◌, ℕ, suc, ◌+◌, ◌≤◌, Bool, true, false, cond, List, [], ◌∷◌, length, Option, Some, None, arith, eq-eqb}
use Rattle.std.specs.Prelude.{count_by, is_some}
use Rattle.std.specs.Option.{option_map, option_map_or}
use Rattle.ftp_hub.proofs.Common.{Answer, Decision, Entry, EventKind, IsActed, IsRight, Options, Running, Session, acts, history, is_refusal, notices_of, past_of, running_job, session, session_acts}
use Rattle.ftp_base.specs.declared.notice.DataEvent.{DataEvent}
use Rattle.ftp_base.specs.declared.notice.Notice.{Notice}
use Rattle.ftp_base.specs.declared.notice.Notice.TheVariants.{Data}
use Rattle.ftp_transfer.specs.declared.job.Outcome.{Outcome}
use Rattle.ftp_transfer.specs.declared.job.Completion.{Completion}
use Rattle.ftp_transfer.specs.declared.job.Completion.TheVariants as result
use Rattle.ftp_events.specs.declared.decision.Decision.TheVariants as decision
use Rattle.ftp_events.specs.declared.event.Answer.TheVariants as answer
use Rattle.ftp_events.specs.declared.event.EventKind.TheVariants as kind
use Rattle.ftp_events.specs.History.{concerns}
use Rattle.ftp_events.specs.Notices.{is_notice_to, notice_count}
use Rattle.ftp_events.specs.Message.{message_of_outcome, notice_of}
use Rattle.ftp_events.specs.Session.{live_sessions}
use Rattle.ftp_laws.specs.Census.{IsAscending}
use Rattle.ftp_laws.proofs.LiveLemmas.{live_sessions-ascending}
use Rattle.ftp_events.specs.Place.{is_queued, ticket_count}
use Rattle.ftp_events.specs.Reply.{path_of_job}
use Rattle.ftp_events.specs.Transfer.{moves_file}
use Rattle.ftp_events.specs.Acts.{notice_for, acts_of}
use Rattle.ftp_laws.proofs.NoticeLemmas as law
use Rattle.ftp_laws.proofs.EntryLemmas.{past-more, history-more}

-- the message of an outcome notifies where a file was moved
told-outcome : (path : List ℕ) (outcome : Outcome) (n : ℕ) (c : Completion) → length {A = ℕ × Notice} (option_map_or (λ what. (n + 1, what) ∷ []) (notice_for (Some (message_of_outcome path outcome c)) None) []) ≡ cond (moves_file c) 1 0
told-outcome path outcome n result.Sent = refl
told-outcome path outcome n result.Written = refl
told-outcome path outcome n c = refl

-- a message notifies once or not at all
told-message : (n : ℕ) (what : Option DataEvent) → length {A = ℕ × Notice} (option_map_or (λ what. (n + 1, what) ∷ []) (option_map Data what) []) ≡ cond (is_some what) 1 0
told-message n None = refl
told-message n (Some what) = refl

-- what is told of a live session is the notice of the decision
told-live : (k : EventKind) (answer : Answer) (d : Decision) (job : Option Running) (v : Session) → length (law.told_by k answer d job (Some v)) ≡ notices_of k d answer
told-live k answer decision.LoggedIn job v = refl
told-live (kind.Internal s message) answer decision.Told job v = told-message v.notices (notice_of message)
told-live k (answer.Done outcome) decision.Finished job v = told-outcome (path_of_job job) outcome v.notices outcome.result
told-live k answer _ job v = refl

-- an entry about a live session sends it the notice of its decision
pub count-session_acts : (o : Options) (s : ℕ) (k : EventKind) (answer : Answer) (d : Decision) (job : Option Running) (v : Session) → count_by (is_notice_to s) (session_acts o s k answer d job (Some v)) ≡ notices_of k d answer
count-session_acts o s k answer d job v = law.count-notices o s s k answer d job (Some v) ∙ rw (eq-eqb s s refl) (told-live k answer d job v)

-- what is there or not is one at most
one-most : (b : Bool) → cond b 1 0 ≤ 1
one-most true = omega arith
one-most false = omega arith

-- a decision sends one notice at most
notices-one : (k : EventKind) (d : Decision) (answer : Answer) → notices_of k d answer ≤ 1
notices-one k decision.LoggedIn answer = omega arith
notices-one (kind.Internal s message) decision.Told answer = one-most (is_some (notice_of message))
notices-one k decision.Finished (answer.Done outcome) = one-most (moves_file outcome.result)
notices-one k _ answer = omega arith

-- one notice at most is told of a session by a decision
told-few : (k : EventKind) (answer : Answer) (d : Decision) (job : Option Running) (v : Option Session) → length (law.told_by k answer d job v) ≤ 1
told-few k answer d job None = omega arith
told-few k answer d job (Some v) = omega (arith, told-live k answer d job v, notices-one k d answer)

-- an entry that counts sends a session one notice at most
count-entry : (o : Options) (past : List Entry) (e : Entry) (s : ℕ) → is_refusal e.decision ≡ false → e.actions ≡ acts_of o past e → IsAscending (live_sessions o past) → count_by (is_notice_to s) e.actions ≤ 1
count-entry o past e s counts acted ascends = omega (arith, sym (law.length-notices s e.actions) ∙ ap length (law.notices-entry o past e s counts acted ascends), go (concerns o past e s))
  where
    go : (b : Bool) → length (cond b (law.told_in o past e s) []) ≤ 1
    go true = told-few e.event.kind e.answer e.decision (running_job o past s) (session o past s)
    go false = omega arith

-- a session has no more notices than the log has entries
pub notices-few : (o : Options) (log : List Entry) (s : ℕ) → IsRight o log → IsActed o log → notice_count s (history o (past_of log) s) ≤ length log
unfolding acts
notices-few o [] s r a = omega arith
notices-few o (e ∷ log) s r a =
    past-more (λ p. notice_count s (history o p s) ≤ suc (length log)) e log (omega (arith, notices-few o log s r.0 a.0))
    (λ counts.
    let one : count_by (is_notice_to s) e.actions ≤ 1 = count-entry o (past_of log) e s counts a.1 (live_sessions-ascending o log r.0) in
    history-more (λ h. notice_count s h ≤ suc (length log)) o (past_of log) e s (λ n. omega (arith, one)) (λ c. omega (arith, one, notices-few o log s r.0 a.0))
    (omega (arith, notices-few o log s r.0 a.0)))

-- nor has it queued more transfers
pub tickets-few : (o : Options) (log : List Entry) (s : ℕ) → ticket_count (history o (past_of log) s) ≤ length log
tickets-few o [] s = omega arith
tickets-few o (e ∷ log) s =
    past-more (λ p. ticket_count (history o p s) ≤ suc (length log)) e log (omega (arith, tickets-few o log s))
    (λ counts.
    let one : cond (is_queued e.decision) 1 0 ≤ 1 = one-most (is_queued e.decision) in
    history-more (λ h. ticket_count h ≤ suc (length log)) o (past_of log) e s (λ n. omega (arith, one)) (λ c. omega (arith, one, tickets-few o log s))
    (omega (arith, tickets-few o log s)))
