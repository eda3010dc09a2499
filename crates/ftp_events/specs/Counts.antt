-- What is counted over the entries of a log that were not refused.
--   live_count past            the sessions that are live (Session.antt)
--   opened_count past          the sessions that were opened
--   failure_count past         the logins that failed
--   sent_bytes o past w        the bytes that finished transfers by command w have sent
--   received_bytes o past w    the bytes that they have received
--   status_count o past w s    the finished transfers by command w with status s
--   over_deliveries adds past  the sum of what outcomes add of which a live session was told
--   reply_count past d         the replies whose code begins with the digit d
use Rattle.std.specs.Prelude.{ℕ, ◌≡◌, ◌-◌, ◌==◌, ◌&&◌, Bool, true, false, List, [], Option, Some, None, count_by, slice_index, if◌then◌else◌}
use Rattle.std.specs.List.{list_any}
use Rattle.std.specs.Option.{option_and_then, option_map, option_map_or}
use Rattle.ftp_base.specs.declared.reply.ReplyCode.{ReplyCode}
use Rattle.ftp_base.specs.declared.reply.Reply.TheVariants.{CodeAndMsg}
use Rattle.ftp_base.specs.Reply.{code_text}
use Rattle.ftp_options.specs.declared.options.Options.{Options}
use Rattle.ftp_transfer.specs.declared.job.Completion.{Completion}
use Rattle.ftp_transfer.specs.declared.job.Completion.TheVariants.{Sent, Written}
use Rattle.ftp_transfer.specs.declared.job.Outcome.{Outcome}
use Rattle.ftp_events.specs.declared.action.Action.{Action}
use Rattle.ftp_events.specs.declared.action.Action.TheVariants as action
use Rattle.ftp_events.specs.declared.entry.Entry.{Entry}
use Rattle.ftp_events.specs.declared.event.HubEvent.{HubEvent}
use Rattle.ftp_events.specs.declared.event.EventKind.{EventKind}
use Rattle.ftp_events.specs.Log.{job_ticket}
use Rattle.ftp_events.specs.declared.event.Answer.{Answer}
use Rattle.ftp_events.specs.declared.event.Answer.TheVariants.{Done}
use Rattle.ftp_events.specs.declared.decision.Decision.{Decision}
use Rattle.ftp_events.specs.declared.decision.Decision.TheVariants.{LoginFailed, Finished}
use Rattle.ftp_events.specs.declared.decision.Life.{Life}
use Rattle.ftp_events.specs.declared.decision.Life.TheVariants.{Opens}
use Rattle.ftp_events.specs.declared.counters.Counters.{Counters}
use Rattle.ftp_events.specs.declared.tallies.Files.{Files}
use Rattle.ftp_events.specs.declared.status.CommandWord.{CommandWord}
use Rattle.ftp_events.specs.declared.status.Status7.{Status7}
use Rattle.ftp_events.specs.declared.status.Ended.{Ended}
use Rattle.ftp_events.specs.Words.{◌⇒◌∣◌, total, total_after}
use Rattle.ftp_events.specs.Classes.{life}
use Rattle.ftp_events.specs.Session.{live_count, running_job}
use Rattle.ftp_events.specs.Statuses.{ended_of, status_of, same_word, same_status, receives}
use Rattle.ftp_events.specs.Tallies.{Grows, saturated, of_word, of_status}

-- one where it holds
abbrev pub one_if : Bool → ℕ
one_if b = if b then 1 else 0

-- the life begins
abbrev pub begins : Life → Bool
begins Opens = true
begins _ = false

-- how many sessions were opened
abbrev pub opened_count : List Entry → ℕ
opened_count past = total (λ e. one_if (begins (life e.decision))) past

-- a login failed
abbrev pub is_failure : Decision → Bool
is_failure (LoginFailed lock delay) = true
is_failure _ = false

-- how many logins failed
abbrev pub failure_count : List Entry → ℕ
failure_count past = total (λ e. one_if (is_failure e.decision)) past

-- what is counted of the job whose end an event tells
abbrev pub ended_job : Options → List Entry → EventKind → Option Ended
ended_job o past k = option_and_then (λ t. option_map (λ r. ended_of r.job) (running_job o past t.session)) (job_ticket k)

-- the transfer that is finished, with its outcome
abbrev pub finished : Decision → Answer → Option Ended → Option (Ended × Outcome)
finished Finished (Done outcome) job = option_map (λ t. (t, outcome)) job
finished _ _ job = None

-- what a transfer that is finished adds, by what it was and its outcome
abbrev pub by_end : (Ended → Outcome → ℕ) → Option (Ended × Outcome) → ℕ
by_end adds end = option_map_or (λ x. adds x.0 x.1) end 0

-- the sum of what finished transfers add
abbrev pub over_ends : Options → (Ended → Outcome → ℕ) → List Entry → ℕ
over_ends o adds past = total_after (λ before e. by_end adds (finished e.decision e.answer (ended_job o before e.event.kind))) past

-- the bytes of a transfer by this command, where it sends
abbrev pub sent_by : CommandWord → Ended → Outcome → ℕ
sent_by w t outcome = receives t.word ⇒ 0 ∣ same_word t.word w ⇒ outcome.bytes ∣ 0

-- the bytes that finished transfers by a command have sent
abbrev pub sent_bytes : Options → List Entry → CommandWord → ℕ
sent_bytes o past w = over_ends o (sent_by w) past

-- the bytes of a transfer by this command, where it receives
abbrev pub received_by : CommandWord → Ended → Outcome → ℕ
received_by w t outcome = receives t.word ⇒ (same_word t.word w ⇒ outcome.bytes ∣ 0) ∣ 0

-- the bytes that finished transfers by a command have received
abbrev pub received_bytes : Options → List Entry → CommandWord → ℕ
received_bytes o past w = over_ends o (received_by w) past

-- one for a transfer by this command with this status
abbrev pub status_by : CommandWord → Status7 → Ended → Outcome → ℕ
status_by w s t outcome = option_map_or (λ found. one_if (same_status found s && same_word t.word w)) (status_of t outcome) 0

-- how many finished transfers by a command had a status
abbrev pub status_count : Options → List Entry → CommandWord → Status7 → ℕ
status_count o past w s = over_ends o (status_by w s) past

-- a session was told of the end of its transfer
abbrev pub is_delivery : Action → Bool
is_delivery (action.Completed ticket delivered) = delivered
is_delivery _ = false

-- the outcome of a transfer that is finished, where its session was told
abbrev pub delivered : Decision → Answer → List Action → Option Outcome
delivered Finished (Done outcome) actions = list_any is_delivery actions ⇒ Some outcome ∣ None
delivered _ _ actions = None

-- the sum of what delivered ends add
abbrev pub over_deliveries : (Outcome → ℕ) → List Entry → ℕ
over_deliveries adds past = total (λ e. option_map_or adds (delivered e.decision e.answer e.actions) 0) past

-- a file was sent
abbrev pub is_sent : Completion → Bool
is_sent Sent = true
is_sent _ = false

-- a file was written
abbrev pub is_written : Completion → Bool
is_written Written = true
is_written _ = false

-- one for a transfer that moved a file this way
abbrev pub file_by : (Completion → Bool) → Outcome → ℕ
file_by is outcome = one_if (is outcome.result)

-- the bytes of a transfer that moved a file this way
abbrev pub bytes_by : (Completion → Bool) → Outcome → ℕ
bytes_by is outcome = is outcome.result ⇒ outcome.bytes ∣ 0

-- the files of a count are one more, where a transfer that was told of moved a file this way, and so are their bytes
abbrev pub GrowsBy : (Completion → Bool) → Option Outcome → Files → Files → Type 0
GrowsBy is told old new =
    Grows (option_map_or (file_by is) told 0) old.count new.count × Grows (option_map_or (bytes_by is) told 0) old.bytes new.bytes

-- the files that were moved this way, where clients were told, and their bytes
abbrev pub FilesOf : (Completion → Bool) → List Entry → Files → Type 0
FilesOf is past f = (f.count ≡ saturated (over_deliveries (file_by is) past)) × (f.bytes ≡ saturated (over_deliveries (bytes_by is) past))

-- the first digit of a code
abbrev pub first_digit : ReplyCode → ℕ
first_digit code = slice_index (code_text code) 0 - 48

-- a reply whose code begins with this digit
abbrev pub is_reply : ℕ → Action → Bool
is_reply d (action.Reply session delay (CodeAndMsg code msg)) = first_digit code == d
is_reply d _ = false

-- how many replies had a code that begins with a digit
abbrev pub reply_count : List Entry → ℕ → ℕ
reply_count past d = total (λ e. count_by (is_reply d) e.actions) past

-- an entry with these parts
abbrev pub entry_of : HubEvent → Answer → Decision → List Action → Entry
entry_of event answer d actions = record { event = event; answer = answer; decision = d; actions = actions }

-- the counters are the counts over these entries
pub record CountsOf (o : Options) (past : List Entry) (c : Counters) : Type 0 where
  pub session : c.session ≡ saturated (live_count past)
  pub opened : c.sessions_count ≡ saturated (opened_count past)
  pub failures : c.auth_failures ≡ saturated (failure_count past)
  pub sent : (w : CommandWord) → of_word c.sent w ≡ saturated (sent_bytes o past w)
  pub received : (w : CommandWord) → of_word c.received w ≡ saturated (received_bytes o past w)
  pub transferred : (w : CommandWord) (s : Status7) → of_word (of_status c.transferred s) w ≡ saturated (status_count o past w s)
  pub read : FilesOf is_sent past c.read
  pub written : FilesOf is_written past c.written
  pub replies : (d : ℕ) → slice_index c.replies d ≡ saturated (reply_count past d)

-- the counters are the counts where counts are kept, and else 0
pub record Counted (o : Options) (past : List Entry) (c : Counters) : Type 0 where
  pub kept : o.collect_metrics ≡ true → CountsOf o past c
  pub none : o.collect_metrics ≡ false → CountsOf o [] c

-- the counters of a server that goes on with so many live sessions: these are counted where counts are kept, and nothing else
pub record CountsFrom (o : Options) (live : ℕ) (c : Counters) : Type 0 where
  pub session : c.session ≡ (o.collect_metrics ⇒ live ∣ 0)
  pub others : CountsOf o [] (record c { session = 0 })
