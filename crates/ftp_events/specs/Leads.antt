-- What a log did to a storage and to links.
use Rattle.std.specs.Prelude.{◌≡◌, ◌⊎◌, ℕ, ◌≤◌, ◌&&◌, true, List, [], ◌∷◌, ◌++◌, Option, Some, None, is_some, MatchOption, Result, IfSome, IsErrOf, not, ◌||◌, if◌then◌else◌}
use Rattle.std.specs.FinMap as map
use Rattle.ftp_base.specs.declared.fault.LinkFault.{LinkFault}
use Rattle.ftp_base.specs.Calls.{Calls, AllWell}
use Rattle.ftp_base.specs.Kept.{CountsOn, OnlyReads}
use Rattle.ftp_base.specs.Memory.{LinkMet}
use Rattle.ftp_base.specs.LinkTable.{Numbered}
use Rattle.ftp_base.specs.Net.{is_v6}
use Rattle.ftp_base.specs.Outside.{Sending, HasRisen}
use Rattle.ftp_base.specs.Storage.{Files, Rule}
use Rattle.ftp_options.specs.declared.options.Options.{Options}
use Rattle.ftp_options.specs.Modes.{is_proxy}
use Rattle.ftp_proxy.specs.declared.error.ProxyError.{ProxyError}
use Rattle.ftp_proxy.specs.declared.error.ProxyError.TheVariants.{ReadError}
use Rattle.ftp_proxy.specs.declared.error.ReadError.TheVariants.{Fault}
use Rattle.ftp_proxy.specs.declared.header.ProxyHeader.{ProxyHeader}
use Rattle.ftp_proxy.specs.Line.{IsAnswer, IsTaken}
use Rattle.ftp_transfer.specs.declared.job.Job.{Job}
use Rattle.ftp_events.specs.declared.session.Running.{Running}
use Rattle.ftp_transfer.specs.declared.job.Ticket.{Ticket}
use Rattle.ftp_transfer.specs.declared.job.Outcome.{Outcome}
use Rattle.ftp_transfer.specs.Ran.{Told, told, Ran, Went, IsClean, IsDone}
use Rattle.ftp_events.specs.declared.entry.Entry.{Entry}
use Rattle.ftp_events.specs.declared.event.Answer.{Answer}
use Rattle.ftp_events.specs.declared.event.Answer.TheVariants as answer
use Rattle.ftp_events.specs.declared.event.EventKind.{EventKind}
use Rattle.ftp_events.specs.declared.event.EventKind.TheVariants.{Proxied, End, Piece}
use Rattle.ftp_events.specs.Acts.{link_in, slot_of}
use Rattle.ftp_events.specs.EndRows.{can_end, can_move}
use Rattle.ftp_events.specs.Words.{◌⇒◌∣◌}
use Rattle.ftp_events.specs.Log.{past_of, is_used, is_stopped}
use Rattle.ftp_events.specs.Session.{session, running_job}
use Rattle.ftp_events.specs.Transfer.{same_ticket}

-- what storages and links tell
pub record Views (S L : Type 0) : Type 0 where
  pub files : S → Option Files
  pub rule : S → Rule
  pub storage_faults : S → ℕ
  pub storage_limit : S → ℕ
  pub storage_calls : S → Option (Calls ℕ)
  pub left : L → Option (List ℕ)
  pub sending : L → Sending
  pub link_faults : L → ℕ
  pub link_limit : L → ℕ
  pub link_calls : L → Option (Calls (ℕ × LinkFault))

-- a storage and links by their numbers
pub record Outside (S L : Type 0) : Type 0 where
  pub storage : S
  pub links : Numbered L

-- what storages and links tell, by a word for each
abbrev pub views :
    {S L : Type 0} → (S → Option Files) → (S → Rule) → (S → ℕ) → (S → ℕ) → (S → Option (Calls ℕ)) →
    (L → Option (List ℕ)) → (L → Sending) → (L → ℕ) → (L → ℕ) → (L → Option (Calls (ℕ × LinkFault))) → Views S L
views files rule storage_faults storage_limit storage_calls left sending link_faults link_limit link_calls =
    record {
      files = files;
      rule = rule;
      storage_faults = storage_faults;
      storage_limit = storage_limit;
      storage_calls = storage_calls;
      left = left;
      sending = sending;
      link_faults = link_faults;
      link_limit = link_limit;
      link_calls = link_calls;
    }

-- a storage beside links
abbrev pub beside : {S L : Type 0} → S → Numbered L → Outside S L
beside storage links = record { storage = storage; links = links }

-- what a storage and a link tell together
abbrev pub told_by : {S L : Type 0} → Views S L → S → L → Told
told_by v s l =
    told (v.files s) (v.rule s) (v.storage_faults s) (v.storage_calls s) (v.left l) (v.sending l) (v.link_faults l) (v.link_calls l)

-- each link that a live session has in its slot, or a running job transfers over, is in the table
pub record HasLinks {L : Type 0} (o : Options) (past : List Entry) (links : Numbered L) : Type 0 where
  pub slots : (s n : ℕ) → link_in (slot_of (session o past s)) ≡ Some n → is_some (map.get links n) ≡ true
  pub jobs : (s : ℕ) (r : Running) → running_job o past s ≡ Some r → is_some (map.get links r.job.number) ≡ true

-- the job of a ticket, where it runs and is not to stop
abbrev pub job_of_ticket : Option Running → Ticket → Option Job
job_of_ticket None ticket = None
job_of_ticket (Some r) ticket = if same_ticket r.job.ticket ticket && not r.marked then Some r.job else None

-- the job that an event is the end of, where it runs
abbrev pub job_to_run : Options → List Entry → EventKind → Option Job
job_to_run o past (End ticket) = job_of_ticket (running_job o past ticket.session) ticket
job_to_run o past _ = None

-- the job that an event is a piece of, where it runs
abbrev pub job_to_move : Options → List Entry → EventKind → Option Job
job_to_move o past (Piece ticket) = job_of_ticket (running_job o past ticket.session) ticket
job_to_move o past _ = None

-- the connection whose header an event is to be decided by: that of a proxy, where the event is not refused or turned away without it
abbrev pub header_to_read : Options → List Entry → EventKind → Option ℕ
header_to_read o past (Proxied number raw trace) =
    ((not (is_proxy o.mode) || is_v6 raw.ip) || is_used past number) || is_stopped past ⇒ None ∣ Some number
header_to_read o past _ = None

-- the header was read from this link, nothing behind its line was taken, and nothing else moved
pub record ReadsHeader {S L : Type 0} (v : Views S L) (number : ℕ) (given : Answer) (old new : Outside S L) : Type 0 where
  pub header : Result ProxyHeader ProxyError
  pub before : L
  pub after : L
  pub given_is : given ≡ answer.Header header
  pub there : map.get old.links number ≡ Some before
  pub links : new.links ≡ map.insert old.links number after
  pub storage : new.storage ≡ old.storage
  pub line : IfSome (v.left before) (λ left. IsAnswer left header)
  pub taken : IfSome (v.left before) (λ left. IsTaken left header (v.left after))
  -- the calls went well, or the last of them failed as listed and the header tells a fault
  pub unlisted : (IsErrOf header (ReadError Fault) → ⊥) → AllWell (λ (call : ℕ × LinkFault). call.0) (v.link_calls before) (v.link_calls after)
  pub as_listed : IsErrOf header (ReadError Fault) → LinkMet (v.link_calls before) (v.link_calls after) (v.sending after).last_fault
  pub last_fault : (IsErrOf header (ReadError Fault) → ⊥) → (v.sending after).last_fault ≡ (v.sending before).last_fault
  pub fault_rose : IsErrOf header (ReadError Fault) → HasRisen (v.link_faults before) (v.link_faults after)
  pub only_reads : OnlyReads v.sending v.link_faults v.link_limit before after

-- a job was run on the link that it started on, and on no other
pub record RunsJob {S L : Type 0} (v : Views S L) (job : Job) (given : Answer) (old new : Outside S L) : Type 0 where
  pub outcome : Outcome
  pub before : L
  pub after : L
  pub given_is : given ≡ answer.Done outcome
  -- the end of a job accepts it
  pub fits : can_end job outcome ≡ true
  pub there : map.get old.links job.number ≡ Some before
  pub links : new.links ≡ map.insert old.links job.number after
  pub ran : Ran job (told_by v old.storage before) (told_by v new.storage after) outcome
  -- a job of which the storage's rule refused no call, and that nothing stopped, is done
  pub complete : IsClean job (told_by v old.storage before) (told_by v new.storage after) outcome → IsDone outcome.result
  pub storage_counts : CountsOn v.storage_faults v.storage_limit old.storage new.storage
  pub link_counts : CountsOn v.link_faults v.link_limit before after

-- a piece of a job moved on the link that it started on, and on no other, and more may come
pub record MovesPiece {S L : Type 0} (v : Views S L) (job : Job) (given : Answer) (old new : Outside S L) : Type 0 where
  pub bytes : ℕ
  pub before : L
  pub after : L
  pub given_is : given ≡ answer.Moved bytes
  -- a piece of the job accepts it
  pub fits : can_move job bytes ≡ true
  pub there : map.get old.links job.number ≡ Some before
  pub links : new.links ≡ map.insert old.links job.number after
  pub went : Went job (told_by v old.storage before) (told_by v new.storage after) bytes
  pub storage_counts : CountsOn v.storage_faults v.storage_limit old.storage new.storage
  pub link_counts : CountsOn v.link_faults v.link_limit before after

-- nothing was asked, read, written or stored
pub record LeavesAll {S L : Type 0} (given : Answer) (old new : Outside S L) : Type 0 where
  pub given_is : given ≡ answer.None
  pub same : new ≡ old

-- an entry read the header that it is decided by, ran the job that it is the end of, or moved a piece of the one that it is
-- a piece of, which may be the last, and no other acts
abbrev pub LeadsOne : {S L : Type 0} → Views S L → Options → List Entry → Entry → Outside S L → Outside S L → Type 0
LeadsOne v o past e old new =
    MatchOption (header_to_read o past e.event.kind)
    (MatchOption (job_to_run o past e.event.kind)
    (MatchOption (job_to_move o past e.event.kind) (LeavesAll e.answer old new) (λ job. MovesPiece v job e.answer old new ⊎ RunsJob v job e.answer old new))
    (λ job. RunsJob v job e.answer old new))
    (λ number. ReadsHeader v number e.answer old new)

-- the newer entries of a log, one after the other, did so
abbrev pub Leads : {S L : Type 0} → Views S L → Options → List Entry → List Entry → Outside S L → Outside S L → Type 0
Leads v o log [] old new = new ≡ old
Leads {S} {L} v o log (e ∷ newer) old new =
    (between : Outside S L) × Leads v o log newer old between × LeadsOne v o (past_of (newer ++ log)) e between new
