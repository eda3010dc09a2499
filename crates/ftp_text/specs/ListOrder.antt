-- What the lists of a state that has lines are: in order, each slot of a session, each transfer of a slot, and the records of one
-- policy.
use Rattle.std.specs.Prelude.{◌≡◌, ℕ, true, List, map as each, Option, None, IsSome, is_some}
use Rattle.std.specs.List.{AllByRecursion}
use Rattle.std.specs.List.Sorted.{IsStrictlySortedBy}
use Rattle.ftp_base.specs.declared.net.IpAddr.{IpAddr}
use Rattle.ftp_options.specs.declared.lockout.FailedLoginsBlock.{FailedLoginsBlock}
use Rattle.ftp_options.specs.declared.lockout.FailedLoginsBlock.TheVariants.{UserAndIP, IP, User}
use Rattle.ftp_lockout.specs.Keys.{key_cmp}
use Rattle.ftp_switchboard.specs.Used.{IsApart}
use Rattle.ftp_laws.specs.Census.{IsAscending}
use Rattle.ftp_hub.specs.declared.state.HubState.{HubState}
use Rattle.ftp_hub.specs.declared.state.JobLine.{JobLine}
use Rattle.ftp_hub.specs.declared.state.QueuedLine.{QueuedLine}
use Rattle.ftp_hub.specs.declared.state.RecordLine.{RecordLine}
use Rattle.ftp_hub.specs.declared.state.SessionLine.{SessionLine}
use Rattle.ftp_hub.specs.declared.state.SlotLine.{SlotLine}
use Rattle.ftp_hub.specs.State.{record_key, session_line, slot_line, queued_line}
use Rattle.ftp_text.specs.Spelling.{is_from_root}

-- what a policy counts failed logins by: an address and a name, or one of them alone
abbrev pub IsOfPolicy : FailedLoginsBlock → Option IpAddr → Option (List ℕ) → Type 0
IsOfPolicy UserAndIP ip user = IsSome ip × IsSome user
IsOfPolicy IP ip user = IsSome ip × (user ≡ None)
IsOfPolicy User ip user = (ip ≡ None) × IsSome user

-- all records are of one policy
abbrev pub AreOfOnePolicy : List RecordLine → Type 0
AreOfOnePolicy records = (block : FailedLoginsBlock) × AllByRecursion (λ (r : RecordLine). IsOfPolicy block r.ip r.user) records

-- the lists of the state are in order
pub record AreListsInOrder (x : HubState) : Type 0 where
  pub used : IsApart x.used
  pub policy : AreOfOnePolicy x.records
  pub records : IsStrictlySortedBy key_cmp (each record_key x.records)
  pub sessions : IsAscending (each (λ (l : SessionLine). l.session) x.sessions)
  pub slots : IsAscending (each (λ (l : SlotLine). l.session) x.slots)
  pub queued : IsAscending (each (λ (l : QueuedLine). l.session) x.queued)
  pub live : (s : ℕ) → is_some (slot_line x.slots s) ≡ true → is_some (session_line x.sessions s) ≡ true
  pub placed : (s : ℕ) → is_some (queued_line x.queued s) ≡ true → is_some (slot_line x.slots s) ≡ true
  pub jobs : IsAscending (each (λ (j : JobLine). j.job.ticket.session) x.jobs)

-- each directory and each path begins with a slash
pub record AreFromRoot (x : HubState) : Type 0 where
  pub sessions : AllByRecursion (λ (l : SessionLine). is_from_root l.cwd ≡ true) x.sessions
  pub queued : AllByRecursion (λ (q : QueuedLine). is_from_root q.path ≡ true) x.queued
  pub jobs : AllByRecursion (λ (j : JobLine). is_from_root j.job.path ≡ true) x.jobs
