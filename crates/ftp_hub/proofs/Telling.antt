-- What the lines of a hub make a state of.
use Rattle.std.proofs.Common.{◌≡◌, sym, ap, ◌∙◌, subst, ℕ, true, false, List, length, Option, Some, None}
use Rattle.std.specs.Prelude.{◌↔◌, nat_eq}
use Rattle.std.specs.HashMap as table
use Rattle.ftp_lockout.specs.declared.key.LoginKey.{LoginKey}
use Rattle.ftp_lockout.specs.Failures.{Table}
use Rattle.ftp_switchboard.specs.declared.numbers.Interval.{Interval}
use Rattle.ftp_switchboard.specs.Used.{IsApart, Used, has, is_used as is_in_lines}
use Rattle.ftp_hub.proofs.Common.{Entry, Hub, Jobs, Options, Session, Stands, failures_in, holder_at, is_legacy}
use Rattle.ftp_hub.proofs.Tidy.{jobs-own, live-tidy}
use Rattle.ftp_hub.specs.declared.state.HubState.{HubState}
use Rattle.ftp_hub.specs.declared.state.JobLine.{JobLine}
use Rattle.ftp_hub.specs.declared.state.QueuedLine.{QueuedLine}
use Rattle.ftp_hub.specs.declared.state.RecordLine.{RecordLine}
use Rattle.ftp_hub.specs.declared.state.SessionLine.{SessionLine}
use Rattle.ftp_hub.specs.declared.state.SlotLine.{SlotLine}
use Rattle.ftp_hub.specs.State.{AreJobLines, AreOwn, AreRecords, AreSessionLines, AreTidy, HoldsAreTold, IsForm, Sessions, TellsJobs, TellsSessions, TellsState, WaitsAt, failures_told, job_line, session_by_lines, told_running}
use Rattle.std.specs.Option.{option_map}

-- the state has these lists
pub record HasLists (x : HubState) (used : List Interval) (records : List RecordLine) (sessions : List SessionLine) (slots : List SlotLine) (queued : List QueuedLine) (jobs : List JobLine) : Type 0 where
  pub used_is : x.used ≡ used
  pub records_are : x.records ≡ records
  pub sessions_are : x.sessions ≡ sessions
  pub slots_are : x.slots ≡ slots
  pub queued_are : x.queued ≡ queued
  pub jobs_are : x.jobs ≡ jobs

-- what is known of the lists
pub record AreLines (hub : Hub) (used : List Interval) (records : List RecordLine) (sessions : List SessionLine) (slots : List SlotLine) (queued : List QueuedLine) (jobs : List JobLine) : Type 0 where
  pub numbers : (n : ℕ) → is_in_lines used n ≡ has hub.numbers n
  pub apart : IsApart used
  pub failures : (key : LoginKey) → failures_told hub.options.lockout records key ≡ failures_in hub.failures key
  pub form : AreRecords records
  pub live : AreTidy (table.get nat_eq hub.sessions) → TellsSessions hub.sessions sessions slots queued
  pub running : AreOwn (table.get nat_eq hub.jobs) → TellsJobs hub.jobs jobs

module _ (hub : Hub) (log : List Entry) (x : HubState) (used : List Interval) (records : List RecordLine) (sessions : List SessionLine) (slots : List SlotLine) (queued : List QueuedLine) (jobs : List JobLine) where
  -- a hub that stands for a log tells a state of its lines
  pub hub-told :
      Stands hub log → HasLists x used records sessions slots queued jobs → AreLines hub used records sessions slots queued jobs →
      hub.count ≡ x.events → hub.stopped ≡ x.stopped →
      TellsState hub x
  hub-told st has_lists are events stopped =
      let live = are.live (live-tidy hub log st) in
      let running = are.running (jobs-own hub log st) in
      record {
        sessions = λ s. sym ((λ i. session_by_lines (has_lists.sessions_are i) (has_lists.slots_are i) (has_lists.queued_are i) s) ∙ live.told s);
        live = sym (ap length has_lists.sessions_are ∙ live.len);
        jobs = λ s. sym (ap (λ (ls : List JobLine). option_map told_running (job_line ls s)) has_lists.jobs_are ∙ running.told s);
        running = sym (ap length has_lists.jobs_are ∙ running.len);
        numbers = λ n. sym (ap (λ (is : List Interval). is_in_lines is n) has_lists.used_is ∙ are.numbers n);
        failures = λ key. sym (ap (λ (rs : List RecordLine). failures_told hub.options.lockout rs key) has_lists.records_are ∙ are.failures key);
        stopped = stopped;
        events = events;
      }

  -- whose lists have the order and the form of a state's lines
  pub hub-formed :
      Stands hub log → HasLists x used records sessions slots queued jobs → AreLines hub used records sessions slots queued jobs →
      IsForm x
  hub-formed st has_lists are =
      let live = are.live (live-tidy hub log st) in
      let running = are.running (jobs-own hub log st) in
      record {
        used = subst IsApart (sym has_lists.used_is) are.apart;
        records = subst AreRecords (sym has_lists.records_are) are.form;
        sessions =
            subst (λ (ls : List SessionLine). AreSessionLines ls x.slots x.queued) (sym has_lists.sessions_are)
            (subst (λ (ls : List SlotLine). AreSessionLines sessions ls x.queued) (sym has_lists.slots_are)
            (subst (λ (ls : List QueuedLine). AreSessionLines sessions slots ls) (sym has_lists.queued_are) live.form));
        jobs = subst AreJobLines (sym has_lists.jobs_are) running.form;
      }

-- the fields of a hub that what it tells is of
pub record KeepsTables (old new : Hub) : Type 0 where
  pub sessions : new.sessions ≡ old.sessions
  pub jobs : new.jobs ≡ old.jobs
  pub numbers : new.numbers ≡ old.numbers
  pub failures : new.failures ≡ old.failures
  pub stopped : new.stopped ≡ old.stopped
  pub options : new.options ≡ old.options
  pub count : new.count ≡ old.count

-- a hub with these tells what the other told
pub kept-told : (old new : Hub) (x : HubState) → KeepsTables old new → TellsState old x → TellsState new x
kept-told old new x kept told =
    record {
      sessions = λ s. ap (λ (t : Sessions). table.get nat_eq t s) kept.sessions ∙ told.sessions s;
      live = ap (λ (t : Sessions). table.hash_map_len t) kept.sessions ∙ told.live;
      jobs = λ s. ap (λ (t : Jobs). table.get nat_eq t s) kept.jobs ∙ told.jobs s;
      running = ap (λ (t : Jobs). table.hash_map_len t) kept.jobs ∙ told.running;
      numbers = λ n. ap (λ (u : Used). has u n) kept.numbers ∙ told.numbers n;
      failures = λ key.
          ap (λ (f : Option Table). failures_in f key) kept.failures
          ∙ told.failures key
          ∙ ap (λ (o : Options). failures_told o.lockout x.records key) (sym kept.options);
      stopped = kept.stopped ∙ told.stopped;
      events = kept.count ∙ told.events;
    }

-- where each session holds the port that it waits for, holders are those who wait by the state
pub holders-told :
    (old new : Hub) (x : HubState) → KeepsTables old new → TellsState old x →
    (is_legacy old.options.mode ≡ false → (a p s : ℕ) → (holder_at new.board a p ≡ Some s) ↔ WaitsAt (table.get nat_eq old.sessions s) a p) →
    (is_legacy old.options.mode ≡ true → (a p : ℕ) → holder_at new.board a p ≡ None) →
    HoldsAreTold new x
holders-told old new x kept told held nobody =
    record {
      waiting = λ shared a p s.
          subst (λ (there : Option Session). (holder_at new.board a p ≡ Some s) ↔ WaitsAt there a p) (told.sessions s)
          (held (ap (λ (o : Options). is_legacy o.mode) (sym kept.options) ∙ shared) a p s);
      nobody = λ own a p. nobody (ap (λ (o : Options). is_legacy o.mode) (sym kept.options) ∙ own) a p;
    }
