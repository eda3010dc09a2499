-- What a state says fits its types, and so its text is that of its lines.
use Rattle.std.proofs.Common.{◌≡◌, ℕ, suc, ◌+◌, ◌<◌, ◌≤◌, Bool, true, false, cond, eqb, List, [], ◌∷◌, ◌++◌, length, map as each, take, get_or, Option, Some, None, refl, sym, ap, subst, arith}
use Rattle.std.specs.List.{AllByRecursion}
use Rattle.std.specs.List.Sorted.{IsStrictlySortedBy}
use Rattle.std.specs.Map.{keys_of}
use Rattle.std.proofs.lemmas.List.{take_more, take_all}
use Rattle.ftp_base.specs.declared.net.IpAddr.{IpAddr}
use Rattle.ftp_options.specs.declared.lockout.FailedLoginsBlock.{FailedLoginsBlock}
use Rattle.ftp_options.specs.declared.lockout.FailedLoginsBlock.TheVariants.{IP, User, UserAndIP}
use Rattle.ftp_options.specs.declared.lockout.FailedLoginsPolicy.{FailedLoginsPolicy}
use Rattle.ftp_lockout.specs.declared.key.LoginKey.{LoginKey}
use Rattle.ftp_lockout.specs.Keys.{key_cmp}
use Rattle.ftp_switchboard.specs.declared.numbers.Interval.{Interval}
use Rattle.ftp_switchboard.specs.Used.{hi_at, lo_at}
use Rattle.ftp_hub.specs.declared.state.HubState.{HubState}
use Rattle.ftp_hub.specs.declared.state.JobLine.{JobLine}
use Rattle.ftp_hub.specs.declared.state.QueuedLine.{QueuedLine}
use Rattle.ftp_hub.specs.declared.state.RecordLine.{RecordLine}
use Rattle.ftp_hub.specs.declared.state.SessionLine.{SessionLine}
use Rattle.ftp_hub.specs.declared.state.SlotLine.{SlotLine}
use Rattle.ftp_hub.specs.State.{AreMadeBy, IsAbsolute, IsForm, entries_of, is_keyed, is_made_by, record_key}
use Rattle.ftp_text.specs.declared.state_line.StateLine.{StateLine}
use Rattle.ftp_text.specs.declared.state_line.StateLine.TheVariants as says
use Rattle.ftp_text.specs.Grammar.{AreStateLines}
use Rattle.ftp_text.specs.ListOrder.{AreListsInOrder, AreOfOnePolicy, IsOfPolicy}
use Rattle.ftp_text.specs.Spelling.{IsStateLine, is_from_root}
use Rattle.ftp_text.specs.Walk.{Onward, own_queued, own_slot, session_walk, walk}
use Rattle.ftp_text.proofs.Lists.{all-append}
use Rattle.ftp_text.proofs.HaveLines.{walk-has}
use Rattle.ftp_script_run.specs.Fitting.{FitsInterval, FitsJob, FitsQueued, FitsRecord, FitsSession, FitsSlot, FitsState}

-- ---- lists

-- one element more
pub all-next : {A : Type 0} (P : A → Type 0) (xs : List A) (i : ℕ) (x : A) → i < length xs → x ≡ get_or xs i x → AllByRecursion P (take i xs) → P x → AllByRecursion P (take (i + 1) xs)
all-next P xs i x lt is all here =
    subst (AllByRecursion P) (sym (take_more xs i x lt)) (all-append P (take i xs) (get_or xs i x ∷ []) all (subst P is here, tt))

-- all of them
pub all-taken : {A : Type 0} (P : A → Type 0) (xs : List A) (i : ℕ) → length xs ≤ i → AllByRecursion P (take i xs) → AllByRecursion P xs
all-taken P xs i le all = subst (AllByRecursion P) (take_all i xs le) all

-- each line of a list
all-lines : {A : Type 0} (P Q : A → Type 0) (line : A → StateLine) (xs : List A) → ((x : A) → P x → Q x → IsStateLine (line x)) → AllByRecursion P xs → AllByRecursion Q xs → AllByRecursion IsStateLine (each line xs)
all-lines P Q line [] fits p q = tt
all-lines P Q line (x ∷ xs) fits p q = (fits x p.0 q.0, all-lines P Q line xs fits p.1 q.1)

-- ---- the lines

rooted : (path : List ℕ) → IsAbsolute path → is_from_root path ≡ true
rooted [] h = absurd cc
rooted (b ∷ path) h = h

record-fits : (r : RecordLine) → FitsRecord r → is_keyed r ≡ true → IsStateLine (says.Record r)
record-fits r fits keyed = (fits.count, fits.at, fits.ip, fits.user, keyed)

slot-fits : (l : SlotLine) → FitsSlot l → IsStateLine (says.Slot l)
slot-fits l fits = (fits.session, fits.at, fits.what)

-- ---- the walk

own-queued-fits : (n : ℕ) (more : List QueuedLine → List StateLine) (queued : List QueuedLine) →
    AllByRecursion (λ (q : QueuedLine). IsStateLine (says.Queued q)) queued →
    ((qs : List QueuedLine) → AllByRecursion (λ (q : QueuedLine). IsStateLine (says.Queued q)) qs → AllByRecursion IsStateLine (more qs)) →
    AllByRecursion IsStateLine (own_queued n more queued)
own-queued-fits n more [] fits onward = onward [] tt
own-queued-fits n more (q ∷ queued) fits onward = by (eqb q.session n) where
  by : (own : Bool) → AllByRecursion IsStateLine (cond own (says.Queued q ∷ more queued) (more (q ∷ queued)))
  by true = (fits.0, onward queued fits.1)
  by false = onward (q ∷ queued) fits

own-slot-fits : (n : ℕ) (more : Onward) (slots : List SlotLine) (queued : List QueuedLine) →
    AllByRecursion FitsSlot slots →
    AllByRecursion (λ (q : QueuedLine). IsStateLine (says.Queued q)) queued →
    ((ls : List SlotLine) (qs : List QueuedLine) → AllByRecursion FitsSlot ls → AllByRecursion (λ (q : QueuedLine). IsStateLine (says.Queued q)) qs → AllByRecursion IsStateLine (more ls qs)) →
    AllByRecursion IsStateLine (own_slot n more slots queued)
own-slot-fits n more [] queued slots_fit queued_fit onward = onward [] queued tt queued_fit
own-slot-fits n more (l ∷ slots) queued slots_fit queued_fit onward = by (eqb l.session n) where
  by : (own : Bool) → AllByRecursion IsStateLine (cond own (says.Slot l ∷ own_queued n (more slots) queued) (more (l ∷ slots) queued))
  by true = (slot-fits l slots_fit.0, own-queued-fits n (more slots) queued queued_fit (λ qs fit. onward slots qs slots_fit.1 fit))
  by false = onward (l ∷ slots) queued slots_fit queued_fit

walk-sessions-fit : (sessions : List SessionLine) (slots : List SlotLine) (queued : List QueuedLine) →
    AllByRecursion (λ (s : SessionLine). IsStateLine (says.Session s)) sessions →
    AllByRecursion FitsSlot slots →
    AllByRecursion (λ (q : QueuedLine). IsStateLine (says.Queued q)) queued →
    AllByRecursion IsStateLine (session_walk sessions slots queued)
walk-sessions-fit [] slots queued sessions_fit slots_fit queued_fit = tt
walk-sessions-fit (s ∷ sessions) slots queued sessions_fit slots_fit queued_fit = (
  sessions_fit.0,
  own-slot-fits s.session (session_walk sessions) slots queued slots_fit queued_fit
      (λ ls qs ls_fit qs_fit. walk-sessions-fit sessions ls qs sessions_fit.1 ls_fit qs_fit),
)

both-fit : {A : Type 0} (P Q R : A → Type 0) (xs : List A) → ((x : A) → P x → Q x → R x) → AllByRecursion P xs → AllByRecursion Q xs → AllByRecursion R xs
both-fit P Q R [] fits p q = tt
both-fit P Q R (x ∷ xs) fits p q = (fits x p.0 q.0, both-fit P Q R xs fits p.1 q.1)

-- intervals that are apart have a number each
apart-fit : (used : List Interval) → ((i : ℕ) → i < length used → lo_at used i ≤ hi_at used i) → AllByRecursion (λ (i : Interval). i.lo ≤ i.hi) used
apart-fit [] some = tt
apart-fit (x ∷ used) some = (some 0 (omega arith), apart-fit used (λ i lt. some (suc i) (omega arith)))

-- all lines of a state fit their types
pub walk-fits : (x : HubState) → IsForm x → FitsState x → AllByRecursion IsStateLine (walk x)
walk-fits x form fits = (
  fits.events,
  all-append IsStateLine (each says.Used x.used) rest_records
      (all-lines FitsInterval (λ (i : Interval). i.lo ≤ i.hi) says.Used x.used (λ i fit le. (fit.0, fit.1, le)) fits.used (apart-fit x.used form.used.each))
      (all-append IsStateLine (each says.Record x.records) rest_sessions
      (all-lines FitsRecord (λ (r : RecordLine). is_keyed r ≡ true) says.Record x.records record-fits fits.records form.records.keyed)
      (all-append IsStateLine (session_walk x.sessions x.slots x.queued) (each says.Job x.jobs)
      (walk-sessions-fit x.sessions x.slots x.queued
      (both-fit FitsSession (λ (s : SessionLine). IsAbsolute s.cwd) (λ (s : SessionLine). IsStateLine (says.Session s)) x.sessions (λ s fit root. fit (rooted s.cwd root)) fits.sessions form.sessions.absolute)
      fits.slots
      (both-fit FitsQueued (λ (q : QueuedLine). IsAbsolute q.path) (λ (q : QueuedLine). IsStateLine (says.Queued q)) x.queued (λ q fit root. fit (rooted q.path root)) fits.queued form.sessions.paths))
      (all-lines FitsJob (λ (j : JobLine). IsAbsolute j.job.path) says.Job x.jobs (λ j fit root. fit (rooted j.job.path root)) fits.jobs form.jobs.paths))),
) where
  rest_sessions : List StateLine
  rest_sessions = session_walk x.sessions x.slots x.queued ++ each says.Job x.jobs

  rest_records : List StateLine
  rest_records = each says.Record x.records ++ rest_sessions

-- ---- the order of the lists

keys-are : (records : List RecordLine) → keys_of (entries_of records) ≡ each record_key records
keys-are [] = refl
keys-are (r ∷ records) = ap (λ (keys : List LoginKey). record_key r ∷ keys) (keys-are records)

of-policy : (block : FailedLoginsBlock) (r : RecordLine) → is_made_by block r ≡ true → IsOfPolicy block r.ip r.user
of-policy block r made = by block r.ip r.user made where
  by : (b : FailedLoginsBlock) (ip : Option IpAddr) (user : Option (List ℕ)) → is_made_by b (record r { ip = ip; user = user }) ≡ true → IsOfPolicy b ip user
  by UserAndIP (Some a) (Some u) h = (refl, refl)
  by UserAndIP (Some a) None h = absurd cc
  by UserAndIP None user h = absurd cc
  by IP (Some a) None h = (refl, refl)
  by IP (Some a) (Some u) h = absurd cc
  by IP None user h = absurd cc
  by User None (Some u) h = (refl, refl)
  by User None None h = absurd cc
  by User (Some a) user h = absurd cc

one-policy : (policy : Option FailedLoginsPolicy) (records : List RecordLine) → AreMadeBy policy records → AreOfOnePolicy records
one-policy None records none = subst AreOfOnePolicy (sym none) (UserAndIP, tt)
one-policy (Some p) records made = (p.block_by, each-of records made) where
  each-of : (rs : List RecordLine) → AllByRecursion (λ (r : RecordLine). is_made_by p.block_by r ≡ true) rs → AllByRecursion (λ (r : RecordLine). IsOfPolicy p.block_by r.ip r.user) rs
  each-of [] all = tt
  each-of (r ∷ rs) all = (of-policy p.block_by r all.0, each-of rs all.1)

form-in-order : (policy : Option FailedLoginsPolicy) (x : HubState) → IsForm x → AreMadeBy policy x.records → AreListsInOrder x
form-in-order policy x form made = record {
  used = form.used;
  policy = one-policy policy x.records made;
  records = subst (IsStrictlySortedBy key_cmp) (keys-are x.records) form.records.in_order;
  sessions = form.sessions.sessions_rise;
  slots = form.sessions.slots_rise;
  queued = form.sessions.queued_rise;
  live = form.sessions.live;
  placed = form.sessions.placed;
  jobs = form.jobs.in_order;
}

-- a state that a hub gives has its lines
pub state-has-lines : (policy : Option FailedLoginsPolicy) (x : HubState) → IsForm x → AreMadeBy policy x.records → FitsState x → AreStateLines x (walk x)
state-has-lines policy x form made fits = walk-has x (form-in-order policy x form made) (walk-fits x form fits)
