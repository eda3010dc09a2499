-- The directories and paths of a state that some right log has begin with a slash.
use Rattle.std.proofs.Common.{◌≡◌, ℕ, ◌<◌, Bool, true, false, cond, eqb, List, [], ◌∷◌, ◌++◌, map, Option, Some, None, refl, sym, ap, subst, ◌∙◌}
use Rattle.std.specs.Prelude.{is_some}
use Rattle.std.proofs.Common.{inl, inr}
use Rattle.std.specs.List.{AllByRecursion}
use Rattle.std.specs.Option.{option_map}
use Rattle.std.specs.Str.{bytes_eq}
use Rattle.std.proofs.lemmas.Option.{same_Some}
use Rattle.ftp_base.specs.declared.command.DataChanCmd.{DataChanCmd}
use Rattle.ftp_base.specs.declared.command.DataChanCmd.TheVariants as command
use Rattle.ftp_options.specs.declared.options.Options.{Options}
use Rattle.ftp_transfer.specs.Path.{join_path}
use Rattle.ftp_events.specs.declared.decision.Decision.{Decision}
use Rattle.ftp_events.specs.declared.decision.Decision.TheVariants as decision
use Rattle.ftp_events.specs.declared.entry.Entry.{Entry}
use Rattle.ftp_events.specs.declared.event.EventKind.{EventKind}
use Rattle.ftp_events.specs.declared.event.EventKind.TheVariants as kind
use Rattle.ftp_events.specs.declared.session.Opening.{Opening}
use Rattle.ftp_events.specs.declared.session.Pending.{Pending}
use Rattle.ftp_events.specs.declared.session.Session.{Session}
use Rattle.ftp_events.specs.Log.{past_of}
use Rattle.ftp_events.specs.Place.{cwd_after, cwd}
use Rattle.ftp_events.specs.Right.{IsRight}
use Rattle.ftp_events.specs.Acts.{pending_in}
use Rattle.ftp_events.specs.History.{history}
use Rattle.ftp_events.specs.Opening.{opener}
use Rattle.ftp_events.specs.Session.{is_live, running_job, session, session_by_history}
use Rattle.ftp_events.specs.Transfer.{listed_path, command_path}
use Rattle.ftp_laws.specs.Census.{IsAscending}
use Rattle.ftp_laws.specs.Transfers.{WasQueuedSo, transfer_of}
use Rattle.ftp_laws.proofs.TransferLemmas.{waiting-queued, running-queued}
use Rattle.ftp_hub.specs.declared.state.HubState.{HubState}
use Rattle.ftp_hub.specs.declared.state.JobLine.{JobLine}
use Rattle.ftp_hub.specs.declared.state.QueuedLine.{QueuedLine}
use Rattle.ftp_hub.specs.declared.state.SessionLine.{SessionLine}
use Rattle.ftp_hub.specs.declared.state.SlotLine.{SlotLine}
use Rattle.ftp_hub.specs.State.{IsState, bare_session, job_line, line_of, queued_line, session_in, session_line, slot_line, told_running, with_slot, with_transfer}
use Rattle.ftp_text.specs.Spelling.{is_from_root}
use Rattle.ftp_text.specs.ListOrder.{AreFromRoot, AreListsInOrder}
use Rattle.ftp_text.proofs.Within.{eqb-same, eqb-less, line-above}

-- ---- paths

-- the path begins with a slash
abbrev Rooted : List ℕ → Type 0
Rooted path = is_from_root path ≡ true

slashed : (c : ℕ) (dir arg : List ℕ) (t : Bool) → Rooted (c ∷ dir) → Rooted (cond t (c ∷ dir) ((c ∷ dir) ++ 47 ∷ []) ++ arg)
slashed c dir arg true h = h
slashed c dir arg false h = h

chosen : (b : Bool) (x y : List ℕ) → (b ≡ true → Rooted x) → (b ≡ false → Rooted y) → Rooted (cond b x y)
chosen true x y f g = f refl
chosen false x y f g = g refl

join-rooted : (dir arg : List ℕ) → Rooted dir → Rooted (join_path dir arg)
join-rooted [] arg h = absurd cc
join-rooted (c ∷ dir) [] h = slashed c dir [] _ h
join-rooted (c ∷ dir) (a ∷ arg) h = chosen (eqb a 47) (a ∷ arg) _ (λ e. e) (λ e. slashed c dir (a ∷ arg) _ h)

listed-rooted : (dir : List ℕ) (path : Option (List ℕ)) → Rooted dir → Rooted (listed_path dir path)
listed-rooted dir None h = h
listed-rooted dir (Some path) h = chosen (bytes_eq path (46 ∷ [])) dir (join_path dir path) (λ e. h) (λ e. join-rooted dir path h)

command-rooted : (dir : List ℕ) (c : DataChanCmd) → Rooted dir → Rooted (command_path dir c)
command-rooted dir (command.Retr path) h = join-rooted dir path h
command-rooted dir (command.Stor path) h = join-rooted dir path h
command-rooted dir (command.Appe path) h = join-rooted dir path h
command-rooted dir (command.List options path) h = listed-rooted dir path h
command-rooted dir (command.Nlst path) h = listed-rooted dir path h
command-rooted dir (command.Mlsd path) h = listed-rooted dir path h

-- ---- sessions and transfers of a log

after-rooted : (d : Decision) (k : EventKind) (dir : List ℕ) → Rooted dir → Rooted (cwd_after d k dir)
after-rooted decision.CwdOk (kind.Cwd s path refusal) dir h = join-rooted dir path h
after-rooted d k dir h = h

cwd-rooted : (h : List Entry) → Rooted (cwd h)
cwd-rooted [] = refl
cwd-rooted (e ∷ h) = after-rooted e.decision e.event.kind (cwd h) (cwd-rooted h)

from-history : (s : ℕ) (h : List Entry) (b : Bool) (opener : Option Opening) (v : Session) → cond b (option_map (session_by_history s h) opener) None ≡ Some v → Rooted v.cwd
from-history s h true (Some opening) v e = subst (λ (u : Session). Rooted u.cwd) (same_Some _ _ e) (cwd-rooted h)
from-history s h true None v e = absurd cc
from-history s h false opener v e = absurd cc

-- the directory of a live session
session-rooted : (o : Options) (past : List Entry) (s : ℕ) (v : Session) → session o past s ≡ Some v → Rooted v.cwd
session-rooted o past s v e = from-history s (history o past s) (is_live (history o past s)) (opener past s) v e

-- the path of a transfer that was queued
queued-rooted : (o : Options) (past : List Entry) (p : Pending) → WasQueuedSo o past p → Rooted p.path
queued-rooted o [] p was = absurd was
queued-rooted o (e ∷ past) p (inl is) =
    subst Rooted (sym is.path) (command-rooted is.session_then.cwd p.command (session-rooted o past p.ticket.session is.session_then is.live))
queued-rooted o (e ∷ past) p (inr was) = queued-rooted o past p was

-- ---- lines of a state

line-first-is : {A : Type 0} (f : A → ℕ) (x : A) (xs : List A) → line_of f (x ∷ xs) (f x) ≡ Some x
line-first-is f x xs = ap (λ (b : Bool). cond b (Some x) (line_of f xs (f x))) (eqb-same (f x))

line-later-is : {A : Type 0} (f : A → ℕ) (x y : A) (xs : List A) → AllByRecursion (λ (m : ℕ). f x < m) (map f xs) → line_of f xs (f y) ≡ Some y → line_of f (x ∷ xs) (f y) ≡ Some y
line-later-is f x y xs above is =
    let lt : f x < f y = line-above f (f x) xs (f y) above (ap is_some is) in
    ap (λ (b : Bool). cond b (Some x) (line_of f xs (f y))) (eqb-less (f x) (f y) lt) ∙ is

-- what holds of the line of each number holds of all lines that rise
all-lines : {A : Type 0} (f : A → ℕ) (P : A → Type 0) (xs : List A) → IsAscending (map f xs) → ((x : A) → line_of f xs (f x) ≡ Some x → P x) → AllByRecursion P xs
all-lines f P [] up each = tt
all-lines f P (x ∷ xs) up each =
    (each x (line-first-is f x xs), all-lines f P xs up.1 (λ y is. each y (line-later-is f x y xs up.0 is)))

-- a session by its lines has the directory of its line
by-lines : (line : SessionLine) (slot : Option SlotLine) (queued : Option QueuedLine) → (v : Session) × (option_map (with_transfer queued) (option_map (with_slot slot) (option_map bare_session (Some line))) ≡ Some v) × (v.cwd ≡ line.cwd)
by-lines line None None = (_, refl, refl)
by-lines line None (Some q) = (_, refl, refl)
by-lines line (Some l) None = (_, refl, refl)
by-lines line (Some l) (Some q) = (_, refl, refl)

sessions-rooted : (o : Options) (log : List Entry) (x : HubState) → IsState o log x → (line : SessionLine) → session_line x.sessions line.session ≡ Some line → Rooted line.cwd
sessions-rooted o log x is line here =
    let b = by-lines line (slot_line x.slots line.session) (queued_line x.queued line.session) in
    let there : session_in x line.session ≡ Some b.0 =
    ap (λ (l : Option SessionLine). option_map (with_transfer (queued_line x.queued line.session)) (option_map (with_slot (slot_line x.slots line.session)) (option_map bare_session l))) here ∙ b.1 in
    subst Rooted b.2 (session-rooted o (past_of log) line.session b.0 (sym (is.sessions line.session) ∙ there))

-- a transfer by its line has the path of its line
pending-by : (line : SessionLine) (slot : Option SlotLine) (q : QueuedLine) → (p : Pending) × (pending_in (option_map (with_transfer (Some q)) (option_map (with_slot slot) (option_map bare_session (Some line)))) ≡ Some p) × (p.path ≡ q.path)
pending-by line None q = (_, refl, refl)
pending-by line (Some l) q = (_, refl, refl)

transfers-rooted : (o : Options) (log : List Entry) (x : HubState) → IsRight o log → IsState o log x → (q : QueuedLine) → queued_line x.queued q.session ≡ Some q → (line : SessionLine) → session_line x.sessions q.session ≡ Some line → Rooted q.path
transfers-rooted o log x right is q here line there =
    let p = pending-by line (slot_line x.slots q.session) q in
    let waits : pending_in (session_in x q.session) ≡ Some p.0 =
    (λ i. pending_in (option_map (with_transfer (here i)) (option_map (with_slot (slot_line x.slots q.session)) (option_map bare_session (there i))))) ∙ p.1 in
    let known = waiting-queued o log q.session p.0 right (ap pending_in (sym (is.sessions q.session)) ∙ waits) in
    subst Rooted p.2 (queued-rooted o (past_of log) p.0 known.1)

jobs-rooted : (o : Options) (log : List Entry) (x : HubState) → IsRight o log → IsState o log x → (j : JobLine) → job_line x.jobs j.job.ticket.session ≡ Some j → Rooted j.job.path
jobs-rooted o log x right is j here =
    let runs : running_job o (past_of log) j.job.ticket.session ≡ Some (told_running j) = sym (is.jobs j.job.ticket.session) ∙ ap (option_map told_running) here in
    let known = running-queued o log j.job.ticket.session (told_running j) right runs in
    queued-rooted o (past_of log) (transfer_of j.job) known.1

some-line : {A : Type 0} (o : Option A) → is_some o ≡ true → (x : A) × (o ≡ Some x)
some-line (Some x) h = (x, refl)
some-line None h = absurd cc

pub states-rooted : (o : Options) (log : List Entry) (x : HubState) → IsRight o log → IsState o log x → AreListsInOrder x → AreFromRoot x
states-rooted o log x right is order = record {
  sessions = all-lines (λ (l : SessionLine). l.session) (λ (l : SessionLine). Rooted l.cwd) x.sessions order.sessions (sessions-rooted o log x is);
  queued =
      all-lines (λ (q : QueuedLine). q.session) (λ (q : QueuedLine). Rooted q.path) x.queued order.queued (λ q here.
      let slot = order.placed q.session (ap is_some here) in
      let line = some-line (session_line x.sessions q.session) (order.live q.session slot) in
      transfers-rooted o log x right is q here line.0 line.1);
  jobs = all-lines (λ (j : JobLine). j.job.ticket.session) (λ (j : JobLine). Rooted j.job.path) x.jobs order.jobs (jobs-rooted o log x right is);
}
