-- How a script goes on from a state.
use Rattle.std.proofs.Common.{◌≡◌, ◌⊎◌, inl, inr, ℕ, ◌+◌, ◌-◌, ◌^◌, Bool, true, false, cond, ◌&&◌, ◌||◌, eqb, List, [], ◌∷◌, ◌++◌, length, map as each, Option, Some, None, refl, sym, ap, subst, ◌∙◌, append_assoc}
use Rattle.std.specs.List.{flat_map, list_all}
use Rattle.std.specs.Prelude.{nat_lt, option_to_list, Result, Ok, Err, OnOk, OnErr}
use Rattle.std.specs.Option.{option_map}
use Rattle.std.proofs.lemmas.Bool.{and_parts}
use Rattle.std.proofs.lemmas.List.{append-nil}
use Rattle.std.proofs.lemmas.List.Folds.{list_all-append}
use Rattle.std.proofs.lemmas.Option.{same_Some}
use Rattle.ftp_base.specs.declared.fault.Failed.{Failed}
use Rattle.ftp_base.specs.declared.fault.Failed.TheVariants.{Fault, Memory}
use Rattle.ftp_base.specs.LinkTable.{Numbered}
use Rattle.ftp_base.specs.Memory.{LinkState}
use Rattle.ftp_base.specs.Outside.{Writes}
use Rattle.ftp_control.specs.Writing.{WritesFront}
use Rattle.ftp_options.specs.declared.options.Options.{Options}
use Rattle.ftp_events.specs.declared.entry.Entry.{Entry}
use Rattle.ftp_events.specs.declared.session.Running.{Running as Runs}
use Rattle.ftp_events.specs.Acts.{link_in, slot_of}
use Rattle.ftp_events.specs.Leads.{HasLinks}
use Rattle.ftp_events.specs.Log.{past_of}
use Rattle.ftp_hub.specs.declared.state.HubState.{HubState}
use Rattle.ftp_hub.specs.declared.state.JobLine.{JobLine}
use Rattle.ftp_hub.specs.declared.state.QueuedLine.{QueuedLine}
use Rattle.ftp_hub.specs.declared.state.SessionLine.{SessionLine}
use Rattle.ftp_hub.specs.declared.state.SlotKind.{SlotKind}
use Rattle.ftp_hub.specs.declared.state.SlotKind.TheVariants as kept
use Rattle.ftp_hub.specs.declared.state.SlotLine.{SlotLine}
use Rattle.ftp_hub.specs.Runs.{is_linked}
use Rattle.ftp_hub.specs.State.{IsState, bare_session, job_line, line_of, queued_line, session_line, slot_line, told_running, with_slot, with_transfer}
use Rattle.ftp_text.specs.declared.setup.Item.{Item}
use Rattle.ftp_text.specs.declared.setup.Item.TheVariants as item
use Rattle.ftp_script_run.specs.declared.resumed.Resumed.{Resumed}
use Rattle.ftp_script_run.specs.declared.run.Run.{Run}
use Rattle.ftp_script_run.specs.declared.status.Status.{Status}
use Rattle.ftp_script_run.specs.declared.status.Status.TheVariants as status
use Rattle.ftp_script_run.specs.declared.text_script.ScriptError.TheVariants as error
use Rattle.ftp_script_run.specs.Items.{events_in}
use Rattle.ftp_script_run.specs.Outcome.{bad_line}
use Rattle.ftp_script_run.specs.Resumed.{AllGoOn, link_kept, links_named, may_go_on}
use Rattle.ftp_script_run.specs.Resuming.{Awaits, IsRefusedSo}
use Rattle.ftp_script_run.specs.SetUp.{has_event, is_event}
use Rattle.ftp_script_run.proofs.RunLemmas.{kept-numbers}
use Rattle.ftp_script_run.specs.Runs.{Keeps, MayCome}
use Rattle.ftp_script_run.specs.Script.{has_link, is_link, may_stand}
use Rattle.ftp_script_run.specs.Statuses.{ended_by}

-- ---- the links that a state names

-- what all of some have that may be one, that one has
split-option : (p : ℕ → Bool) (o : Option ℕ) (rest : List ℕ) → list_all p (option_to_list o ++ rest) ≡ true → ((n : ℕ) → o ≡ Some n → p n ≡ true) × (list_all p rest ≡ true)
split-option p None rest h = (λ n e. absurd cc, h)
split-option p (Some m) rest h =
    let parts = and_parts (p m) (list_all p rest) h in
    (λ n e. subst (λ (k : ℕ). p k ≡ true) (same_Some m n e) parts.0, parts.1)

-- what all links of lines have, the link of a line has
line-linked : {A : Type 0} (number : A → ℕ) (of : A → Option ℕ) (p : ℕ → Bool) (xs : List A) (s n : ℕ) (l : A) →
    list_all p (flat_map (λ (x : A). option_to_list (of x)) xs) ≡ true → line_of number xs s ≡ Some l → of l ≡ Some n → p n ≡ true
line-linked number of p [] s n l all here is = absurd cc
line-linked {A} number of p (x ∷ xs) s n l all here is =
    by (eqb (number x) s) here (split-option p (of x) (flat_map (λ (y : A). option_to_list (of y)) xs) all) (λ more there. line-linked number of p xs s n l more there is) where
      Rest : Type 0
      Rest = list_all p (flat_map (λ (y : A). option_to_list (of y)) xs) ≡ true

      by : (b : Bool) → cond b (Some x) (line_of number xs s) ≡ Some l → ((m : ℕ) → of x ≡ Some m → p m ≡ true) × Rest → (Rest → line_of number xs s ≡ Some l → p n ≡ true) → p n ≡ true
      by true e parts others = parts.0 n (ap of (same_Some x l e) ∙ is)
      by false e parts others = others parts.1 e

job-linked : {A : Type 0} (number link : A → ℕ) (p : ℕ → Bool) (xs : List A) (s : ℕ) (l : A) →
    list_all p (each link xs) ≡ true → line_of number xs s ≡ Some l → p (link l) ≡ true
job-linked number link p [] s l all here = absurd cc
job-linked {A} number link p (x ∷ xs) s l all here =
    by (eqb (number x) s) here (and_parts (p (link x)) (list_all p (each link xs)) all) (λ more there. job-linked number link p xs s l more there) where
      by : (b : Bool) → cond b (Some x) (line_of number xs s) ≡ Some l → (p (link x) ≡ true) × (list_all p (each link xs) ≡ true) →
          (list_all p (each link xs) ≡ true → line_of number xs s ≡ Some l → p (link l) ≡ true) → p (link l) ≡ true
      by true e parts others = subst (λ (y : A). p (link y) ≡ true) (same_Some x l e) parts.0
      by false e parts others = others parts.1 e

-- the link of a slot by its lines is that of its line
slot-by : (opened : Option SessionLine) (slot : Option SlotLine) (queued : Option QueuedLine) (n : ℕ) →
    link_in (slot_of (option_map (with_transfer queued) (option_map (with_slot slot) (option_map bare_session opened)))) ≡ Some n →
    (l : SlotLine) × (slot ≡ Some l) × (link_kept l.what ≡ Some n)
slot-by None slot queued n h = absurd cc
slot-by (Some line) None None n h = absurd cc
slot-by (Some line) None (Some q) n h = absurd cc
slot-by (Some line) (Some l) queued n h = (l, refl, by l.what queued h) where
  by : (what : SlotKind) (q : Option QueuedLine) → link_in (slot_of (option_map (with_transfer q) (option_map (with_slot (Some (record l { what = what }))) (option_map bare_session (Some line))))) ≡ Some n → link_kept what ≡ Some n
  by (kept.Waits port) None e = absurd cc
  by (kept.Waits port) (Some q) e = absurd cc
  by (kept.HasLink m) None e = e
  by (kept.HasLink m) (Some q) e = e

-- where all links are there that a state names, slots and jobs of a log that has it have their links
pub state-linked : (o : Options) (front : List Entry) (x : HubState) (links : Numbered LinkState) → IsState o front x → list_all (is_linked links) (links_named x) ≡ true → HasLinks o (past_of front) links
state-linked o front x links is all = record {
  slots = λ s n h.
      (let found = slot-by (session_line x.sessions s) (slot_line x.slots s) (queued_line x.queued s) n (ap (λ v. link_in (slot_of v)) (is.sessions s) ∙ h) in
      line-linked (λ (l : SlotLine). l.session) (λ (l : SlotLine). link_kept l.what) (is_linked links) x.slots s n found.0 parts.0 found.1 found.2);
  jobs = λ s r h. by s r (job_line x.jobs s) refl (is.jobs s ∙ h);
} where
  slot_links : List ℕ
  slot_links = flat_map (λ (l : SlotLine). option_to_list (link_kept l.what)) x.slots

  job_links : List ℕ
  job_links = each (λ (j : JobLine). j.job.number) x.jobs

  parts : (list_all (is_linked links) slot_links ≡ true) × (list_all (is_linked links) job_links ≡ true)
  parts = and_parts (list_all (is_linked links) slot_links) (list_all (is_linked links) job_links) (sym (list_all-append (is_linked links) slot_links job_links) ∙ all)

  by : (s : ℕ) (r : Runs) (line : Option JobLine) → job_line x.jobs s ≡ line → option_map told_running line ≡ Some r → is_linked links r.job.number ≡ true
  by s r None e h = absurd cc
  by s r (Some j) e h =
      subst (λ (u : Runs). is_linked links u.job.number ≡ true) (same_Some (told_running j) r h)
      (job-linked (λ (k : JobLine). k.job.ticket.session) (λ (k : JobLine). k.job.number) (is_linked links) x.jobs s j parts.1 e)

-- ---- what is awaited

all-more : (p q : ℕ → Bool) (ns : List ℕ) → ((n : ℕ) → p n ≡ true → q n ≡ true) → list_all p ns ≡ true → list_all q ns ≡ true
all-more p q [] more h = refl
all-more p q (n ∷ ns) more h =
    let parts = and_parts (p n) (list_all p ns) h in
    (λ i. more n parts.0 i && all-more p q ns more parts.1 i)

all-same : (p q : ℕ → Bool) (ns : List ℕ) → ((n : ℕ) → p n ≡ q n) → list_all p ns ≡ list_all q ns
all-same p q [] same = refl
all-same p q (n ∷ ns) same = λ i. same n i && all-same p q ns same i

link-more : (n : ℕ) (items : List Item) (i : Item) → has_link n items ≡ true → has_link n (items ++ i ∷ []) ≡ true
link-more n [] i h = absurd cc
link-more n (x ∷ items) i h = by (is_link n x) h (λ has. link-more n items i has) where
  by : (b : Bool) → (b || has_link n items) ≡ true → (has_link n items ≡ true → has_link n (items ++ i ∷ []) ≡ true) → (b || has_link n (items ++ i ∷ [])) ≡ true
  by true e others = refl
  by false e others = others e

-- an event among one more item
event-either : (items : List Item) (i : Item) → has_event (items ++ i ∷ []) ≡ true → (has_event items ≡ true) ⊎ (is_event i ≡ true)
event-either [] i has = inr (or-false (is_event i) has) where
  or-false : (b : Bool) → (b || false) ≡ true → b ≡ true
  or-false true e = refl
  or-false false e = absurd cc
event-either (x ∷ items) i has = by (is_event x) has (λ more. event-either items i more) where
  by : (b : Bool) → (b || has_event (items ++ i ∷ [])) ≡ true → (has_event (items ++ i ∷ []) ≡ true → (has_event items ≡ true) ⊎ (is_event i ≡ true)) → ((b || has_event items) ≡ true) ⊎ (is_event i ≡ true)
  by true e others = inl refl
  by false e others = others e

-- with one more item
pub awaits-more : (resumed : Resumed) (x : HubState) (items : List Item) (i : Item) → (is_event i ≡ true → resumed.links.items ≡ []) → Awaits resumed x items → Awaits resumed x (items ++ i ∷ [])
awaits-more resumed x items i event w = record { links = waits w.links; none = λ has. by (event-either items i has) } where
  waits : (resumed.links.items ≡ links_named x) ⊎ ((resumed.links.items ≡ []) × (list_all (λ n. has_link n items) (links_named x) ≡ true)) →
      (resumed.links.items ≡ links_named x) ⊎ ((resumed.links.items ≡ []) × (list_all (λ n. has_link n (items ++ i ∷ [])) (links_named x) ≡ true))
  waits (inl same) = inl same
  waits (inr all) = inr (all.0, all-more (λ n. has_link n items) (λ n. has_link n (items ++ i ∷ [])) (links_named x) (λ n h. link-more n items i h) all.1)

  by : (has_event items ≡ true) ⊎ (is_event i ≡ true) → resumed.links.items ≡ []
  by (inl has) = w.none has
  by (inr is) = event is

-- before the first item all are waited for
pub awaits-all : (resumed : Resumed) (x : HubState) → resumed.links.items ≡ links_named x → Awaits resumed x []
awaits-all resumed x is = record { links = inl is; none = λ has. absurd cc }

-- none is waited for
pub awaits-none : (resumed : Resumed) (x : HubState) (items : List Item) → resumed.links.items ≡ [] → list_all (λ n. has_link n items) (links_named x) ≡ true → Awaits resumed x items
awaits-none resumed x items is all = record { links = inr (is, all); none = λ has. is }

-- a run has the links that are waited for exactly where each link that the state names has its line
pub awaits-linked : (resumed : Resumed) (o : Options) (x : HubState) (run : Run) (items : List Item) (log : List Entry) → Keeps (Some (o, x)) run items log → Awaits resumed x items →
    list_all (λ n. is_linked run.links n) resumed.links.items ≡ list_all (λ n. has_link n items) (links_named x)
awaits-linked resumed o x run items log kept w = by w.links (has_event items) refl where
  by : (resumed.links.items ≡ links_named x) ⊎ ((resumed.links.items ≡ []) × (list_all (λ n. has_link n items) (links_named x) ≡ true)) → (b : Bool) → has_event items ≡ b →
      list_all (λ n. is_linked run.links n) resumed.links.items ≡ list_all (λ n. has_link n items) (links_named x)
  by (inr all) b e = ap (list_all (λ n. is_linked run.links n)) all.0 ∙ sym all.1
  by (inl same) true e =
      ap (list_all (λ n. is_linked run.links n)) (w.none e) ∙ ap (list_all (λ n. has_link n items)) (sym (w.none e) ∙ same)
  by (inl same) false e =
      ap (list_all (λ n. is_linked run.links n)) same
      ∙ all-same (λ n. is_linked run.links n) (λ n. has_link n items) (links_named x) (λ n. kept-numbers (Some (o, x)) run items log n kept e)

-- ---- the items of the script

pub goes-on-more : (x : HubState) (before items : List Item) (i : Item) → AllGoOn x before items → may_go_on x (before ++ items) i ≡ true → AllGoOn x before (items ++ i ∷ [])
goes-on-more x before [] i all may = (subst (λ (front : List Item). may_go_on x front i ≡ true) (append-nil before) may, tt)
goes-on-more x before (j ∷ items) i all may =
    (all.0, goes-on-more x (before ++ j ∷ []) items i all.1 (subst (λ (front : List Item). may_go_on x front i ≡ true) (sym (append_assoc before (j ∷ []) items)) may))

-- an item that goes on may come
pub comes : {o : Options} {x : HubState} {run : Run} {items : List Item} {log : List Entry} (i : Item) → Keeps (Some (o, x)) run items log → may_stand items i ≡ true → may_go_on x items i ≡ true → MayCome (Some (o, x)) run items i
comes item.Skip kept stands may = record { stands = stands; goes_on = tt }
comes (item.Options mode lo hi host active idle lockout restart) kept stands may = absurd cc
comes (item.Storage max fails) kept stands may = record { stands = stands; goes_on = tt }
comes (item.Dir path) kept stands may = record { stands = stands; goes_on = tt }
comes (item.File bytes path) kept stands may = record { stands = stands; goes_on = tt }
comes (item.Quota default) kept stands may = record { stands = stands; goes_on = tt }
comes (item.Budget bytes user) kept stands may = record { stands = stands; goes_on = tt }
comes (item.Link n chunk fails bytes) kept stands may = record { stands = stands; goes_on = tt }
comes {o} {x} {run} {items} (item.Event e) kept stands may = record {
  stands = stands;
  goes_on = λ front has. state-linked o front x run.links has.state
      (all-more (λ n. has_link n items) (is_linked run.links) (links_named x) kept.links
      (and_parts (list_all (λ n. has_link n items) (links_named x)) (nat_lt (x.events + length (events_in items)) (2 ^ 64 - 1)) may).0);
}

-- ---- a bad line

pub named-by : (k : ℕ) (last : Result Unit Failed) (s : Status) (old new : Option (List ℕ)) → s ≡ ended_by last (status.BadLine k) →
    OnOk last (Writes old new (bad_line k)) → OnErr last (WritesFront old new (bad_line k)) → IsRefusedSo (error.BadLine k) s old new
named-by k (Ok x) s old new is wrote front = inl (is, wrote)
named-by k (Err Fault) s old new is wrote front = inr (inl is, front)
named-by k (Err Memory) s old new is wrote front = inr (inr is, front)
