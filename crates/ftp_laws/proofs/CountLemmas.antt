-- How many of the actions of an entry pass a test on transfers.
use Rattle.std.proofs.Common.{◌≡◌, refl, sym, ◌∙◌, ap, ℕ, ◌+◌, ◌≤◌, ◌||◌, inl, inr, Bool, true, false, cond, List, [], ◌∷◌, ◌++◌, Option, Some, None, arith}
use Rattle.std.specs.Prelude.{◌⊎◌, count_by, unwrap_or}
use Rattle.std.specs.Option.{option_map_or, option_and_then}
use Rattle.std.proofs.lemmas.List.Sums.{sum_by-append, sum_by-cons}
use Rattle.std.specs.List.{list_any}
use Rattle.ftp_base.specs.declared.message.ControlChanMsg.{ControlChanMsg}
use Rattle.ftp_base.specs.declared.notice.EventMeta.{EventMeta}
use Rattle.ftp_base.specs.declared.notice.Notice.{Notice}
use Rattle.ftp_base.specs.declared.reply.Reply.{Reply}
use Rattle.ftp_base.specs.declared.reply.Reply.TheVariants as reply
use Rattle.ftp_events.specs.declared.action.Action.TheVariants as action
use Rattle.ftp_events.specs.declared.decision.Decision.TheVariants as decision
use Rattle.ftp_events.specs.Login.{login_by, logged_user}
use Rattle.ftp_events.specs.Reply.{message_for, reply_for, delay_of}
use Rattle.ftp_events.specs.Acts.{session_acts, cancelled, cuttings, notice_and_reply, notifications, notice_for, presence_for, reply_acts, farewells}
use Rattle.ftp_events.specs.History.{Nobody, One}
use Rattle.ftp_laws.proofs.Common.{subject_acts, is_ending, Options, Running, Ticket, Action, Decision, Entry, EventKind, Answer, Pending, Session, Slot, is_refusal, new_number, subject, drops, session, running_job, acts_of, acts_for, completions, cancellations, closings, job_ticket, link_in, stays, drop_acts, slot_of, pending_in, refused_link, start_acts, starting}
use Rattle.ftp_laws.proofs.Cases.{by_completion}

-- of what is done for session s, the test passes nothing but what becomes of transfers
pub record IsOnTransfers (s : ℕ) (p : Action → Bool) : Type 0 where
  pub closes : (n : ℕ) → p (action.Close n) ≡ false
  pub notifies : (meta : EventMeta) (what : Notice) → p (action.Notify s meta what) ≡ false
  pub replies : (delay : ℕ) (r : Reply) → p (action.Reply s delay r) ≡ false

-- two lists have as many as both together
pub count-append :
    (p : Action → Bool) (xs ys : List Action) →
    count_by p (xs ++ ys) ≡ count_by p xs + count_by p ys
count-append p xs ys = sum_by-append (λ x. cond (p x) 1 0) xs ys

-- a link that is closed does not count
pub count-closings :
    (p : Action → Bool) (link : Option ℕ) → ((n : ℕ) → p (action.Close n) ≡ false) →
    count_by p (closings link) ≡ 0
count-closings p None closes = refl
count-closings p (Some n) closes = rw (closes n) refl

-- of a transfer that is cancelled and told nothing but the cancellation counts
pub count-cancelled :
    (p : Action → Bool) (s : ℕ) (staying : Bool) (t : Ticket) → IsOnTransfers s p →
    count_by p (cancelled s staying t) ≡ cond (p (action.Cancelled t)) 1 0
count-cancelled p s true t on = rw (on.replies 0 _) (omega arith)
count-cancelled p s false t on = omega arith

-- so it is of one that is cut
pub count-cuttings :
    (p : Action → Bool) (s : ℕ) (staying : Bool) (r : Running) → IsOnTransfers s p →
    count_by p (cuttings s staying (Some r)) ≡ cond (p (action.Cancelled r.job.ticket)) 1 0
count-cuttings p s staying r on =
    omega (
      arith,
      count-append p (cancelled s staying r.job.ticket) (closings (Some r.job.number)),
      count-cancelled p s staying r.job.ticket on,
      count-closings p (Some r.job.number) on.closes,
    )

-- nor a job that has ended, where no completed transfer counts and no one that is cut
pub count-completions :
    (p : Action → Bool) (s : ℕ) (k : EventKind) (d : Decision) (delivered : Bool) (job : Option Running) →
    IsOnTransfers s p →
    ((t : Ticket) → job_ticket k ≡ Some t → p (action.Completed t delivered) ≡ false) →
    ((r : Running) → job ≡ Some r → d ≡ decision.Cut → p (action.Cancelled r.job.ticket) ≡ false) →
    count_by p (completions s k d delivered job) ≡ 0
count-completions p s k d delivered job on h cut =
    by_completion (λ xs. count_by p xs ≡ 0) s k d delivered job refl (λ t x y. rw (h t x) refl)
    (λ r x y. count-cuttings p s delivered r on ∙ ap (λ b. cond b 1 0) (cut r x y))

-- nor does what a session loses with its slot, where no cancelled transfer counts
pub count-drop_acts :
    (p : Action → Bool) (s : ℕ) (staying : Bool) (d : Decision) (slot : Slot) (pending : Option Pending) →
    IsOnTransfers s p →
    ((t : Ticket) → p (action.Cancelled t) ≡ false) →
    count_by p (drop_acts s staying d slot pending) ≡ 0
count-drop_acts p s staying d slot pending t c = go (drops d slot)
  where
    cancelled :
        (b : Bool) (pending : Option Pending) →
        count_by p (cancellations s b pending) ≡ 0
    cancelled b None = refl
    cancelled true (Some x) = rw (c x.ticket, t.replies 0 _) refl
    cancelled false (Some x) = rw (c x.ticket) refl

    go :
        (b : Bool) →
        count_by p (cond b (cancellations s staying pending ++ closings (link_in slot)) []) ≡ 0
    go true =
        omega (arith, count-append p (cancellations s staying pending) (closings (link_in slot)), cancelled staying pending, count-closings p (link_in slot) t.closes)
    go false = refl

-- nor does a connection that is closed as soon as it came
pub count-refused_link :
    (p : Action → Bool) (k : EventKind) (d : Decision) →
    ((n : ℕ) → p (action.Close n) ≡ false) → count_by p (refused_link k d) ≡ 0
count-refused_link p k decision.Turned closes = count-closings p (new_number k decision.Turned) closes
count-refused_link p k (decision.HeaderFault fault) closes = count-closings p (new_number k (decision.HeaderFault fault)) closes
count-refused_link p k d closes = refl

-- nor a notification
pub count-notifications :
    (p : Action → Bool) (s : ℕ) (v : Session) (user : List ℕ) (what : Option Notice) →
    IsOnTransfers s p →
    count_by p (notifications s v user what) ≡ 0
count-notifications p s v user None t = refl
count-notifications p s v user (Some what) t = rw (t.notifies _ what) refl

-- nor a reply
pub count-reply_acts :
    (p : Action → Bool) (s delay : ℕ) (r : Reply) →
    IsOnTransfers s p → count_by p (reply_acts s delay r) ≡ 0
count-reply_acts p s delay reply.None t = refl
count-reply_acts p s delay (reply.CodeAndMsg c msg) t = rw (t.replies delay (reply.CodeAndMsg c msg)) refl

-- so what a live session is told does not
pub count-told :
    (p : Action → Bool) (o : Options) (s : ℕ) (k : EventKind) (answer : Answer) (d : Decision) (job : Option Running) (v : Option Session) →
    IsOnTransfers s p →
    count_by p (option_map_or (notice_and_reply o s k answer d job) v []) ≡ 0
count-told p o s k answer d job None t = refl
count-told p o s k answer d job (Some v) t =
    let m : Option ControlChanMsg = message_for v job k answer d in
    let user : List ℕ = logged_user (unwrap_or (login_by d) v.login) v.name in
    let what : Option Notice = notice_for m (presence_for d) in
    omega (arith, count-append p (notifications s v user what) (reply_acts s (delay_of d) (reply_for o v m k d)), count-notifications p s v user what t, count-reply_acts p s (delay_of d) (reply_for o v m k d) t)

-- nor a connection that is closed at the end
pub count-farewells :
    (p : Action → Bool) (s : ℕ) (d : Decision) →
    IsOnTransfers s p → count_by p (farewells s d) ≡ 0
count-farewells p s d t = go (is_ending d)
  where
    go : (b : Bool) → count_by p (cond b (action.Close s ∷ []) []) ≡ 0
    go true = rw (t.closes s) refl
    go false = refl

-- what counts is that transfers end, are dropped, and start
pub count-session_acts :
    (p : Action → Bool) (o : Options) (s : ℕ) (k : EventKind) (answer : Answer) (d : Decision) (job : Option Running) (v : Option Session) →
    IsOnTransfers s p →
    count_by p (session_acts o s k answer d job v) ≡ count_by p (completions s k d (stays d v) job) + count_by p (drop_acts s (stays d v) d (slot_of v) (pending_in v)) + count_by p (start_acts (option_and_then (starting k d job) v))
count-session_acts p o s k answer d job v t =
    let a : List Action = completions s k d (stays d v) job in
    let b : List Action = drop_acts s (stays d v) d (slot_of v) (pending_in v) in
    let c : List Action = refused_link k d in
    let told : List Action = option_map_or (notice_and_reply o s k answer d job) v [] in
    let f : List Action = start_acts (option_and_then (starting k d job) v) in
    omega (
      arith,
      count-append p (a ++ b ++ c ++ told ++ f) (farewells s d),
      count-append p (a ++ b ++ c ++ told) f,
      count-append p (a ++ b ++ c) told,
      count-append p (a ++ b) c,
      count-append p a b,
      count-refused_link p k d t.closes,
      count-told p o s k answer d job v t,
      count-farewells p s d t,
    )

-- how many of an entry's actions count, where it is about a session
pub count-about :
    (p : Action → Bool) (o : Options) (past : List Entry) (e : Entry) (s : ℕ) →
    IsOnTransfers s p → is_refusal e.decision ≡ false →
    e.actions ≡ acts_of o past e →
    subject o past e ≡ One s →
    count_by p e.actions ≡ count_by p (completions s e.event.kind e.decision (stays e.decision (session o past s)) (running_job o past s)) + count_by p (drop_acts s (stays e.decision (session o past s)) e.decision (slot_of (session o past s)) (pending_in (session o past s))) + count_by p (start_acts (option_and_then (starting e.event.kind e.decision (running_job o past s)) (session o past s)))
count-about p o past e s t counts acted about =
    let done : e.actions ≡ acts_for o past e s = acted ∙ rw (counts, about) refl in
    ap (count_by p) done ∙ count-session_acts p o s e.event.kind e.answer e.decision (running_job o past s) (session o past s) t

-- none do where it is about nobody
pub count-nobody :
    (p : Action → Bool) (o : Options) (past : List Entry) (e : Entry) →
    ((n : ℕ) → p (action.Close n) ≡ false) → e.actions ≡ acts_of o past e →
    subject o past e ≡ Nobody → count_by p e.actions ≡ 0
count-nobody p o past e closes acted about = ap (count_by p) acted ∙ go (is_refusal e.decision)
  where
    go :
        (b : Bool) →
        count_by p (cond b [] (subject_acts o past e (subject o past e))) ≡ 0
    go true = refl
    go false = rw about (count-refused_link p e.event.kind e.decision closes)

-- the test passes that transfers start, and nothing else
pub record IsOnStarts (p : Action → Bool) : Type 0 where
  pub plain : (s : ℕ) → IsOnTransfers s p
  pub completed : (t : Ticket) (delivered : Bool) → p (action.Completed t delivered) ≡ false
  pub cancelled : (t : Ticket) → p (action.Cancelled t) ≡ false

-- the job that an entry starts for session s
abbrev pub started_in : Options → List Entry → Entry → ℕ → Option Running
started_in o past e s = option_and_then (starting e.event.kind e.decision (running_job o past s)) (session o past s)

-- then what counts of an entry about a session is the job that starts
pub count-starts :
    (p : Action → Bool) (o : Options) (past : List Entry) (e : Entry) (s : ℕ) →
    IsOnStarts p → is_refusal e.decision ≡ false →
    e.actions ≡ acts_of o past e →
    subject o past e ≡ One s →
    count_by p e.actions ≡ count_by p (start_acts (started_in o past e s))
count-starts p o past e s on counts acted about =
    let v : Option Session = session o past s in
    omega (
      arith,
      count-about p o past e s (on.plain s) counts acted about,
      count-completions p s e.event.kind e.decision (stays e.decision v) (running_job o past s) (on.plain s) (λ t x. on.completed t (stays e.decision v)) (λ r x y. on.cancelled r.job.ticket),
      count-drop_acts p s (stays e.decision v) e.decision (slot_of v) (pending_in v) (on.plain s) on.cancelled,
    )

-- a count goes with a test: nothing is counted where it fails, and something where it holds
abbrev pub CountsTest : ℕ → Bool → Type 0
CountsTest n b = ((n ≡ 0) × (b ≡ false)) ⊎ ((1 ≤ n) × (b ≡ true))

-- one for what holds
pub counts-one : (b : Bool) → CountsTest (cond b 1 0) b
counts-one true = inr (omega arith, refl)
counts-one false = inl (refl, refl)

-- a sum goes with either test
pub counts-or :
    (k m n : ℕ) (a b : Bool) → k ≡ m + n →
    CountsTest m a → CountsTest n b → CountsTest k (a || b)
counts-or k m n a b e (inl x) (inl y) = inl (omega (arith, e, x.0, y.0), rw (x.1, y.1) refl)
counts-or k m n a b e (inl x) (inr y) = inr (omega (arith, e, y.0), rw (x.1, y.1) refl)
counts-or k m n a b e (inr x) y = inr (omega (arith, e, x.0), rw x.1 refl)

-- the tests of one count are the same
pub counts-same : (n : ℕ) (a b : Bool) → CountsTest n a → CountsTest n b → a ≡ b
counts-same n a b (inl x) (inl y) = x.1 ∙ sym y.1
counts-same n a b (inl x) (inr y) = absurd (omega (arith, x.0, y.0))
counts-same n a b (inr x) (inl y) = absurd (omega (arith, x.0, y.0))
counts-same n a b (inr x) (inr y) = x.1 ∙ sym y.1

-- how many actions pass a test goes with whether one does
pub counts-any : (p : Action → Bool) (xs : List Action) → CountsTest (count_by p xs) (list_any p xs)
counts-any p [] = inl (refl, refl)
counts-any p (x ∷ xs) =
    counts-or (count_by p (x ∷ xs)) (cond (p x) 1 0) (count_by p xs) (p x) (list_any p xs) (sum_by-cons (λ y. cond (p y) 1 0) x xs) (counts-one (p x)) (counts-any p xs)
