-- What is taken out of the actions of an event, where nothing is taken of what is cancelled, closed or replied.
use Rattle.std.proofs.Common.{◌≡◌, refl, ◌∙◌, ℕ, Bool, true, false, cond, List, [], ◌∷◌, ◌++◌, Option, Some, None, append-nil}
use Rattle.std.specs.Prelude.{filter_map, unwrap_or}
use Rattle.std.specs.Option.{option_map_or, option_and_then}
use Rattle.std.proofs.lemmas.List.Elements.{filter_map-append}
use Rattle.ftp_base.specs.declared.notice.Notice.{Notice}
use Rattle.ftp_base.specs.declared.reply.Reply.{Reply}
use Rattle.ftp_base.specs.declared.reply.Reply.TheVariants as reply
use Rattle.ftp_events.specs.declared.action.Action.TheVariants as action
use Rattle.ftp_events.specs.declared.decision.Decision.TheVariants as decision
use Rattle.ftp_events.specs.Acts.{cancelled, cuttings, farewells, notice_and_reply, notice_for, notifications, presence_for, reply_acts, session_acts}
use Rattle.ftp_events.specs.Login.{login_by, logged_user}
use Rattle.ftp_events.specs.Reply.{delay_of, message_for, reply_for}
use Rattle.ftp_laws.proofs.Common.{Options, Running, Ticket, Action, Answer, Decision, EventKind, Pending, Session, Slot, cancellations, closings, completions, drop_acts, drops, is_ending, link_in, new_number, pending_in, refused_link, slot_of, start_acts, starting, stays}
use Rattle.ftp_laws.proofs.Cases.{by_completion}

-- nothing is taken of what is cancelled, closed or replied
pub record IsQuiet {B : Type 0} (tells : Action → Option B) : Type 0 where
  pub cancels : (t : Ticket) → tells (action.Cancelled t) ≡ None
  pub closes : (n : ℕ) → tells (action.Close n) ≡ None
  pub replies : (s delay : ℕ) (r : Reply) → tells (action.Reply s delay r) ≡ None

-- the user of a session that is live before an event, in what the event notifies
abbrev pub user_then : Decision → Session → List ℕ
user_then d v = logged_user (unwrap_or (login_by d) v.login) v.name

-- what an event and its decision notify of a session
abbrev pub notified : EventKind → Answer → Decision → Option Running → Session → Option Notice
notified k answer d job v = notice_for (message_for v job k answer d) (presence_for d)

-- the notification of a session that is live
abbrev pub notify_acts : ℕ → EventKind → Answer → Decision → Option Running → Option Session → List Action
notify_acts s k answer d job v = option_map_or (λ v. notifications s v (user_then d v) (notified k answer d job v)) v []

module _ {B : Type 0} {tells : Action → Option B} (q : IsQuiet tells) where
  taken-closings : (link : Option ℕ) → filter_map tells (closings link) ≡ []
  taken-closings None = refl
  taken-closings (Some n) = rw (q.closes n) refl

  taken-cancelled : (s : ℕ) (staying : Bool) (t : Ticket) → filter_map tells (cancelled s staying t) ≡ []
  taken-cancelled s true t = rw (q.cancels t, q.replies s 0 _) refl
  taken-cancelled s false t = rw (q.cancels t) refl

  -- nothing is taken of a transfer that is cut
  pub taken-cuttings : (s : ℕ) (staying : Bool) (r : Running) → filter_map tells (cuttings s staying (Some r)) ≡ []
  taken-cuttings s staying r =
      filter_map-append tells (cancelled s staying r.job.ticket) (closings (Some r.job.number))
      ∙ rw (taken-cancelled s staying r.job.ticket, taken-closings (Some r.job.number)) refl

  -- nor of what a session loses with its slot
  taken-drop_acts : (s : ℕ) (staying : Bool) (d : Decision) (slot : Slot) (pending : Option Pending) → filter_map tells (drop_acts s staying d slot pending) ≡ []
  taken-drop_acts s staying d slot pending = go (drops d slot) pending
    where
      go : (b : Bool) (pending : Option Pending) → filter_map tells (cond b (cancellations s staying pending ++ closings (link_in slot)) []) ≡ []
      go false pending = refl
      go true None = taken-closings (link_in slot)
      go true (Some p) =
          filter_map-append tells (cancelled s staying p.ticket) (closings (link_in slot))
          ∙ rw (taken-cancelled s staying p.ticket, taken-closings (link_in slot)) refl

  -- nor of a connection that is closed as soon as it came
  pub taken-refused_link : (k : EventKind) (d : Decision) → filter_map tells (refused_link k d) ≡ []
  taken-refused_link k decision.Turned = taken-closings (new_number k decision.Turned)
  taken-refused_link k (decision.HeaderFault fault) = taken-closings (new_number k (decision.HeaderFault fault))
  taken-refused_link k d = refl

  taken-farewells : (s : ℕ) (d : Decision) → filter_map tells (farewells s d) ≡ []
  taken-farewells s d = go (is_ending d)
    where
      go : (b : Bool) → filter_map tells (cond b (action.Close s ∷ []) []) ≡ []
      go true = rw (q.closes s) refl
      go false = refl

  taken-reply_acts : (s delay : ℕ) (r : Reply) → filter_map tells (reply_acts s delay r) ≡ []
  taken-reply_acts s delay reply.None = refl
  taken-reply_acts s delay (reply.CodeAndMsg code msg) = rw (q.replies s delay (reply.CodeAndMsg code msg)) refl

  -- so what is taken of what an event does for a session is taken of its jobs and its notification
  pub taken-session_acts :
      (o : Options) (s : ℕ) (k : EventKind) (answer : Answer) (d : Decision) (job : Option Running) (v : Option Session) →
      filter_map tells (session_acts o s k answer d job v)
      ≡ filter_map tells (completions s k d (stays d v) job) ++ filter_map tells (notify_acts s k answer d job v) ++ filter_map tells (start_acts (option_and_then (starting k d job) v))
  taken-session_acts o s k answer d job v =
      rw (split, taken-drop_acts s (stays d v) d (slot_of v) (pending_in v), taken-refused_link k d, told v, taken-farewells s d)
      (shut (filter_map tells (completions s k d (stays d v) job)) (filter_map tells (notify_acts s k answer d job v)) (filter_map tells (start_acts (option_and_then (starting k d job) v))))
    where
      split : filter_map tells (session_acts o s k answer d job v) ≡ filter_map tells (completions s k d (stays d v) job) ++ filter_map tells (drop_acts s (stays d v) d (slot_of v) (pending_in v)) ++ filter_map tells (refused_link k d) ++ filter_map tells (option_map_or (notice_and_reply o s k answer d job) v []) ++ filter_map tells (start_acts (option_and_then (starting k d job) v)) ++ filter_map tells (farewells s d)
      split = simp filter_map-append

      told : (v : Option Session) → filter_map tells (option_map_or (notice_and_reply o s k answer d job) v []) ≡ filter_map tells (notify_acts s k answer d job v)
      told None = refl
      told (Some v) =
          let what : List Action = notifications s v (user_then d v) (notified k answer d job v) in
          let r : Reply = reply_for o v (message_for v job k answer d) k d in
          filter_map-append tells what (reply_acts s (delay_of d) r) ∙ rw (taken-reply_acts s (delay_of d) r) (append-nil (filter_map tells what))

      shut : (done told started : List B) → ((((done ++ []) ++ []) ++ told) ++ started) ++ [] ≡ (done ++ told) ++ started
      shut done told started = simp append-nil

  -- of its notification alone, where none is taken of a job that ends or starts
  pub taken-notified :
      ((t : Ticket) (delivered : Bool) → tells (action.Completed t delivered) ≡ None) → ((t : Ticket) (n : ℕ) → tells (action.Start t n) ≡ None) →
      (o : Options) (s : ℕ) (k : EventKind) (answer : Answer) (d : Decision) (job : Option Running) (v : Option Session) →
      filter_map tells (session_acts o s k answer d job v) ≡ filter_map tells (notify_acts s k answer d job v)
  taken-notified completes starts o s k answer d job v =
      taken-session_acts o s k answer d job v
      ∙ rw (ended, started (option_and_then (starting k d job) v)) (append-nil (filter_map tells (notify_acts s k answer d job v)))
    where
      ended : filter_map tells (completions s k d (stays d v) job) ≡ []
      ended =
          by_completion (λ xs. filter_map tells xs ≡ []) s k d (stays d v) job refl (λ t x y. rw (completes t (stays d v)) refl)
          (λ r x y. taken-cuttings s (stays d v) r)

      started : (j : Option Running) → filter_map tells (start_acts j) ≡ []
      started None = refl
      started (Some j) = rw (starts j.job.ticket j.job.number) refl
