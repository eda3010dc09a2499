-- What the actions of an entry tell of a user, and which ends of transfers they tell to sessions.
use Rattle.std.proofs.Common.{◌≡◌, refl, sym, ◌∙◌, ℕ, Bool, true, false, cond, List, [], ◌∷◌, ◌++◌, Option, Some, None, append-nil}
use Rattle.std.specs.Prelude.{filter_map}
use Rattle.std.specs.Option.{option_and_then, option_to_list}
use Rattle.std.specs.Str.{bytes_eq}
use Rattle.ftp_base.specs.declared.notice.Notice.{Notice}
use Rattle.ftp_events.specs.Reply.{message_for}
use Rattle.ftp_events.specs.Acts.{session_acts, notifications, notice_for, presence_for, cuttings}
use Rattle.ftp_laws.proofs.Common.{Options, Running, Action, Decision, EventKind, Answer, Session, completions, stays, start_acts, starting, refused_link}
use Rattle.ftp_laws.proofs.TableLemmas.{same-both}
use Rattle.ftp_laws.proofs.TakenLemmas.{IsQuiet, notify_acts, taken-cuttings, taken-notified, taken-refused_link, taken-session_acts, user_then}
use Rattle.ftp_audit.specs.Sums.{told_end}
use Rattle.ftp_audit.specs.Heard.{notice_on, notices_on}

-- what an event and its decision notify of a session
abbrev pub notified : EventKind → Answer → Decision → Option Running → Session → List Notice
notified k answer d job v = option_to_list (notice_for (message_for v job k answer d) (presence_for d))

-- what is told of a user by an event about a session
abbrev pub told_on : List ℕ → EventKind → Answer → Decision → Option Running → Option Session → List Notice
told_on user k answer d job None = []
told_on user k answer d job (Some v) = cond (bytes_eq (user_then d v) user) (notified k answer d job v) []

-- ---- notifications

on-quiet : (user : List ℕ) → IsQuiet (notice_on user)
on-quiet user = record { cancels = λ t. refl; closes = λ n. refl; replies = λ t delay r. refl }

-- a connection that is closed as soon as it came tells of nobody
pub on-refused_link : (user : List ℕ) (k : EventKind) (d : Decision) → notices_on user (refused_link k d) ≡ []
on-refused_link user = taken-refused_link (on-quiet user)

on-notifications :
    (user : List ℕ) (t : ℕ) (v : Session) (name : List ℕ) (what : Option Notice) →
    notices_on user (notifications t v name what) ≡ cond (bytes_eq name user) (option_to_list what) []
on-notifications user t v name None = sym (same-both (bytes_eq name user) [])
on-notifications user t v name (Some what) = go (bytes_eq name user) refl
  where
    go : (b : Bool) → bytes_eq name user ≡ b → notices_on user (notifications t v name (Some what)) ≡ cond b (what ∷ []) []
    go true x = rw x refl
    go false x = rw x refl

-- what an event does for a session tells of its user what it notifies
pub on-session_acts :
    (o : Options) (user : List ℕ) (t : ℕ) (k : EventKind) (answer : Answer) (d : Decision) (job : Option Running) (v : Option Session) →
    notices_on user (session_acts o t k answer d job v) ≡ told_on user k answer d job v
on-session_acts o user t k answer d job v = taken-notified (on-quiet user) (λ t delivered. refl) (λ t n. refl) o t k answer d job v ∙ told v
  where
    told : (v : Option Session) → notices_on user (notify_acts t k answer d job v) ≡ told_on user k answer d job v
    told None = refl
    told (Some v) = on-notifications user t v (user_then d v) (notice_for (message_for v job k answer d) (presence_for d))

-- ---- ends that are told

-- the sessions that actions tell that their transfers have ended
abbrev pub told_ends : List Action → List ℕ
told_ends actions = filter_map told_end actions

ends-quiet : IsQuiet told_end
ends-quiet = record { cancels = λ t. refl; closes = λ n. refl; replies = λ t delay r. refl }

-- a transfer that is cut is told of as none that has ended
pub ends-cuttings : (t : ℕ) (staying : Bool) (r : Running) → told_ends (cuttings t staying (Some r)) ≡ []
ends-cuttings = taken-cuttings ends-quiet

-- a connection that is closed as soon as it came ends no transfer
pub ends-refused_link : (k : EventKind) (d : Decision) → told_ends (refused_link k d) ≡ []
ends-refused_link = taken-refused_link ends-quiet

ends-notifications : (t : ℕ) (v : Session) (name : List ℕ) (what : Option Notice) → told_ends (notifications t v name what) ≡ []
ends-notifications t v name None = refl
ends-notifications t v name (Some what) = refl

-- what an event does for a session tells the end that it completes
pub ends-session_acts :
    (o : Options) (t : ℕ) (k : EventKind) (answer : Answer) (d : Decision) (job : Option Running) (v : Option Session) →
    told_ends (session_acts o t k answer d job v) ≡ told_ends (completions t k d (stays d v) job)
ends-session_acts o t k answer d job v =
    taken-session_acts ends-quiet o t k answer d job v
    ∙ rw (told v, started (option_and_then (starting k d job) v)) (append-nil (told_ends (completions t k d (stays d v) job) ++ []) ∙ append-nil (told_ends (completions t k d (stays d v) job)))
  where
    told : (v : Option Session) → told_ends (notify_acts t k answer d job v) ≡ []
    told None = refl
    told (Some v) = ends-notifications t v (user_then d v) (notice_for (message_for v job k answer d) (presence_for d))

    started : (job : Option Running) → told_ends (start_acts job) ≡ []
    started None = refl
    started (Some job) = refl
