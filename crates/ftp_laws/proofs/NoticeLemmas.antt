-- What an entry tells of a session.
use Rattle.std.proofs.Common.{◌≡◌, refl, sym, ◌∙◌, ap, ap₂, ℕ, ◌+◌, Bool, true, false, cond, List, [], ◌∷◌, length, Option, Some, None, arith, eqb-true, eq-eqb}
use Rattle.std.specs.Prelude.{◌==◌, count_by, filter_map, is_some}
use Rattle.std.specs.Option.{option_map_or}
use Rattle.std.proofs.lemmas.List.Recursion.{is_count_by}
use Rattle.ftp_base.specs.declared.notice.Notice.{Notice}
use Rattle.ftp_base.specs.declared.reply.Reply.{Reply}
use Rattle.ftp_events.specs.declared.action.Action.TheVariants as action
use Rattle.ftp_events.specs.Notices.{is_notice_to}
use Rattle.ftp_events.specs.Session.{live_sessions}
use Rattle.ftp_events.specs.Acts.{session_acts, notifications}
use Rattle.ftp_events.specs.History.{Nobody, One, All}
use Rattle.ftp_laws.proofs.Common.{Subject, subject_acts, Options, Running, Action, Decision, Entry, EventKind, Answer, Session, is_refusal, subject, concerns, session, running_job, acts_of, acts_for}
use Rattle.ftp_laws.proofs.SubjectLemmas.{nobody-concerns, one-concerns, stop-concerns, all-stop}
use Rattle.ftp_laws.proofs.LiveLemmas.{live_sessions-has}
use Rattle.ftp_laws.proofs.PartLemmas.{taken-parts-one}
use Rattle.ftp_laws.specs.Census.{IsAscending}
use Rattle.ftp_laws.specs.Notices.{notice_to}
use Rattle.ftp_laws.proofs.TableLemmas.{same-both}
use Rattle.ftp_laws.proofs.TakenLemmas.{IsQuiet, notified, notify_acts, taken-notified, taken-refused_link, user_then}

-- as many notifications are counted as are listed
pub length-notices :
    (s : ℕ) (xs : List Action) →
    length (filter_map (notice_to s) xs) ≡ count_by (is_notice_to s) xs
length-notices s xs = is_count_by (λ ys. length (filter_map (notice_to s) ys)) (is_notice_to s) refl step xs
  where
    step :
        (x : Action) (ys : List Action) →
        length (filter_map (notice_to s) (x ∷ ys)) ≡ cond (is_notice_to s x) (1 + length (filter_map (notice_to s) ys)) (length (filter_map (notice_to s) ys))
    step (action.Notify session meta what) ys = go (session == s) refl
      where
        go :
            (b : Bool) → (session == s) ≡ b →
            length (filter_map (notice_to s) (action.Notify session meta what ∷ ys)) ≡ cond (session == s) (1 + length (filter_map (notice_to s) ys)) (length (filter_map (notice_to s) ys))
        go true x = rw x (omega arith)
        go false x = rw x refl
    step (action.Completed ticket delivered) ys = refl
    step (action.Cancelled ticket) ys = refl
    step (action.Close number) ys = refl
    step (action.Reply session delay reply) ys = refl
    step (action.Start ticket number) ys = refl

-- a notification under the number after n, where there is one
abbrev pub under : ℕ → Option Notice → List (ℕ × Notice)
under n what = option_map_or (λ what. (n + 1, what) ∷ []) what []

-- what is told of a session by an event and its decision, from the job that ran and the session before it
abbrev pub told_by : EventKind → Answer → Decision → Option Running → Option Session → List (ℕ × Notice)
told_by k answer d job None = []
told_by k answer d job (Some v) = under v.notices (notified k answer d job v)

-- a session's notification is its own
pub notices-notifications :
    (s t : ℕ) (v : Session) (user : List ℕ) (what : Option Notice) →
    filter_map (notice_to s) (notifications t v user what) ≡ cond (t == s) (under v.notices what) []
notices-notifications s t v user None = sym (same-both (t == s) [])
notices-notifications s t v user (Some what) = go (t == s) refl
  where
    go :
        (b : Bool) → (t == s) ≡ b →
        filter_map (notice_to s) (notifications t v user (Some what)) ≡ cond (t == s) ((v.notices + 1, what) ∷ []) []
    go true x = rw x refl
    go false x = rw x refl

-- nothing else tells of one
notices-quiet : (s : ℕ) → IsQuiet (notice_to s)
notices-quiet s = record { cancels = λ t. refl; closes = λ n. refl; replies = λ t delay r. refl }

-- what an event does for session t tells of session t
pub notices-session_acts :
    (o : Options) (s t : ℕ) (k : EventKind) (answer : Answer) (d : Decision) (job : Option Running) (v : Option Session) →
    filter_map (notice_to s) (session_acts o t k answer d job v) ≡ cond (t == s) (told_by k answer d job v) []
notices-session_acts o s t k answer d job v = taken-notified (notices-quiet s) (λ t delivered. refl) (λ t n. refl) o t k answer d job v ∙ told v
  where
    told : (v : Option Session) → filter_map (notice_to s) (notify_acts t k answer d job v) ≡ cond (t == s) (told_by k answer d job v) []
    told None = sym (same-both (t == s) [])
    told (Some v) = notices-notifications s t v (user_then d v) (notified k answer d job v)

-- so many notifications of session s are among what an event does for session t
pub count-notices :
    (o : Options) (s t : ℕ) (k : EventKind) (answer : Answer) (d : Decision) (job : Option Running) (v : Option Session) →
    count_by (is_notice_to s) (session_acts o t k answer d job v) ≡ cond (t == s) (length (told_by k answer d job v)) 0
count-notices o s t k answer d job v =
    sym (length-notices s (session_acts o t k answer d job v)) ∙ (ap length (notices-session_acts o s t k answer d job v) ∙ go (t == s))
  where
    go :
        (b : Bool) →
        length (cond b (told_by k answer d job v) []) ≡ cond b (length (told_by k answer d job v)) 0
    go true = refl
    go false = refl

-- what an entry tells of session s by itself
abbrev pub told_in : Options → List Entry → Entry → ℕ → List (ℕ × Notice)
told_in o past e s = told_by e.event.kind e.answer e.decision (running_job o past s) (session o past s)

-- what an entry tells of a session: what its decision tells, where it concerns the session
pub notices-entry :
    (o : Options) (past : List Entry) (e : Entry) (s : ℕ) →
    is_refusal e.decision ≡ false →
    e.actions ≡ acts_of o past e →
    IsAscending (live_sessions o past) →
    filter_map (notice_to s) e.actions ≡ cond (concerns o past e s) (told_in o past e s) []
notices-entry o past e s counts acted ascends = ap (filter_map (notice_to s)) done ∙ go (subject o past e) refl
  where
    done : e.actions ≡ subject_acts o past e (subject o past e)
    done = acted ∙ rw counts refl

    by_number :
        (t : ℕ) (b : Bool) → (t == s) ≡ b →
        cond b (told_in o past e t) [] ≡ cond b (told_in o past e s) []
    by_number t true x = ap (told_in o past e) (eqb-true t s x)
    by_number t false x = refl

    part : (t : ℕ) → filter_map (notice_to s) (acts_for o past e t) ≡ cond (t == s) (told_in o past e t) []
    part t = notices-session_acts o s t e.event.kind e.answer e.decision (running_job o past t) (session o past t)

    own : filter_map (notice_to s) (acts_for o past e s) ≡ told_in o past e s
    own = part s ∙ ap (λ b. cond b (told_in o past e s) []) (eq-eqb s s refl)

    known : (v : Option Session) → cond (is_some v) (told_by e.event.kind e.answer e.decision (running_job o past s) v) [] ≡ told_by e.event.kind e.answer e.decision (running_job o past s) v
    known None = refl
    known (Some v) = refl

    go :
        (x : Subject) → subject o past e ≡ x →
        filter_map (notice_to s) (subject_acts o past e x) ≡ cond (concerns o past e s) (told_in o past e s) []
    go All h =
        taken-parts-one (notice_to s) (acts_for o past e) s (live_sessions o past) ascends
        (λ t n. part t ∙ ap (λ b. cond b (told_in o past e t) []) n)
        ∙ (ap₂ (λ b ns. cond b ns []) (live_sessions-has o past s) own
        ∙ (known (session o past s) ∙ ap (λ b. cond b (told_in o past e s) []) (sym (stop-concerns o past e s (all-stop o past e h)))))
    go Nobody h = taken-refused_link (notices-quiet s) e.event.kind e.decision ∙ ap (λ b. cond b (told_in o past e s) []) (sym (nobody-concerns o past e s h))
    go (One t) h =
        part t ∙
        (by_number t (t == s) refl ∙ ap (λ b. cond b (told_in o past e s) []) (sym (one-concerns o past e t s h)))
