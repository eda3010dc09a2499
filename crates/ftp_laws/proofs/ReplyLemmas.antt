-- No reply goes to a number before it is opened as a session.
use Rattle.std.proofs.Common.{◌≡◌, refl, sym, ◌∙◌, ap, ℕ, Bool, true, false, cond, List, [], ◌∷◌, ◌++◌, Option, Some, None, arith, eqb-true}
use Rattle.std.specs.Prelude.{◌==◌, count_by, filter_map}
use Rattle.std.proofs.lemmas.Bool.{or_parts}
use Rattle.std.proofs.lemmas.List.Sums.{sum_by-cons}
use Rattle.ftp_events.specs.declared.action.Action.TheVariants as action
use Rattle.ftp_events.specs.Acts.{session_acts, farewells}
use Rattle.ftp_events.specs.History.{One, All}
use Rattle.ftp_events.specs.Right.{reply_to, replies}
use Rattle.ftp_laws.proofs.Common.{Options, Ticket, Action, Running, Answer, Decision, Entry, EventKind, Session, is_refusal, is_ending, past_of, subject, concerns, opens, session, running_job, drops, acts_for, acts_of, completions, refused_link, drop_acts, start_acts, stays, slot_of, pending_in, IsRight, IsActed}
use Rattle.ftp_events.specs.declared.session.Slot.TheVariants.{Empty}
use Rattle.ftp_laws.specs.Replies.{was_opened}
use Rattle.ftp_laws.proofs.SubjectLemmas.{by_subject}
use Rattle.ftp_laws.proofs.QuestionLemmas.{session-other}
use Rattle.ftp_laws.proofs.PortLemmas.{session-before}
use Rattle.ftp_laws.proofs.CountLemmas.{IsOnTransfers, started_in, count-append, count-about, count-completions, count-drop_acts, count-refused_link, count-nobody}
use Rattle.ftp_laws.proofs.BalanceLemmas.{one}
use Rattle.ftp_laws.proofs.PartLemmas.{count-stop-none, count-stop_acts}
use Rattle.ftp_laws.proofs.EntryLemmas.{Comes, acted-past}
use Rattle.ftp_laws.proofs.Cases.{by_test, by_option, by_completion}

-- the action is a reply to session s
abbrev is_reply_to : ℕ → Action → Bool
is_reply_to s (action.Reply session delay reply) = session == s
is_reply_to s _ = false

-- where none counts, none is sent
none-sent : (s : ℕ) (xs : List Action) → count_by (is_reply_to s) xs ≡ 0 → filter_map (reply_to s) xs ≡ []
none-sent s [] h = refl
none-sent s (x ∷ xs) h = by_action x (omega (arith, h, sum_by-cons (λ y. one (is_reply_to s y)) x xs)) (none-sent s xs (omega (arith, h, sum_by-cons (λ y. one (is_reply_to s y)) x xs)))
  where
    by_action : (x : Action) → one (is_reply_to s x) ≡ 0 → filter_map (reply_to s) xs ≡ [] → filter_map (reply_to s) (x ∷ xs) ≡ []
    by_action (action.Reply session delay reply) zero rest = go (session == s) refl zero
      where
        go : (b : Bool) → (session == s) ≡ b → one b ≡ 0 → filter_map (reply_to s) (action.Reply session delay reply ∷ xs) ≡ []
        go true y z = absurd (omega (arith, z))
        go false y z = rw y rest
    by_action y zero rest = rest

-- the end of a job of a session that is not live has no reply
completions-silent :
    (p : Action → Bool) (s : ℕ) (k : EventKind) (d : Decision) (job : Option Running) →
    ((n : ℕ) → p (action.Close n) ≡ false) → ((t : Ticket) (b : Bool) → p (action.Completed t b) ≡ false) → ((t : Ticket) → p (action.Cancelled t) ≡ false) →
    count_by p (completions s k d false job) ≡ 0
completions-silent p s k d job closes completed cancelled =
    by_completion (λ xs. count_by p xs ≡ 0) s k d false job refl (λ t x y. rw (completed t false) refl)
    (λ r x y. rw (cancelled r.job.ticket, closes r.job.number) refl)

-- what is done for a session that is not live has no reply
unlive-silent :
    (p : Action → Bool) (o : Options) (s : ℕ) (k : EventKind) (answer : Answer) (d : Decision) (job : Option Running) →
    ((n : ℕ) → p (action.Close n) ≡ false) → ((t : Ticket) (b : Bool) → p (action.Completed t b) ≡ false) → ((t : Ticket) → p (action.Cancelled t) ≡ false) →
    count_by p (session_acts o s k answer d job None) ≡ 0
unlive-silent p o s k answer d job closes completed cancelled =
    let a : List Action = completions s k d false job in
    let b : List Action = drop_acts s false d Empty None in
    let c : List Action = refused_link k d in
    omega (
      arith,
      count-append p (a ++ b ++ c ++ [] ++ []) (farewells s d),
      count-append p (a ++ b ++ c ++ []) [],
      count-append p (a ++ b ++ c) [],
      count-append p (a ++ b) c,
      count-append p a b,
      completions-silent p s k d job closes completed cancelled,
      dropped (drops d Empty),
      count-refused_link p k d closes,
      closed (is_ending d),
    )
  where
    dropped : (b : Bool) → count_by p (cond b ([] ++ []) []) ≡ 0
    dropped true = refl
    dropped false = refl

    closed : (b : Bool) → count_by p (cond b (action.Close s ∷ []) []) ≡ 0
    closed true = rw (closes s) refl
    closed false = refl

-- an entry replies nothing to a session that is not live
entry-silent :
    (o : Options) (past : List Entry) (e : Entry) (s : ℕ) →
    is_refusal e.decision ≡ false → e.actions ≡ acts_of o past e →
    session o past s ≡ None →
    count_by (is_reply_to s) e.actions ≡ 0
entry-silent o past e s counts acted none =
    by_subject o past e (λ about. count-nobody (is_reply_to s) o past e (λ m. refl) acted about)
    (λ q about. by_test (q == s) (own q about) (other q about))
    (λ about. count-stop-none o past e counts acted (is_reply_to s) about (λ q. by_test (q == s) (part-own q) (part-other q about)))
  where
    part-own : (q : ℕ) → (q == s) ≡ true → count_by (is_reply_to s) (acts_for o past e q) ≡ 0
    part-own q k =
        let gone : session o past q ≡ None = ap (session o past) (eqb-true q s k) ∙ none in
        (ap (λ (v : Option Session). count_by (is_reply_to s) (session_acts o q e.event.kind e.answer e.decision (running_job o past q) v)) gone
        ∙ unlive-silent (is_reply_to s) o q e.event.kind e.answer e.decision (running_job o past q) (λ m. refl) (λ t b. refl) (λ t. refl))

    own : (q : ℕ) → subject o past e ≡ One q → (q == s) ≡ true → count_by (is_reply_to s) e.actions ≡ 0
    own q about k =
        let done : e.actions ≡ acts_for o past e q = acted ∙ rw (counts, about) refl in
        ap (count_by (is_reply_to s)) done ∙ part-own q k

    on : (q : ℕ) → (q == s) ≡ false → IsOnTransfers q (is_reply_to s)
    on q k = record { closes = λ m. refl; notifies = λ meta what. refl; replies = λ delay r. k }

    part-other : (q : ℕ) → subject o past e ≡ All → (q == s) ≡ false → count_by (is_reply_to s) (acts_for o past e q) ≡ 0
    part-other q about k =
        let v : Option Session = session o past q in
        count-stop_acts o past e counts acted (is_reply_to s) q (on q k) about
        ∙ count-drop_acts (is_reply_to s) q (stays e.decision v) e.decision (slot_of v) (pending_in v) (on q k) (λ t. refl)

    started : (job : Option Running) → count_by (is_reply_to s) (start_acts job) ≡ 0
    started None = refl
    started (Some j) = refl

    other : (q : ℕ) → subject o past e ≡ One q → (q == s) ≡ false → count_by (is_reply_to s) e.actions ≡ 0
    other q about k =
        let v : Option Session = session o past q in
        let test : IsOnTransfers q (is_reply_to s) = on q k in
        omega (
          arith,
          count-about (is_reply_to s) o past e q test counts acted about,
          count-completions (is_reply_to s) q e.event.kind e.decision (stays e.decision v) (running_job o past q) test (λ t x. refl) (λ r x y. refl),
          count-drop_acts (is_reply_to s) q (stays e.decision v) e.decision (slot_of v) (pending_in v) test (λ t. refl),
          started (started_in o past e q),
        )

-- a number that was not opened is no live session, and has no reply
abbrev IsUnopened : Options → ℕ → List Entry → List Entry → Type 0
IsUnopened o s log past = was_opened s log ≡ false → (replies log s ≡ []) × (session o past s ≡ None)

-- it stays so after an entry that does not open it
unopened-step :
    (o : Options) (log : List Entry) (e : Entry) (s : ℕ) → Comes o log e →
    e.actions ≡ acts_of o (past_of log) e →
    IsUnopened o s log (past_of log) → IsUnopened o s (e ∷ log) (e ∷ past_of log)
unopened-step o log e s comes acted h unopened =
    let parts = or_parts (opens e s) (was_opened s log) unopened in
    let before = h parts.1 in
    let past : List Entry = past_of log in (
      ap (λ xs. xs ++ filter_map (reply_to s) e.actions) before.0 ∙ none-sent s e.actions (entry-silent o past e s comes.counts acted before.1),
      by_test (concerns o past e s)
          (λ c.
          by_option (session o (e ∷ past) s) (λ x. x)
          (λ v x.
          let was = session-before o past e s v comes.fit parts.0 c x in
          let z : None ≡ Some was.before = sym before.1 ∙ was.known in
          cc))
          (λ c. session-other o past e s parts.0 c ∙ before.1),
    )

-- in every right and acted log no reply goes to a number that was not opened
pub unopened-unreplied :
    (o : Options) (log : List Entry) (s : ℕ) → IsRight o log → IsActed o log →
    was_opened s log ≡ false →
    replies log s ≡ []
unopened-unreplied o log s r a unopened = (acted-past o (IsUnopened o s) (λ x. (refl, refl)) refused (λ log e comes acted done h. unopened-step o log e s comes done h) log r a unopened).0
  where
    refused :
        (log : List Entry) (e : Entry) → e.actions ≡ [] → is_refusal e.decision ≡ true →
        IsUnopened o s log (past_of log) → IsUnopened o s (e ∷ log) (past_of log)
    refused log e none x h unopened =
        let before = h (or_parts (opens e s) (was_opened s log) unopened).1 in (
          ap (λ xs. xs ++ filter_map (reply_to s) e.actions) before.0 ∙ ap (filter_map (reply_to s)) none,
          before.1,
        )
