-- What an entry of a right and acted log notifies is what it decided.
use Rattle.std.proofs.Common.{◌≡◌, refl, sym, ◌∙◌, ap, ap₂, ℕ, Bool, true, false, true≢false, cond, List, [], ◌∷◌, ◌++◌, Option, Some, None, arith}
use Rattle.std.specs.Prelude.{filter, is_some}
use Rattle.std.specs.List.{flat_map, AllByRecursion}
use Rattle.std.specs.Option.{option_map, option_to_list}
use Rattle.std.specs.Str.{bytes_eq}
use Rattle.std.proofs.lemmas.List.Elements.{filter_map-append}
use Rattle.ftp_base.specs.declared.message.ControlChanMsg.{ControlChanMsg}
use Rattle.ftp_base.specs.declared.message.ControlChanMsg.TheVariants as message
use Rattle.ftp_base.specs.declared.login.AuthAnswer.{AuthAnswer}
use Rattle.ftp_base.specs.declared.notice.Notice.{Notice}
use Rattle.ftp_base.specs.declared.notice.Notice.TheVariants.{Presence, Data}
use Rattle.ftp_base.specs.declared.notice.PresenceEvent.TheVariants as presence
use Rattle.ftp_transfer.specs.declared.job.Completion.{Completion}
use Rattle.ftp_transfer.specs.declared.job.Completion.TheVariants as result
use Rattle.ftp_transfer.specs.declared.job.Job.{Job}
use Rattle.ftp_transfer.specs.declared.job.Outcome.{Outcome}
use Rattle.ftp_events.specs.declared.decision.Decision.TheVariants as decision
use Rattle.ftp_events.specs.declared.event.EventKind.TheVariants as kind
use Rattle.ftp_events.specs.declared.event.Answer.TheVariants as answer
use Rattle.ftp_events.specs.Acts.{notice_for, presence_for}
use Rattle.ftp_events.specs.CommandRows.{internal_row}
use Rattle.ftp_events.specs.Classes.{is_stop}
use Rattle.ftp_events.specs.EndRows.{can_move, end_row, moved_row, outcome_row, piece_row, unless_marked}
use Rattle.ftp_events.specs.History.{Nobody, One, All}
use Rattle.ftp_events.specs.Message.{notice_of, is_for_control, message_of_outcome}
use Rattle.ftp_events.specs.Reply.{message_for, path_of_job}
use Rattle.ftp_events.specs.Session.{live_sessions, opened_sessions}
use Rattle.ftp_events.specs.Transfer.{same_ticket}
use Rattle.ftp_laws.proofs.Common.{acts, acts_of, acts_for, subject_acts, due, decide, completions, stays, refused_link, ends, life, is_ending, lives_on, Options, Action, Running, Decision, Entry, EventKind, Answer, Session, Ticket, is_refusal, job_ticket, named_session, past_of, session, running_job, subject, IsRight, IsActed}
use Rattle.ftp_laws.proofs.BalanceLemmas.{IsEnd, ended-known}
use Rattle.ftp_laws.proofs.Cases.{by_test, by_option, by_completion, job-named}
use Rattle.ftp_laws.proofs.ClassLemmas.{stop-is}
use Rattle.ftp_laws.proofs.DecisionLemmas.{IsLive, live-row, first-chosen, other-chosen}
use Rattle.ftp_laws.proofs.EndingLemmas.{ending-live}
use Rattle.ftp_laws.proofs.EntryLemmas.{Comes}
use Rattle.ftp_laws.proofs.SubjectLemmas.{by_subject, all-stop, named-one, one-own, one-same, one-plain, stop-all, stop-concerns}
use Rattle.ftp_audit.specs.declared.total.Total.{Total}
use Rattle.ftp_audit.specs.Totals.{nothing, plus, told}
use Rattle.ftp_audit.specs.Owner.{let_in, owner}
use Rattle.ftp_audit.specs.Sums.{one_login, one_logout, file_of, moved_file, told_end, for_each, added}
use Rattle.ftp_audit.specs.Heard.{notice_on, notices_on, told_by_all}
use Rattle.ftp_audit.proofs.PlusLemmas.{plus-nothing, nothing-plus, told_by_all-append}
use Rattle.ftp_laws.proofs.TakenLemmas.{user_then}
use Rattle.ftp_audit.proofs.ActionLemmas.{notified, told_on, on-session_acts, on-refused_link, told_ends, ends-session_acts, ends-refused_link, ends-cuttings}
use Rattle.ftp_audit.proofs.OwnerLemmas.{let_in-named, let_in-decided, refused-let_in, IsLetIn, let-in-known, owner-then}

-- ---- one session

-- as much for one session that is the user's
pub one-each : (past : List Entry) (user : List ℕ) (each : Total) (s : ℕ) → for_each past user each (s ∷ []) ≡ cond (bytes_eq (owner past s) user) each nothing
one-each past user each s = plus-nothing (cond (bytes_eq (owner past s) user) each nothing)

-- what notifications tell where they are of the user
told-cond : (b : Bool) (notices : List Notice) → told_by_all (cond b notices []) ≡ cond b (told_by_all notices) nothing
told-cond true notices = refl
told-cond false notices = refl

-- one notification
told-one : (what : Notice) → told_by_all (what ∷ []) ≡ told what
told-one what = plus-nothing (told what)

-- the end of a transfer notifies of the file that it moved
outcome-told : (path : List ℕ) (outcome : Outcome) (r : Completion) → told_by_all (option_to_list (option_map Data (notice_of (message_of_outcome path outcome r)))) ≡ file_of r outcome.bytes
outcome-told path outcome result.Sent = plus-nothing (file_of result.Sent outcome.bytes)
outcome-told path outcome result.Written = plus-nothing (file_of result.Written outcome.bytes)
outcome-told path outcome result.Listed = refl
outcome-told path outcome result.WriteFailed = refl
outcome-told path outcome (result.Refused k) = refl
outcome-told path outcome result.OutOfMemory = refl

-- what the control layer tells a client moves no file
control-quiet : (m : ControlChanMsg) → is_for_control m ≡ true → told_by_all (option_to_list (option_map Data (notice_of m))) ≡ nothing
control-quiet (message.SentData path bytes) h = cc
control-quiet (message.WrittenData path bytes) h = cc
control-quiet m h = refl

-- a message that is told is one of the control layer's
told-control :
    (o : Options) (past : List Entry) (at : ℕ) (k : EventKind) (a : Answer) → due o past at k a ≡ decision.Told →
    (q : ℕ) × (m : ControlChanMsg) × (k ≡ kind.Internal q m) × (is_for_control m ≡ true)
told-control o past at (kind.Internal q m) a e =
    let live = live-row o past q (λ v. internal_row m) decision.Told (λ x. cc) e in
    (q, m, refl, (first-chosen (is_for_control m) decision.Told decision.NotExpected decision.Told (λ x. cc) live.2).0)
told-control o past at k a e = grind arith

-- an answer that has an outcome
abbrev IsDone : Answer → Type 0
IsDone a = (outcome : Outcome) × (a ≡ answer.Done outcome)

-- a job ends by an outcome
outcome-done : (job : Job) (a : Answer) → outcome_row job a ≡ decision.Finished → IsDone a
outcome-done job (answer.Done outcome) h = (outcome, refl)
outcome-done job a h = cc

-- and so does one whose last piece comes
moved-done : (job : Job) (a : Answer) → moved_row job a ≡ decision.Finished → IsDone a
moved-done job (answer.Moved bytes) h =
    let z = (first-chosen (can_move job bytes) decision.Moved decision.NotExpected decision.Finished (λ x. cc) h).1 in
    cc
moved-done job a h = outcome-done job a h

-- what is decided as finished on a job that runs is its row
row-done : (r : Running) (t : Ticket) (row : Decision) → cond (same_ticket r.job.ticket t) (unless_marked r row) decision.UnknownNumber ≡ decision.Finished → row ≡ decision.Finished
row-done r t row h =
    (other-chosen r.marked decision.Cut row decision.Finished (λ x. cc)
    (first-chosen (same_ticket r.job.ticket t) (unless_marked r row) decision.UnknownNumber decision.Finished (λ x. cc) h).1).1

-- a transfer that is finished has an outcome
finished-done : (o : Options) (past : List Entry) (at : ℕ) (k : EventKind) (a : Answer) → due o past at k a ≡ decision.Finished → IsDone a
finished-done o past at (kind.End t) a e = by_job (running_job o past t.session) e
  where
    by_job : (j : Option Running) → end_row t a j ≡ decision.Finished → IsDone a
    by_job None h = cc
    by_job (Some r) h = outcome-done r.job a (row-done r t (outcome_row r.job a) h)
finished-done o past at (kind.Piece t) a e = by_job (running_job o past t.session) e
  where
    by_job : (j : Option Running) → piece_row t a j ≡ decision.Finished → IsDone a
    by_job None h = cc
    by_job (Some r) h = moved-done r.job a (row-done r t (moved_row r.job a) h)
finished-done o past at k a e = grind arith

-- decisions of which listeners may hear
abbrev is_loud : Decision → Bool
is_loud decision.LoggedIn = true
is_loud decision.Finished = true
is_loud decision.Told = true
is_loud d = is_ending d

-- of every other they hear nothing
quiet-notice : (k : EventKind) (a : Answer) (d : Decision) (job : Option Running) (v : Session) → is_loud d ≡ false → notice_for (message_for v job k a d) (presence_for d) ≡ None
quiet-notice k a decision.LoggedIn job v h = cc
quiet-notice k a decision.Finished job v h = cc
quiet-notice k a decision.Told job v h = cc
quiet-notice k a decision.Quit job v h = cc
quiet-notice k a decision.Closed job v h = cc
quiet-notice k a decision.TimedOut job v h = cc
quiet-notice k a decision.Stopped job v h = cc
quiet-notice k a d job v h = refl

-- a session that is parted with is told to have left
ending-notice : (k : EventKind) (a : Answer) (d : Decision) (job : Option Running) (v : Session) → is_ending d ≡ true → notified k a d job v ≡ Presence presence.LoggedOut ∷ []
ending-notice k a decision.Quit job v h = refl
ending-notice k a decision.Closed job v h = refl
ending-notice k a decision.TimedOut job v h = refl
ending-notice k a decision.Stopped job v h = refl
ending-notice k a d job v h = cc

-- what a refusal is not
refused-plain : (d : Decision) → is_refusal d ≡ true → is_stop d ≡ false
refused-plain decision.Stopped h = cc
refused-plain d h = refl

refused-lives : (d : Decision) → is_refusal d ≡ true → is_ending d ≡ false
refused-lives decision.Quit h = cc
refused-lives decision.Closed h = cc
refused-lives decision.TimedOut h = cc
refused-lives decision.Stopped h = cc
refused-lives d h = refl

-- what an ending is not
ending-let_in : (d : Decision) (k : EventKind) → is_ending d ≡ true → let_in d k ≡ None
ending-let_in decision.LoggedIn k h = cc
ending-let_in d k h = refl

-- a transfer was finished, and not cut
abbrev is_done : Decision → Bool
is_done decision.Finished = true
is_done d = false

ending-undone : (d : Decision) → is_ending d ≡ true → is_done d ≡ false
ending-undone decision.Finished h = cc
ending-undone d h = refl

-- no end that is lost is told
ends-lost : (s : ℕ) (k : EventKind) (d : Decision) (job : Option Running) → told_ends (completions s k d false job) ≡ []
ends-lost s k d job = by_completion (λ xs. told_ends xs ≡ []) s k d false job refl (λ t x y. refl) (λ r x y. ends-cuttings s false r)

-- no other decision tells an end
ends-none : (s : ℕ) (k : EventKind) (d : Decision) (told_to : Bool) (job : Option Running) → is_done d ≡ false → told_ends (completions s k d told_to job) ≡ []
ends-none s k d told_to job u =
    by_completion (λ xs. told_ends xs ≡ []) s k d told_to job refl (λ t x y. absurd (true≢false (sym (ap is_done y) ∙ u))) (λ r x y. ends-cuttings s told_to r)

-- a transfer that is finished notifies what its message does, and moves its file
finished-notified :
    (k : EventKind) (a : Answer) (d : Decision) (job : Option Running) (v : Session) (outcome : Outcome) → d ≡ decision.Finished → a ≡ answer.Done outcome →
    notified k a d job v ≡ option_to_list (option_map Data (notice_of (message_of_outcome (path_of_job job) outcome outcome.result)))
finished-notified k a d job v outcome x y = rw (x, y) refl

finished-file : (a : Answer) (d : Decision) (outcome : Outcome) → d ≡ decision.Finished → a ≡ answer.Done outcome → moved_file d a ≡ file_of outcome.result outcome.bytes
finished-file a d outcome x y = rw (x, y) refl

finished-ends :
    (k : EventKind) (d : Decision) (job : Option Running) (t : Ticket) (s : ℕ) → d ≡ decision.Finished → job_ticket k ≡ Some t → t.session ≡ s →
    told_ends (completions s k d (lives_on d) job) ≡ s ∷ []
finished-ends k d job t s x y z = rw (x, y) (ap (λ n. n ∷ []) z)

-- a message that is told notifies what it does
told-notified :
    (k : EventKind) (a : Answer) (d : Decision) (job : Option Running) (v : Session) (q : ℕ) (m : ControlChanMsg) → d ≡ decision.Told → k ≡ kind.Internal q m →
    notified k a d job v ≡ option_to_list (option_map Data (notice_of m))
told-notified k a d job v q m x y = rw (x, y) refl

-- a login is one of the session that it names
login-ins : (k : EventKind) (d : Decision) (q s : ℕ) (said : AuthAnswer) → d ≡ decision.LoggedIn → k ≡ kind.AuthDone q said → q ≡ s → option_to_list (let_in d k) ≡ s ∷ []
login-ins k d q s said x y z = rw (x, y) (ap (λ n. n ∷ []) z)

-- the sessions that an entry ends
abbrev ended : EventKind → Decision → List ℕ
ended k d = cond (is_ending d) (option_to_list (named_session k)) []

-- what is added, in three parts
abbrev parts : List Entry → List ℕ → ℕ → EventKind → Answer → Decision → Bool → Option Running → Total
parts p user s k a d told job =
    plus (for_each p user (moved_file d a) (told_ends (completions s k d told job)))
    (plus (for_each p user one_login (option_to_list (let_in d k)))
    (for_each p user one_logout (ended k d)))

-- where all three are known
three :
    (p : List Entry) (user : List ℕ) (s : ℕ) (k : EventKind) (a : Answer) (d : Decision) (told : Bool) (job : Option Running) (ends ins outs : List ℕ) →
    told_ends (completions s k d told job) ≡ ends → option_to_list (let_in d k) ≡ ins → ended k d ≡ outs →
    parts p user s k a d told job ≡ plus (for_each p user (moved_file d a) ends) (plus (for_each p user one_login ins) (for_each p user one_logout outs))
three p user s k a d told job ends ins outs x y z = rw (x, y, z) refl

-- of an event about a live session, which its entry's owner is
module _ (o : Options) (past : List Entry) (at : ℕ) (p : List Entry) (user : List ℕ) (s : ℕ) where
  one-live :
      (k : EventKind) (a : Answer) (d : Decision) (job : Option Running) (v : Session) →
      due o past at k a ≡ d → is_stop d ≡ false →
      ((q : ℕ) → named_session k ≡ Some q → q ≡ s) →
      owner p s ≡ user_then d v →
      told_by_all (cond (bytes_eq (user_then d v) user) (notified k a d job v) []) ≡ parts p user s k a d (lives_on d) job
  one-live k a d job v fit plain about own = by_test (is_ending d) ending (λ lives. go d refl lives)
    where
      b : Bool
      b = bytes_eq (owner p s) user

      -- what is told, by the owner
      by_owner : (notices : List Notice) → notified k a d job v ≡ notices → told_by_all (cond (bytes_eq (user_then d v) user) (notified k a d job v) []) ≡ cond b (told_by_all notices) nothing
      by_owner notices x = rw (x, sym own) (told-cond b notices)

      none-left : (t : Total) → t ≡ plus nothing (plus nothing t)
      none-left t = sym (nothing-plus (plus nothing t) ∙ nothing-plus t)

      ending : is_ending d ≡ true → told_by_all (cond (bytes_eq (user_then d v) user) (notified k a d job v) []) ≡ parts p user s k a d (lives_on d) job
      ending h =
          let live : IsLive o past k = ending-live o past at k a (ap is_stop fit ∙ plain) (ap (λ x. ends (life x)) fit ∙ h) in
          let named : named_session k ≡ Some s = live.named ∙ ap Some (about live.number live.named) in
          by_owner (Presence presence.LoggedOut ∷ []) (ending-notice k a d job v h)
          ∙ (ap (λ t. cond b t nothing) (told-one (Presence presence.LoggedOut))
          ∙ (none-left (cond b one_logout nothing)
          ∙ (ap (λ t. plus nothing (plus nothing t)) (sym (one-each p user one_logout s))
          ∙ sym (three p user s k a d (lives_on d) job [] [] (s ∷ []) (ends-none s k d (lives_on d) job (ending-undone d h)) (ap option_to_list (ending-let_in d k h)) (rw (h, named) refl)))))

      -- where listeners hear nothing that counts
      silence : (notices : List Notice) → notified k a d job v ≡ notices → told_by_all notices ≡ nothing → let_in d k ≡ None → is_done d ≡ false → is_ending d ≡ false →
          told_by_all (cond (bytes_eq (user_then d v) user) (notified k a d job v) []) ≡ parts p user s k a d (lives_on d) job
      silence notices x quiet out undone lives =
          by_owner notices x
          ∙ (ap (λ t. cond b t nothing) quiet ∙ same b
          ∙ sym (three p user s k a d (lives_on d) job [] [] [] (ends-none s k d (lives_on d) job undone) (ap option_to_list out) (rw lives refl)))
        where
          same : (b : Bool) → cond b nothing nothing ≡ plus nothing (plus nothing nothing)
          same true = refl
          same false = refl

      go : (e : Decision) → d ≡ e → is_ending d ≡ false → told_by_all (cond (bytes_eq (user_then d v) user) (notified k a d job v) []) ≡ parts p user s k a d (lives_on d) job
      go decision.LoggedIn x lives =
          let in_ : IsLetIn o past k = let-in-known o past at k a (fit ∙ x) in
          let same : in_.number ≡ s = about in_.number (ap named_session in_.is) in
          let ins : option_to_list (let_in d k) ≡ s ∷ [] = login-ins k d in_.number s in_.said x in_.is same in
          by_owner (Presence presence.LoggedIn ∷ []) (rw x refl)
          ∙ (ap (λ t. cond b t nothing) (told-one (Presence presence.LoggedIn))
          ∙ (sym (nothing-plus (plus (cond b one_login nothing) nothing) ∙ plus-nothing (cond b one_login nothing))
          ∙ (ap (λ t. plus nothing (plus t nothing)) (sym (one-each p user one_login s))
          ∙ sym (three p user s k a d (lives_on d) job [] (s ∷ []) [] (ends-none s k d (lives_on d) job (ap is_done x)) ins (rw lives refl)))))
      go decision.Finished x lives =
          let end : IsEnd o past k = ended-known o past at k a decision.Finished (fit ∙ x) refl in
          let done = finished-done o past at k a (fit ∙ x) in
          let same : end.ticket.session ≡ s = about end.ticket.session (job-named k end.ticket end.kind_is) in
          let told_is : told_ends (completions s k d (lives_on d) job) ≡ s ∷ [] = finished-ends k d job end.ticket s x end.kind_is same in
          let file : moved_file d a ≡ file_of done.0.result done.0.bytes = finished-file a d done.0 x done.1 in
          let notices : List Notice = option_to_list (option_map Data (notice_of (message_of_outcome (path_of_job job) done.0 done.0.result))) in
          by_owner notices (finished-notified k a d job v done.0 x done.1)
          ∙ (ap (λ t. cond b t nothing) (outcome-told (path_of_job job) done.0 done.0.result ∙ sym file)
          ∙ (sym (plus-nothing (cond b (moved_file d a) nothing))
          ∙ (ap (λ t. plus t (plus nothing nothing)) (sym (one-each p user (moved_file d a) s))
          ∙ sym (three p user s k a d (lives_on d) job (s ∷ []) [] [] told_is (rw x refl) (rw lives refl)))))
      go decision.Told x lives =
          let by = told-control o past at k a (fit ∙ x) in
          silence (option_to_list (option_map Data (notice_of by.1))) (told-notified k a d job v by.0 by.1 x by.2) (control-quiet by.1 by.3) (rw x refl) (ap is_done x) lives
      go e x lives =
          silence [] (ap option_to_list (quiet-notice k a d job v (ap is_loud x ∙ (sym (ap is_ending x) ∙ lives)))) refl (rw x refl) (ap is_done x) lives

  -- of an event about a session that is not live
  one-gone :
      (k : EventKind) (a : Answer) (d : Decision) (job : Option Running) →
      due o past at k a ≡ d → is_stop d ≡ false →
      ((q : ℕ) → named_session k ≡ Some q → q ≡ s) → session o past s ≡ None →
      nothing ≡ parts p user s k a d false job
  one-gone k a d job fit plain about none =
      sym (three p user s k a d false job [] [] [] (ends-lost s k d job) (ap option_to_list no_login) (rw lives refl))
    where
      no_login : let_in d k ≡ None
      no_login = by_option (let_in d k) (λ h. h) (λ q h. absurd (login q h))
        where
          login : (q : ℕ) → let_in d k ≡ Some q → ⊥
          login q h =
              let in_ : IsLetIn o past k = let-in-known o past at k a (fit ∙ let_in-decided d k q h) in
              let same : in_.number ≡ s = about in_.number (ap named_session in_.is) in
              let z : None ≡ Some in_.view = sym none ∙ (ap (session o past) (sym same) ∙ in_.known) in
              cc

      lives : is_ending d ≡ false
      lives = by_test (is_ending d) (λ h. absurd (ending h)) (λ h. h)
        where
          ending : is_ending d ≡ true → ⊥
          ending h =
              let live : IsLive o past k = ending-live o past at k a (ap is_stop fit ∙ plain) (ap (λ x. ends (life x)) fit ∙ h) in
              let same : live.number ≡ s = about live.number live.named in
              let z : None ≡ Some live.session_then = sym none ∙ (ap (session o past) (sym same) ∙ live.known) in
              cc

-- ---- an entry

-- what an entry tells of a user
abbrev pub entry_told : List ℕ → List Action → Total
entry_told user actions = told_by_all (notices_on user actions)

-- a stop parts with every live session
stop-told :
    (o : Options) (log : List Entry) (e : Entry) (user : List ℕ) (xs : List ℕ) → Comes o log e → e.decision ≡ decision.Stopped →
    AllByRecursion (λ s. is_some (session o (past_of log) s) ≡ true) xs →
    (entry_told user (flat_map (acts_for o (past_of log) e) xs) ≡ for_each (e ∷ log) user one_logout xs) × (told_ends (flat_map (acts_for o (past_of log) e) xs) ≡ [])
stop-told o log e user [] comes d all = (refl, refl)
stop-told o log e user (s ∷ xs) comes d all = go (session o (past_of log) s) refl all.0 (stop-told o log e user xs comes d all.1)
  where
    past : List Entry
    past = past_of log

    rest : List Action
    rest = flat_map (acts_for o past e) xs

    go :
        (w : Option Session) → session o past s ≡ w → is_some w ≡ true →
        (entry_told user rest ≡ for_each (e ∷ log) user one_logout xs) × (told_ends rest ≡ []) →
        (entry_told user (acts_for o past e s ++ rest) ≡ for_each (e ∷ log) user one_logout (s ∷ xs)) × (told_ends (acts_for o past e s ++ rest) ≡ [])
    go None x some h = cc
    go (Some v) x some h =
        let own : owner (e ∷ log) s ≡ user_then e.decision v = owner-then o log e s v comes (stop-concerns o past e s (ap is_stop d)) x in
        let told_is : notices_on user (acts_for o past e s) ≡ cond (bytes_eq (user_then e.decision v) user) (notified e.event.kind e.answer e.decision (running_job o past s) v) [] =
        on-session_acts o user s e.event.kind e.answer e.decision (running_job o past s) (session o past s) ∙ ap (told_on user e.event.kind e.answer e.decision (running_job o past s)) x
        in
        let notice : notified e.event.kind e.answer e.decision (running_job o past s) v ≡ Presence presence.LoggedOut ∷ [] = ending-notice e.event.kind e.answer e.decision (running_job o past s) v (ap is_ending d) in
        let first : entry_told user (acts_for o past e s) ≡ cond (bytes_eq (owner (e ∷ log) s) user) one_logout nothing =
        ap told_by_all told_is ∙ (rw (notice, sym own) (told-cond (bytes_eq (owner (e ∷ log) s) user) (Presence presence.LoggedOut ∷ []) ∙ ap (λ t. cond (bytes_eq (owner (e ∷ log) s) user) t nothing) (told-one (Presence presence.LoggedOut))))
        in
        let ends_is : told_ends (acts_for o past e s) ≡ [] =
        ends-session_acts o s e.event.kind e.answer e.decision (running_job o past s) (session o past s)
        ∙ ends-none s e.event.kind e.decision (stays e.decision (session o past s)) (running_job o past s) (ap is_done d)
        in (
          ap told_by_all (filter_map-append (notice_on user) (acts_for o past e s) rest) ∙ (told_by_all-append (notices_on user (acts_for o past e s)) (notices_on user rest) ∙ ap₂ plus first h.0),
          filter_map-append told_end (acts_for o past e s) rest ∙ ap₂ (λ (xs ys : List ℕ). xs ++ ys) ends_is h.1,
        )

-- the live sessions are live
live-all : (p : ℕ → Bool) (xs : List ℕ) → AllByRecursion (λ s. p s ≡ true) (filter p xs)
live-all p [] = tt
live-all p (x ∷ xs) = go (p x) refl (live-all p xs)
  where
    go : (b : Bool) → p x ≡ b → AllByRecursion (λ s. p s ≡ true) (filter p xs) → AllByRecursion (λ s. p s ≡ true) (cond b (x ∷ filter p xs) (filter p xs))
    go true e h = (e, h)
    go false e h = h

-- what a stop adds
stop-added :
    (p : List Entry) (user : List ℕ) (d : Decision) (k : EventKind) (a : Answer) (ends live : List ℕ) → d ≡ decision.Stopped → ends ≡ [] →
    plus (for_each p user (moved_file d a) ends)
    (plus (for_each p user one_login (option_to_list (let_in d k)))
    (for_each p user one_logout (cond (is_stop d) live (cond (is_ending d) (option_to_list (named_session k)) []))))
    ≡ for_each p user one_logout live
stop-added p user d k a ends live x y =
    rw (x, y) (nothing-plus (plus nothing (for_each p user one_logout live)) ∙ nothing-plus (for_each p user one_logout live))

-- what an entry that counts tells of a user is what it adds for the user
counted-told :
    (o : Options) (log : List Entry) (e : Entry) (user : List ℕ) → Comes o log e →
    e.actions ≡ acts_of o (past_of log) e →
    entry_told user e.actions ≡ added o log e user
counted-told o log e user comes acted = by_subject o past e nobody one all
  where
    past : List Entry
    past = past_of log

    k : EventKind
    k = e.event.kind

    d : Decision
    d = e.decision

    fit : due o past e.event.at k e.answer ≡ d
    fit = sym comes.fit

    done : e.actions ≡ subject_acts o past e (subject o past e)
    done = acted ∙ rw comes.counts refl

    -- the three parts of what is added, where the ends that are told are those of a completion and no stop came
    split :
        (s : ℕ) (delivered : Bool) (job : Option Running) → told_ends e.actions ≡ told_ends (completions s k d delivered job) → is_stop d ≡ false →
        added o log e user ≡ parts (e ∷ log) user s k e.answer d delivered job
    split s delivered job x plain = rw (x, plain) refl

    nobody : subject o past e ≡ Nobody → entry_told user e.actions ≡ added o log e user
    nobody h =
        let plain : is_stop d ≡ false = by_test (is_stop d) (λ n. let z : All ≡ Nobody = sym (stop-all o past e n) ∙ h in cc) (λ n. n) in
        let acts_is : e.actions ≡ refused_link k d = done ∙ ap (subject_acts o past e) h in
        let unnamed : (q : ℕ) → named_session k ≡ Some q → ⊥ = λ q named. (let z : Nobody ≡ One q = sym h ∙ named-one o past e q plain named in cc) in
        let lives : is_ending d ≡ false = by_test (is_ending d) (λ x. (let live : IsLive o past k = ending-live o past e.event.at k e.answer (ap is_stop fit ∙ plain) (ap (λ y. ends (life y)) fit ∙ x) in absurd (unnamed live.number live.named))) (λ x. x) in
        let no_login : let_in d k ≡ None = by_option (let_in d k) (λ x. x) (λ q x. absurd (unnamed q (let_in-named d k q x))) in
        ap (entry_told user) acts_is
        ∙ (ap told_by_all (on-refused_link user k d)
        ∙ rw (acts_is, ends-refused_link k d, no_login, plain, lives) refl)

    one : (s : ℕ) → subject o past e ≡ One s → entry_told user e.actions ≡ added o log e user
    one s h =
        let plain : is_stop d ≡ false = one-plain o past e s h in
        let acts_is : e.actions ≡ acts_for o past e s = done ∙ ap (subject_acts o past e) h in
        let about : (q : ℕ) → named_session k ≡ Some q → q ≡ s = λ q named. one-same o past e q s (named-one o past e q plain named) h in
        let told_is : notices_on user e.actions ≡ told_on user k e.answer d (running_job o past s) (session o past s) = ap (notices_on user) acts_is ∙ on-session_acts o user s k e.answer d (running_job o past s) (session o past s) in
        let ends_is : told_ends e.actions ≡ told_ends (completions s k d (stays d (session o past s)) (running_job o past s)) = ap told_ends acts_is ∙ ends-session_acts o s k e.answer d (running_job o past s) (session o past s) in
        by_option (session o past s)
        (λ none.
        ap told_by_all (told_is ∙ ap (told_on user k e.answer d (running_job o past s)) none)
        ∙ (one-gone o past e.event.at (e ∷ log) user s k e.answer d (running_job o past s) fit plain about none
        ∙ sym (split s false (running_job o past s) (ends_is ∙ ap (λ (w : Option Session). told_ends (completions s k d (stays d w) (running_job o past s))) none) plain)))
        (λ v known.
        ap told_by_all (told_is ∙ ap (told_on user k e.answer d (running_job o past s)) known)
        ∙ (one-live o past e.event.at (e ∷ log) user s k e.answer d (running_job o past s) v fit plain about (owner-then o log e s v comes (one-own o past e s h) known)
        ∙ sym (split s (lives_on d) (running_job o past s) (ends_is ∙ ap (λ (w : Option Session). told_ends (completions s k d (stays d w) (running_job o past s))) known) plain)))

    all : subject o past e ≡ All → entry_told user e.actions ≡ added o log e user
    all h =
        let stopped : d ≡ decision.Stopped = stop-is d (all-stop o past e h) in
        let acts_is : e.actions ≡ flat_map (acts_for o past e) (live_sessions o past) = done ∙ ap (subject_acts o past e) h in
        let both = stop-told o log e user (live_sessions o past) comes stopped (live-all (λ s. is_some (session o past s)) (opened_sessions past)) in
        ap (entry_told user) acts_is
        ∙ (both.0
        ∙ sym (stop-added (e ∷ log) user d k e.answer (told_ends e.actions) (live_sessions o past) stopped (ap told_ends acts_is ∙ both.1)))

-- what an entry of a right and acted log tells of a user is what it adds for the user
pub entry-added :
    (o : Options) (log : List Entry) (e : Entry) (user : List ℕ) →
    IsRight o (e ∷ log) → IsActed o (e ∷ log) →
    entry_told user e.actions ≡ added o log e user
unfolding decide acts
entry-added o log e user r a =
    by_test (is_refusal e.decision)
    (λ refused. silent refused (a.1 ∙ rw refused refl))
    (λ counts. counted-told o log e user (record { right = r.0; fit = r.1; counts = counts }) a.1)
  where
    silent : is_refusal e.decision ≡ true → e.actions ≡ [] → entry_told user e.actions ≡ added o log e user
    silent refused none = rw (none, refused-let_in e.decision e.event.kind refused, refused-plain e.decision refused, refused-lives e.decision refused) refl
