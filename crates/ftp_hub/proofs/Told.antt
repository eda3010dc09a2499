-- The lines of sessions tell the sessions.
use Rattle.std.proofs.Common.{◌≡◌, refl, sym, ap, ◌∙◌, subst, ℕ, ◌<◌, Bool, true, false, cond, List, [], ◌∷◌, ◌++◌, length, map, Option, Some, None, eqb-true, eq-eqb}
use Rattle.std.specs.Prelude.{◌==◌, ◌||◌, flat_map, is_some, nat_eq, option_to_list}
use Rattle.std.specs.List.{AllByRecursion}
use Rattle.std.specs.Option.{option_map, option_and_then}
use Rattle.std.proofs.lemmas.Bool.{false≢true}
use Rattle.std.proofs.lemmas.List.{length-map}
use Rattle.std.specs.HashMap as table
use Rattle.std.proofs.lemmas.Option.{same_Some}
use Rattle.ftp_events.specs.Login.{logged_user}
use Rattle.ftp_events.specs.declared.session.Login.{Login}
use Rattle.ftp_events.specs.declared.session.Login.TheVariants as login
use Rattle.ftp_events.specs.declared.session.Slot.{Slot}
use Rattle.ftp_events.specs.declared.session.Slot.TheVariants.{Empty, Waits, Linked}
use Rattle.ftp_laws.specs.Census.{IsAscending, has as is_listed}
use Rattle.ftp_laws.proofs.TableLemmas.{same-both}
use Rattle.ftp_hub.proofs.Common.{Jobs, Pending, Running, Session}
use Rattle.ftp_hub.specs.declared.state.JobLine.{JobLine}
use Rattle.ftp_hub.specs.declared.state.QueuedLine.{QueuedLine}
use Rattle.ftp_hub.specs.declared.state.SessionLine.{SessionLine}
use Rattle.ftp_hub.specs.declared.state.SlotLine.{SlotLine}
use Rattle.ftp_hub.specs.State.{AreOwn, AreTidy, IsAbsolute, IsTidy, Sessions, TellsJobs, TellsSessions, bare_session, job_line, job_told, kept_of, told_running, line_of, told_login, queued_line, queued_told, session_by_lines, session_line, session_told, slot_line, slot_told, told_of, with_slot, with_transfer}

-- the lines of a kind, of the sessions of these numbers
abbrev pub told_at : {A : Type 0} → (ℕ → Session → Option A) → (ℕ → Option Session) → ℕ → List A
told_at tells live s = option_to_list (option_and_then (tells s) (live s))

-- the line of a number is found where the number is among them
lines-found :
    {A : Type 0} (number : A → ℕ) (f : ℕ → Option A) (numbers : List ℕ) (s : ℕ) →
    ((n : ℕ) (a : A) → f n ≡ Some a → number a ≡ n) →
    line_of number (flat_map (λ n. option_to_list (f n)) numbers) s ≡ cond (is_listed numbers s) (f s) None
lines-found number f [] s own = refl
lines-found {A = A} number f (n ∷ numbers) s own = go (f n) refl (n == s) refl (lines-found number f numbers s own)
  where
    behind : List A
    behind = flat_map (λ n. option_to_list (f n)) numbers

    go :
        (x : Option A) → f n ≡ x → (b : Bool) → (n == s) ≡ b →
        line_of number behind s ≡ cond (is_listed numbers s) (f s) None →
        line_of number (option_to_list x ++ behind) s ≡ cond (b || is_listed numbers s) (f s) None
    go None e true h rest =
        let none : f s ≡ None = subst (λ (m : ℕ). f m ≡ None) (eqb-true n s h) e in
        rest ∙ ap (λ x. cond (is_listed numbers s) x None) none ∙ same-both (is_listed numbers s) None ∙ sym none
    go None e false h rest = rest
    go (Some a) e true h rest =
        ap (λ m. cond (m == s) (Some a) (line_of number behind s)) (own n a e)
        ∙ ap (λ b. cond b (Some a) (line_of number behind s)) h
        ∙ sym e ∙ ap f (eqb-true n s h)
    go (Some a) e false h rest =
        ap (λ m. cond (m == s) (Some a) (line_of number behind s)) (own n a e)
        ∙ ap (λ b. cond b (Some a) (line_of number behind s)) h
        ∙ rest

-- what is so by the second of two tests is so by both
or-more : (a b : Bool) → b ≡ true → (a || b) ≡ true
or-more true b h = refl
or-more false b h = h

-- a login is told whole
login-back : (l : Login) → told_login (told_of l) ≡ l
login-back login.New = refl
login-back login.Named = refl
login-back login.Checking = refl
login-back login.LoggedIn = refl

-- its lines tell all of a session
tidy-back : (s : ℕ) (v : Session) → IsTidy s v → with_transfer (queued_told s v) (with_slot (slot_told s v) (bare_session (session_told s v))) ≡ v
tidy-back s v t = go v.slot v.pending refl refl
  where
    line : Pending → QueuedLine
    line p = record { session = s; nr = p.ticket.nr; offset = p.offset; command = p.command; path = p.path }

    waits : (p : Pending) → v.pending ≡ Some p → Some (record { ticket = record { session = s; nr = p.ticket.nr }; user = logged_user (told_login (told_of v.login)) v.name; command = p.command; path = p.path; offset = p.offset }) ≡ v.pending
    waits p h =
        let user : logged_user (told_login (told_of v.login)) v.name ≡ p.user = ap (λ (l : Login). logged_user l v.name) (login-back v.login) ∙ sym (t.user p h) in
        let same : record { ticket = record { session = s; nr = p.ticket.nr }; user = logged_user (told_login (told_of v.login)) v.name; command = p.command; path = p.path; offset = p.offset } ≡ p =
        λ i. record p { ticket = record { session = sym (t.own p h) i; nr = p.ticket.nr }; user = user i }
        in
        ap Some same ∙ sym h

    go :
        (k : Slot) (p : Option Pending) → v.slot ≡ k → v.pending ≡ p →
        with_transfer (option_map line p) (with_slot (option_map (λ what. record { session = s; at = v.slot_at; what = what }) (kept_of k)) (bare_session (session_told s v))) ≡ v
    go Empty None hk hp = λ i. record v { login = login-back v.login i; slot = sym hk i; slot_at = sym (t.aged hk) i; pending = sym hp i }
    go (Waits port) None hk hp = λ i. record v { login = login-back v.login i; slot = sym hk i; pending = sym hp i }
    go (Linked number) None hk hp = λ i. record v { login = login-back v.login i; slot = sym hk i; pending = sym hp i }
    go Empty (Some p) hk hp = λ i. record v { login = login-back v.login i; slot = sym hk i; slot_at = sym (t.aged hk) i; pending = waits p hp i }
    go (Waits port) (Some p) hk hp = λ i. record v { login = login-back v.login i; slot = sym hk i; pending = waits p hp i }
    go (Linked number) (Some p) hk hp = λ i. record v { login = login-back v.login i; slot = sym hk i; pending = waits p hp i }

-- the lines of session s are of its number
session-own-line : (live : ℕ → Option Session) (n : ℕ) (a : SessionLine) → option_and_then (λ v. Some (session_told n v)) (live n) ≡ Some a → a.session ≡ n
session-own-line live n a h = go (live n) h
  where
    go : (x : Option Session) → option_and_then (λ v. Some (session_told n v)) x ≡ Some a → a.session ≡ n
    go None e = cc
    go (Some v) e = sym (ap (λ (line : SessionLine). line.session) (same_Some _ _ e))

slot-own-line : (live : ℕ → Option Session) (n : ℕ) (a : SlotLine) → option_and_then (slot_told n) (live n) ≡ Some a → a.session ≡ n
slot-own-line live n a h = go (live n) h
  where
    of : (v : Session) (k : Slot) → option_map (λ what. record { session = n; at = v.slot_at; what = what }) (kept_of k) ≡ Some a → a.session ≡ n
    of v Empty e = cc
    of v (Waits port) e = sym (ap (λ (line : SlotLine). line.session) (same_Some _ _ e))
    of v (Linked number) e = sym (ap (λ (line : SlotLine). line.session) (same_Some _ _ e))

    go : (x : Option Session) → option_and_then (slot_told n) x ≡ Some a → a.session ≡ n
    go None e = cc
    go (Some v) e = of v v.slot e

queued-own-line : (live : ℕ → Option Session) (n : ℕ) (a : QueuedLine) → option_and_then (queued_told n) (live n) ≡ Some a → a.session ≡ n
queued-own-line live n a h = go (live n) h
  where
    of : (p : Option Pending) → option_map (λ (p : Pending). record { session = n; nr = p.ticket.nr; offset = p.offset; command = p.command; path = p.path }) p ≡ Some a → a.session ≡ n
    of None e = cc
    of (Some p) e = sym (ap (λ (line : QueuedLine). line.session) (same_Some _ _ e))

    go : (x : Option Session) → option_and_then (queued_told n) x ≡ Some a → a.session ≡ n
    go None e = cc
    go (Some v) e = of v.pending e

-- each session has one line, in order of the numbers
told-numbers :
    (live : ℕ → Option Session) (numbers : List ℕ) →
    ((s : ℕ) → is_listed numbers s ≡ true → is_some (live s) ≡ true) →
    map (λ (line : SessionLine). line.session) (flat_map (told_at (λ s v. Some (session_told s v)) live) numbers) ≡ numbers
told-numbers live [] all = refl
told-numbers live (n ∷ numbers) all = go (live n) (all n (rw (eq-eqb n n refl) refl)) (told-numbers live numbers (λ s h. all s (or-more (n == s) (is_listed numbers s) h)))
  where
    behind : List SessionLine
    behind = flat_map (told_at (λ s v. Some (session_told s v)) live) numbers

    go :
        (x : Option Session) → is_some x ≡ true → map (λ (line : SessionLine). line.session) behind ≡ numbers →
        map (λ (line : SessionLine). line.session) (option_to_list (option_and_then (λ v. Some (session_told n v)) x) ++ behind) ≡ n ∷ numbers
    go None h rest = cc
    go (Some v) h rest = ap (λ ns. n ∷ ns) rest

-- the numbers of lines, of sessions in order, are in order
pub lines-above :
    {A : Type 0} (number : A → ℕ) (f : ℕ → Option A) (m : ℕ) (numbers : List ℕ) →
    ((n : ℕ) (a : A) → f n ≡ Some a → number a ≡ n) → AllByRecursion (λ n. m < n) numbers →
    AllByRecursion (λ n. m < n) (map number (flat_map (λ n. option_to_list (f n)) numbers))
lines-above number f m [] own above = tt
lines-above {A = A} number f m (n ∷ numbers) own above = go (f n) refl (lines-above number f m numbers own above.1)
  where
    behind : List A
    behind = flat_map (λ n. option_to_list (f n)) numbers

    go : (x : Option A) → f n ≡ x → AllByRecursion (λ n. m < n) (map number behind) → AllByRecursion (λ n. m < n) (map number (option_to_list x ++ behind))
    go None e rest = rest
    go (Some a) e rest = (subst (λ k. m < k) (sym (own n a e)) above.0, rest)

pub lines-ascend :
    {A : Type 0} (number : A → ℕ) (f : ℕ → Option A) (numbers : List ℕ) →
    ((n : ℕ) (a : A) → f n ≡ Some a → number a ≡ n) → IsAscending numbers →
    IsAscending (map number (flat_map (λ n. option_to_list (f n)) numbers))
lines-ascend number f [] own up = tt
lines-ascend {A = A} number f (n ∷ numbers) own up = go (f n) refl (lines-above number f n numbers own up.0) (lines-ascend number f numbers own up.1)
  where
    behind : List A
    behind = flat_map (λ n. option_to_list (f n)) numbers

    go : (x : Option A) → f n ≡ x → AllByRecursion (λ k. n < k) (map number behind) → IsAscending (map number behind) → IsAscending (map number (option_to_list x ++ behind))
    go None e above rest = rest
    go (Some a) e above rest = (subst (λ m. AllByRecursion (λ k. m < k) (map number behind)) (sym (own n a e)) above, rest)

-- what holds of the line of each session holds of all
pub lines-hold :
    {A : Type 0} (P : A → Type 0) (f : ℕ → Option A) (numbers : List ℕ) → ((n : ℕ) (a : A) → f n ≡ Some a → P a) →
    AllByRecursion P (flat_map (λ n. option_to_list (f n)) numbers)
lines-hold P f [] each = tt
lines-hold {A = A} P f (n ∷ numbers) each = go (f n) refl (lines-hold P f numbers each)
  where
    behind : List A
    behind = flat_map (λ n. option_to_list (f n)) numbers

    go : (x : Option A) → f n ≡ x → AllByRecursion P behind → AllByRecursion P (option_to_list x ++ behind)
    go None e rest = rest
    go (Some a) e rest = (each n a e, rest)

-- the directory in the line of a session
line-absolute : (live : ℕ → Option Session) (n : ℕ) (a : SessionLine) → AreTidy live → option_and_then (λ v. Some (session_told n v)) (live n) ≡ Some a → IsAbsolute a.cwd
line-absolute live n a tidy h = go (live n) refl h
  where
    go : (x : Option Session) → live n ≡ x → option_and_then (λ v. Some (session_told n v)) x ≡ Some a → IsAbsolute a.cwd
    go None k e = cc
    go (Some v) k e = subst (λ (line : SessionLine). IsAbsolute line.cwd) (same_Some _ _ e) (tidy n v k).absolute

-- the path in the line of a transfer
line-path : (live : ℕ → Option Session) (n : ℕ) (a : QueuedLine) → AreTidy live → option_and_then (queued_told n) (live n) ≡ Some a → IsAbsolute a.path
line-path live n a tidy h = go (live n) refl h
  where
    of : (v : Session) (p : Option Pending) → live n ≡ Some v → v.pending ≡ p → option_map (λ (p : Pending). record { session = n; nr = p.ticket.nr; offset = p.offset; command = p.command; path = p.path }) p ≡ Some a → IsAbsolute a.path
    of v None k q e = cc
    of v (Some p) k q e = subst (λ (line : QueuedLine). IsAbsolute line.path) (same_Some _ _ e) ((tidy n v k).path p q)

    go : (x : Option Session) → live n ≡ x → option_and_then (queued_told n) x ≡ Some a → IsAbsolute a.path
    go None k e = cc
    go (Some v) k e = of v v.pending k refl e

-- where a session has a line of a kind, it is live
slot-live : (s : ℕ) (x : Option Session) → is_some (cond (is_some x) (option_and_then (slot_told s) x) None) ≡ true → is_some (cond (is_some x) (option_and_then (λ v. Some (session_told s v)) x) None) ≡ true
slot-live s None h = h
slot-live s (Some v) h = refl

-- where its transfer waits in a slot, that has a line
queued-slot : (s : ℕ) (x : Option Session) → ((v : Session) → x ≡ Some v → IsTidy s v) → is_some (cond (is_some x) (option_and_then (queued_told s) x) None) ≡ true → is_some (cond (is_some x) (option_and_then (slot_told s) x) None) ≡ true
queued-slot s None tidy h = h
queued-slot s (Some v) tidy h = go v.slot v.pending refl refl h
  where
    go :
        (k : Slot) (p : Option Pending) → v.slot ≡ k → v.pending ≡ p →
        is_some {T = QueuedLine} (option_map (λ (p : Pending). record { session = s; nr = p.ticket.nr; offset = p.offset; command = p.command; path = p.path }) p) ≡ true →
        is_some {T = SlotLine} (option_map (λ what. record { session = s; at = v.slot_at; what = what }) (kept_of k)) ≡ true
    go k None hk hp h = absurd (false≢true h)
    go Empty (Some p) hk hp h = absurd ((tidy v refl).placed p hp hk)
    go (Waits port) (Some p) hk hp h = refl
    go (Linked number) (Some p) hk hp h = refl

-- the lines of all live sessions tell the sessions
pub tells-sessions :
    (t : Sessions) (numbers : List ℕ) (sessions : List SessionLine) (slots : List SlotLine) (queued : List QueuedLine) →
    IsAscending numbers → ((s : ℕ) → is_listed numbers s ≡ is_some (table.get nat_eq t s)) → length numbers ≡ table.hash_map_len t →
    sessions ≡ flat_map (told_at (λ s v. Some (session_told s v)) (table.get nat_eq t)) numbers →
    slots ≡ flat_map (told_at slot_told (table.get nat_eq t)) numbers →
    queued ≡ flat_map (told_at queued_told (table.get nat_eq t)) numbers →
    AreTidy (table.get nat_eq t) →
    TellsSessions t sessions slots queued
tells-sessions t numbers sessions slots queued up all len are kept waits tidy =
    record {
      told = told;
      len = sym (length-map sessions (λ (line : SessionLine). line.session)) ∙ ap length same_numbers ∙ len;
      form = record {
        sessions_rise = subst IsAscending (sym same_numbers) up;
        slots_rise = subst (λ ls. IsAscending (map (λ (line : SlotLine). line.session) ls)) (sym kept) (lines-ascend (λ (line : SlotLine). line.session) (λ n. option_and_then (slot_told n) (live n)) numbers (slot-own-line live) up);
        queued_rise = subst (λ ls. IsAscending (map (λ (line : QueuedLine). line.session) ls)) (sym waits) (lines-ascend (λ (line : QueuedLine). line.session) (λ n. option_and_then (queued_told n) (live n)) numbers (queued-own-line live) up);
        live = λ s h. ap is_some (session_is s) ∙ slot-live s (live s) (sym (ap is_some (slot_is s)) ∙ h);
        placed = λ s h. ap is_some (slot_is s) ∙ queued-slot s (live s) (tidy s) (sym (ap is_some (queued_is s)) ∙ h);
        absolute = subst (AllByRecursion (λ (line : SessionLine). IsAbsolute line.cwd)) (sym are) (lines-hold (λ (line : SessionLine). IsAbsolute line.cwd) (λ n. option_and_then (λ v. Some (session_told n v)) (live n)) numbers (λ n a h. line-absolute live n a tidy h));
        paths = subst (AllByRecursion (λ (line : QueuedLine). IsAbsolute line.path)) (sym waits) (lines-hold (λ (line : QueuedLine). IsAbsolute line.path) (λ n. option_and_then (queued_told n) (live n)) numbers (λ n a h. line-path live n a tidy h));
      };
    }
  where
    live : ℕ → Option Session
    live = table.get nat_eq t

    -- the line of a kind, of session s
    found :
        {A : Type 0} (number : A → ℕ) (tells : ℕ → Session → Option A) (lines : List A) (s : ℕ) →
        ((n : ℕ) (a : A) → option_and_then (tells n) (live n) ≡ Some a → number a ≡ n) →
        lines ≡ flat_map (told_at tells live) numbers →
        line_of number lines s ≡ cond (is_some (live s)) (option_and_then (tells s) (live s)) None
    found number tells lines s own same =
        ap (λ ls. line_of number ls s) same
        ∙ lines-found number (λ n. option_and_then (tells n) (live n)) numbers s own
        ∙ ap (λ b. cond b (option_and_then (tells s) (live s)) None) (all s)

    same_numbers : map (λ (line : SessionLine). line.session) sessions ≡ numbers
    same_numbers = ap (map (λ (line : SessionLine). line.session)) are ∙ told-numbers live numbers (λ s h. sym (all s) ∙ h)

    session_is : (s : ℕ) → session_line sessions s ≡ cond (is_some (live s)) (option_and_then (λ v. Some (session_told s v)) (live s)) None
    session_is s = found (λ (line : SessionLine). line.session) (λ n v. Some (session_told n v)) sessions s (session-own-line live) are

    slot_is : (s : ℕ) → slot_line slots s ≡ cond (is_some (live s)) (option_and_then (slot_told s) (live s)) None
    slot_is s = found (λ (line : SlotLine). line.session) slot_told slots s (slot-own-line live) kept

    queued_is : (s : ℕ) → queued_line queued s ≡ cond (is_some (live s)) (option_and_then (queued_told s) (live s)) None
    queued_is s = found (λ (line : QueuedLine). line.session) queued_told queued s (queued-own-line live) waits

    told : (s : ℕ) → session_by_lines sessions slots queued s ≡ live s
    told s =
        ap (λ x. option_map (with_transfer (queued_line queued s)) (option_map (with_slot (slot_line slots s)) (option_map bare_session x))) (session_is s)
        ∙ ap (λ k. option_map (with_transfer (queued_line queued s)) (option_map (with_slot k) (option_map bare_session (cond (is_some (live s)) (option_and_then (λ v. Some (session_told s v)) (live s)) None)))) (slot_is s)
        ∙ ap (λ q. option_map (with_transfer q) (option_map (with_slot (cond (is_some (live s)) (option_and_then (slot_told s) (live s)) None)) (option_map bare_session (cond (is_some (live s)) (option_and_then (λ v. Some (session_told s v)) (live s)) None)))) (queued_is s)
        ∙ go (live s) refl
      where
        go :
            (x : Option Session) → live s ≡ x →
            option_map (with_transfer (cond (is_some x) (option_and_then (queued_told s) x) None)) (option_map (with_slot (cond (is_some x) (option_and_then (slot_told s) x) None)) (option_map bare_session (cond (is_some x) (option_and_then (λ v. Some (session_told s v)) x) None))) ≡ x
        go None h = refl
        go (Some v) h = ap Some (tidy-back s v (tidy s v h))

-- the line of the job of session s is of its number
job-own-line : (jobs : ℕ → Option Running) (n : ℕ) (a : JobLine) → AreOwn jobs → option_and_then (λ r. Some (job_told r)) (jobs n) ≡ Some a → a.job.ticket.session ≡ n
job-own-line jobs n a own h = go (jobs n) refl h
  where
    go : (x : Option Running) → jobs n ≡ x → option_and_then (λ r. Some (job_told r)) x ≡ Some a → a.job.ticket.session ≡ n
    go None k e = cc
    go (Some r) k e = sym (ap (λ (line : JobLine). line.job.ticket.session) (same_Some _ _ e)) ∙ (own n r k).0

-- the path in the line of a job
job-path : (jobs : ℕ → Option Running) (n : ℕ) (a : JobLine) → AreOwn jobs → option_and_then (λ r. Some (job_told r)) (jobs n) ≡ Some a → IsAbsolute a.job.path
job-path jobs n a own h = go (jobs n) refl h
  where
    go : (x : Option Running) → jobs n ≡ x → option_and_then (λ r. Some (job_told r)) x ≡ Some a → IsAbsolute a.job.path
    go None k e = cc
    go (Some r) k e = subst (λ (line : JobLine). IsAbsolute line.job.path) (same_Some _ _ e) (own n r k).1

-- the lines of the jobs of these sessions
abbrev pub jobs_at : (ℕ → Option Running) → ℕ → List JobLine
jobs_at jobs s = option_to_list (option_and_then (λ r. Some (job_told r)) (jobs s))

-- each job has one line, in order of the sessions
job-numbers :
    (jobs : ℕ → Option Running) (numbers : List ℕ) → AreOwn jobs →
    ((s : ℕ) → is_listed numbers s ≡ true → is_some (jobs s) ≡ true) →
    map (λ (line : JobLine). line.job.ticket.session) (flat_map (jobs_at jobs) numbers) ≡ numbers
job-numbers jobs [] own all = refl
job-numbers jobs (n ∷ numbers) own all = go (jobs n) refl (all n (rw (eq-eqb n n refl) refl)) (job-numbers jobs numbers own (λ s h. all s (or-more (n == s) (is_listed numbers s) h)))
  where
    behind : List JobLine
    behind = flat_map (jobs_at jobs) numbers

    go :
        (x : Option Running) → jobs n ≡ x → is_some x ≡ true → map (λ (line : JobLine). line.job.ticket.session) behind ≡ numbers →
        map (λ (line : JobLine). line.job.ticket.session) (option_to_list (option_and_then (λ r. Some (job_told r)) x) ++ behind) ≡ n ∷ numbers
    go None k h rest = cc
    go (Some r) k h rest = ap (λ m. m ∷ map (λ (line : JobLine). line.job.ticket.session) behind) (own n r k).0 ∙ ap (λ ns. n ∷ ns) rest

-- the lines of all jobs tell the jobs
pub tells-jobs :
    (t : Jobs) (numbers : List ℕ) (lines : List JobLine) →
    IsAscending numbers → ((s : ℕ) → is_listed numbers s ≡ is_some (table.get nat_eq t s)) → length numbers ≡ table.hash_map_len t →
    lines ≡ flat_map (jobs_at (table.get nat_eq t)) numbers →
    AreOwn (table.get nat_eq t) →
    TellsJobs t lines
tells-jobs t numbers lines up all len are own =
    record {
      told = told;
      len = sym (length-map lines (λ (line : JobLine). line.job.ticket.session)) ∙ ap length same_numbers ∙ len;
      form = record {
        in_order = subst IsAscending (sym same_numbers) up;
        paths = subst (AllByRecursion (λ (line : JobLine). IsAbsolute line.job.path)) (sym are) (lines-hold (λ (line : JobLine). IsAbsolute line.job.path) (λ n. option_and_then (λ r. Some (job_told r)) (jobs n)) numbers (λ n a h. job-path jobs n a own h));
      };
    }
  where
    jobs : ℕ → Option Running
    jobs = table.get nat_eq t

    same_numbers : map (λ (line : JobLine). line.job.ticket.session) lines ≡ numbers
    same_numbers = ap (map (λ (line : JobLine). line.job.ticket.session)) are ∙ job-numbers jobs numbers own (λ s h. sym (all s) ∙ h)

    told : (s : ℕ) → option_map told_running (job_line lines s) ≡ jobs s
    told s =
        ap (λ ls. option_map told_running (job_line ls s)) are
        ∙ ap (option_map told_running) (lines-found (λ (line : JobLine). line.job.ticket.session) (λ n. option_and_then (λ r. Some (job_told r)) (jobs n)) numbers s (λ n a. job-own-line jobs n a own))
        ∙ ap (λ b. option_map told_running (cond b (option_and_then (λ r. Some (job_told r)) (jobs s)) None)) (all s)
        ∙ go (jobs s)
      where
        go : (x : Option Running) → option_map told_running (cond (is_some x) (option_and_then (λ r. Some (job_told r)) x) None) ≡ x
        go None = refl
        go (Some r) = refl
