-- What each kind of decision leaves of a session, its job and the holds.
use Rattle.std.proofs.Common.{◌≡◌, refl, sym, ap, ◌∙◌, ℕ, ◌+◌, Bool, true, false, cond, ◌&&◌, ◌||◌, [], Option, Some, None, arith, add-zero, eqb-true}
use Rattle.std.specs.Prelude.{◌==◌, nat_eq, unwrap_or}
use Rattle.std.specs.Bool.{then_some}
use Rattle.std.specs.Option.{option_or}
use Rattle.std.specs.HashMap as map
use Rattle.ftp_hub.proofs.Common.{Answer, Decision, EventKind, Jobs, Options, Running, Session, Starts, held_after, is_refusal, kept_running, live_after, lives_on, new_number, next_lane, next_running, notices_of, running_after, same-both, session_acts, session_after, starting, stopped}
use Rattle.ftp_events.specs.declared.decision.Decision.TheVariants as decision
use Rattle.ftp_events.specs.declared.event.Answer.TheVariants as answer
use Rattle.ftp_events.specs.Ages.{is_activity}
use Rattle.ftp_events.specs.Words.{total}
use Rattle.ftp_events.specs.declared.decision.SlotMove.{SlotMove}
use Rattle.ftp_events.specs.declared.decision.SlotMove.TheVariants.{Awaits, Empties, Connects}
use Rattle.ftp_events.specs.Classes.{gives_up, is_ending, is_stop, slot_move}
use Rattle.ftp_events.specs.Opening.{opened_number}
use Rattle.ftp_events.specs.Board.{granted_port, gives_up_hold}
use Rattle.ftp_events.specs.Running.{ended}
use Rattle.ftp_events.specs.Session.{life_by, queued_for, lane_in}
use Rattle.ftp_events.specs.Acts.{stays}
use Rattle.ftp_handlers.specs.Handlers.{held_by}
use Rattle.ftp_laws.proofs.BalanceLemmas.{is_finished, no-completion}
use Rattle.ftp_laws.proofs.RunningLemmas.{running-after}
use Rattle.ftp_hub.proofs.Running.{IsIdle, count-start, running-acts, unstopped}

-- a decision that neither opens nor ends a session, grants no port and gives none up, and is no refusal
pub record Passes (d : Decision) : Type 0 where
  pub counts : is_refusal d ≡ false
  pub plain : is_stop d ≡ false
  pub unopened : (k : EventKind) → opened_number k d ≡ None
  pub no_grant : granted_port d ≡ None
  pub keeps : gives_up_hold d ≡ false
  pub lives : life_by d ≡ None
  pub as_many : (n : ℕ) → live_after d n ≡ n

-- with such a decision the session lives on
pub passes-live : (d : Decision) → Passes d → lives_on d ≡ true
passes-live d passes = ap (λ (told : Option Bool). unwrap_or told true) passes.lives

-- such a decision that is no end or piece of a transfer either, stops none, and sends its session no notice
pub record Comes (d : Decision) : Type 0 where
  pub passes : Passes d
  pub silent : (k : EventKind) (answer : Answer) → notices_of k d answer ≡ 0
  pub unfinished : is_finished d ≡ false
  pub kept : (answer : Answer) (job : Option Running) → kept_running d answer job ≡ job

-- with such a decision no hold changes
pub comes-held : (d : Decision) (s : ℕ) (client waited : Option ℕ) (a p : ℕ) (before : Option ℕ) → Comes d → held_after d s client waited a p before ≡ before
comes-held d s client waited a p before comes = go (slot_move d) comes.passes.keeps
  where
    go : (m : SlotMove) → gives_up m ≡ false → held_by m s client waited a p before ≡ before
    go (Awaits port) h = cc
    go Empties h = cc
    go Connects h = cc
    go m h = refl

-- a value that is put at s is the one of q, where s is q
pub at-key : {A : Type 0} (f g : ℕ → A) (s q : ℕ) → cond (s == q) (f s) (g q) ≡ cond (s == q) (f q) (g q)
at-key {A} f g s q = go (s == q) refl
  where
    go : (b : Bool) → (s == q) ≡ b → cond b (f s) (g q) ≡ cond b (f q) (g q)
    go true h = ap f (eqb-true s q h)
    go false h = refl

-- a table in which the value of s became what f makes of it
pub changed-at :
    {A : Type 0} (table : ℕ → A) (f : A → A) (s q : ℕ) (x : A) → f (table s) ≡ x →
    cond (s == q) x (table q) ≡ cond (s == q) (f (table q)) (table q)
changed-at {A} table f s q x e = ap (λ (y : A). cond (s == q) y (table q)) (sym e) ∙ at-key (λ n. f (table n)) table s q

-- a table stays as it is where a key is given the value that it has
pub put-back : {A : Type 0} (table : ℕ → A) (s q : ℕ) → cond (s == q) (table s) (table q) ≡ table q
put-back table s q = at-key table table s q ∙ same-both (s == q) (table q)

-- the jobs after an entry that ends and marks no transfer, with which one may start
pub jobs-started : (old new : Jobs) (s q : ℕ) (k : EventKind) (answer : Answer) (d : Decision) (v : Session) → is_finished d ≡ false → ((job : Option Running) → kept_running d answer job ≡ job) → Starts old new s (starting k d (map.get nat_eq old s) v) → map.get nat_eq new q ≡ cond (s == q) (next_running k answer d (map.get nat_eq old s) v) (map.get nat_eq old q)
jobs-started old new s q k answer d v unfinished kept begins =
    begins.jobs q
    ∙ sym (at-key (λ n. option_or (starting k d (map.get nat_eq old s) v) (map.get nat_eq old n)) (map.get nat_eq old) s q)
    ∙ ap (λ (x : Option Running). cond (s == q) x (map.get nat_eq old q))
    (sym (kept (next_lane k d (map.get nat_eq old s) v).running ∙ running-after (slot_move d) (new_number k d) (queued_for d k v) (lane_in v (map.get nat_eq old s)) unfinished))

-- how many jobs run after it
pub running-started : (o : Options) (s : ℕ) (k : EventKind) (answer : Answer) (d : Decision) (v : Session) (old new : Jobs) → is_finished d ≡ false → Starts old new s (starting k d (map.get nat_eq old s) v) → map.hash_map_len new ≡ running_after d (session_acts o s k answer d (map.get nat_eq old s) (Some v)) (map.hash_map_len old)
running-started o s k answer d v old new unfinished begins =
    omega (
      arith,
      begins.len,
      running-acts o s k answer d (map.get nat_eq old s) v (map.hash_map_len old),
      ap (total ended) (no-completion s d k (stays d (Some v)) (map.get nat_eq old s) unfinished),
      count-start (starting k d (map.get nat_eq old s) v),
      unstopped d unfinished,
    )

-- a table of jobs in which none starts stays as it is
pub starts-none : (jobs : Jobs) (s : ℕ) → Starts jobs jobs s None
starts-none jobs s = record { jobs = λ q. sym (same-both (s == q) (map.get nat_eq jobs q)); len = sym (add-zero (map.hash_map_len jobs)) }

-- a decision that leaves a live session, its job and the holds as they are, and with which nothing is done
pub record Leaves (d : Decision) : Type 0 where
  pub lives : lives_on d ≡ true
  pub session : (at : ℕ) (k : EventKind) (answer : Answer) (job : Option Running) (v : Session) → session_after at k answer d (notices_of k d answer) job v ≡ v
  pub acts : (o : Options) (s : ℕ) (k : EventKind) (answer : Answer) (job : Option Running) (v : Session) → session_acts o s k answer d job (Some v) ≡ []
  pub runs : (k : EventKind) (answer : Answer) (job : Option Running) (v : Session) → next_running k answer d job v ≡ job
  pub held : (s : ℕ) (client waited : Option ℕ) (a p : ℕ) (before : Option ℕ) → held_after d s client waited a p before ≡ before

-- a refusal is no activity
unmoved : (b : Bool) (at n : ℕ) → unwrap_or (then_some ((b && false) || false) at) n ≡ n
unmoved true at n = refl
unmoved false at n = refl

-- a session with no notice and no transfer more, and no activity, is as it was
same_by :
    (b : Bool) (at : ℕ) (v : Session) →
    record v { active_at = unwrap_or (then_some ((b && false) || false) at) v.active_at; notices = v.notices + 0; tickets = v.tickets + 0 } ≡ v
same_by b at v = λ i. record v { active_at = unmoved b at v.active_at i; notices = add-zero v.notices i; tickets = add-zero v.tickets i }

-- every refusal is such a decision
pub refusal-leaves : (d : Decision) → is_refusal d ≡ true → Leaves d
refusal-leaves decision.UnknownNumber r = record { lives = refl; session = λ at k answer job v. same_by (is_activity k) at v; acts = λ o s k answer job v. refl; runs = λ k answer job v. refl; held = λ s client waited a p before. refl }
refusal-leaves decision.UsedNumber r = record { lives = refl; session = λ at k answer job v. same_by (is_activity k) at v; acts = λ o s k answer job v. refl; runs = λ k answer job v. refl; held = λ s client waited a p before. refl }
refusal-leaves decision.Misplaced r = record { lives = refl; session = λ at k answer job v. same_by (is_activity k) at v; acts = λ o s k answer job v. refl; runs = λ k answer job v. refl; held = λ s client waited a p before. refl }
refusal-leaves decision.NotExpected r = record { lives = refl; session = λ at k answer job v. same_by (is_activity k) at v; acts = λ o s k answer job v. refl; runs = λ k answer job v. refl; held = λ s client waited a p before. refl }
refusal-leaves _ r = cc

-- the job that runs after a decision with which none starts or ends is the one that ran
pub lane-idle : (k : EventKind) (d : Decision) (job : Option Running) (v : Session) → IsIdle d → (next_lane k d job v).running ≡ job
lane-idle k d job v idle =
    running-after (slot_move d) (new_number k d) (queued_for d k v) (lane_in v job) idle.unfinished
    ∙ ap (λ (x : Option Running). option_or x job) (idle.starts k (queued_for d k v) (lane_in v job))

-- where none is marked or counted, the table of jobs stays
pub jobs-idle :
    (jobs : Jobs) (s q : ℕ) (k : EventKind) (answer : Answer) (d : Decision) (v : Session) →
    IsIdle d → ((job : Option Running) → kept_running d answer job ≡ job) →
    map.get nat_eq jobs q ≡ cond (s == q) (next_running k answer d (map.get nat_eq jobs s) v) (map.get nat_eq jobs q)
jobs-idle jobs s q k answer d v idle kept =
    sym (ap (λ (x : Option Running). cond (s == q) x (map.get nat_eq jobs q)) (kept (next_lane k d (map.get nat_eq jobs s) v).running ∙ lane-idle k d (map.get nat_eq jobs s) v idle)
    ∙ put-back (map.get nat_eq jobs) s q)

-- an ending marks and counts no job
pub ending-kept : (d : Decision) (answer : Answer) (job : Option Running) → is_ending d ≡ true → kept_running d answer job ≡ job
ending-kept decision.Aborting answer job h = cc
ending-kept decision.Moved answer job h = cc
ending-kept d answer job h = refl

-- but for a piece that moved, what becomes of the job that runs hangs on no answer
pub kept-unanswered :
    (d : Decision) (given : Answer) (job : Option Running) → (d ≡ decision.Moved → ⊥) →
    kept_running d given job ≡ kept_running d answer.None job
kept-unanswered decision.Aborting given job h = refl
kept-unanswered decision.Moved given job h = absurd (h refl)
kept-unanswered d given job h = refl

-- only an ABOR marks a job
pub kept-unmarked : (d : Decision) (job : Option Running) → (d ≡ decision.Aborting → ⊥) → kept_running d answer.None job ≡ job
kept-unmarked decision.Aborting job h = absurd (h refl)
kept-unmarked decision.Moved job h = refl
kept-unmarked d job h = refl

-- a refusal cuts no job
pub refusal-unstopped : (d : Decision) → is_refusal d ≡ true → stopped d ≡ 0
refusal-unstopped decision.Cut h = cc
refusal-unstopped d h = refl
