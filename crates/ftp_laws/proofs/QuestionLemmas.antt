-- How each question changes with an entry.
use Rattle.std.proofs.Common.{◌≡◌, refl, sym, ◌∙◌, ap, subst, ℕ, Bool, true, false, not, ◌&&◌, cond, List, ◌∷◌, Option, Some, None, [], eq-eqb}
use Rattle.std.specs.Prelude.{count_by, unwrap_or}
use Rattle.std.specs.Bool.{then_some}
use Rattle.std.proofs.lemmas.Bool.{or_right}
use Rattle.std.proofs.lemmas.Option.{same_Some}
use Rattle.std.specs.Option.{option_map}
use Rattle.ftp_events.specs.declared.decision.Decision.TheVariants.{Opened}
use Rattle.ftp_events.specs.declared.session.Slot.TheVariants.{Empty}
use Rattle.ftp_events.specs.Notices.{is_notice_to}
use Rattle.ftp_events.specs.Ages.{is_activity, active_at_by}
use Rattle.ftp_events.specs.Session.{session_after, is_live, session_by_history, next_running, new_session}
use Rattle.ftp_laws.proofs.Common.{Options, Running, Entry, Session, Opening, is_refusal, past_of, opened_number, opening_by, opener, concerns, opens, history, lane, lives_on, session, running_job, Lane}
use Rattle.ftp_laws.proofs.ClassLemmas.{opened-is}

-- a refused entry is not in the past
pub counting-refused :
    (e : Entry) (log : List Entry) →
    is_refusal e.decision ≡ true →
    past_of (e ∷ log) ≡ past_of log
counting-refused e log r = rw r refl

-- every other entry is
pub counting-counts :
    (e : Entry) (log : List Entry) →
    is_refusal e.decision ≡ false →
    past_of (e ∷ log) ≡ e ∷ past_of log
counting-counts e log r = rw r refl

-- the lane of a session in which nothing waits or runs
abbrev pub empty_lane : Lane
empty_lane = record { slot = Empty; pending = None; running = None }

-- an entry that does not open a session leaves how it came
pub opener-other :
    (past : List Entry) (e : Entry) (s : ℕ) →
    opens e s ≡ false → opener (e ∷ past) s ≡ opener past s
opener-other past e s n = rw n refl

-- what an entry makes of a live session, with the job that ran before it
abbrev pub session_by : ℕ → Entry → Option Running → Session → Session
session_by s e job v = session_after e.event.at e.event.kind e.answer e.decision (count_by (is_notice_to s) e.actions) job v

-- a live session is what its history and its opener tell
pub record IsTold (s : ℕ) (h : List Entry) (opener : Option Opening) (v : Session) : Type 0 where
  pub alive : is_live h ≡ true
  pub opening : opener ≡ Some v.opening
  pub told : session_by_history s h v.opening ≡ v

-- a session that is there is told by its history
pub told-by :
    (s : ℕ) (h : List Entry) (b : Bool) (opening : Option Opening) (v : Session) →
    is_live h ≡ b →
    cond b (option_map (session_by_history s h) opening) None ≡ Some v →
    IsTold s h opening v
told-by s h true (Some op) v l e =
    let same : session_by_history s h op ≡ v = same_Some _ _ e in
    record { alive = l; opening = ap (λ (w : Session). Some w.opening) same; told = ap (λ (w : Session). session_by_history s h w.opening) (sym same) ∙ same }
told-by s h true None v l e = cc
told-by s h false opening v l e = cc

-- what is known of a live session
pub session-told :
    (o : Options) (past : List Entry) (s : ℕ) (v : Session) →
    session o past s ≡ Some v →
    IsTold s (history o past s) (opener past s) v
session-told o past s v known = told-by s (history o past s) (is_live (history o past s)) (opener past s) v refl known

-- of an entry after a past
module _ (o : Options) (past : List Entry) (e : Entry) where
  -- that opens no session s
  module _ (s : ℕ) (n : opens e s ≡ false) where
    -- one that does not concern the session is not in its history
    pub history-other : concerns o past e s ≡ false → history o (e ∷ past) s ≡ history o past s
    history-other c = rw (n, c) refl

    -- one that concerns it is
    pub history-own : concerns o past e s ≡ true → history o (e ∷ past) s ≡ e ∷ history o past s
    history-own c = rw (n, c) refl

    -- what an entry neither opens nor concerns stays
    pub session-other : concerns o past e s ≡ false → session o (e ∷ past) s ≡ session o past s
    session-other c = rw (n, c) refl

    -- nor does the job that runs change
    pub running-other : concerns o past e s ≡ false → running_job o (e ∷ past) s ≡ running_job o past s
    running-other c = ap (λ h. (lane h).running) (history-other c)

  -- a session that is opened has the empty lane
  pub lane-opened : (s : ℕ) → opens e s ≡ true → lane (history o (e ∷ past) s) ≡ empty_lane
  lane-opened s n =
      let start : history o (e ∷ past) s ≡ e ∷ [] = rw n refl in
      let bare : lane (e ∷ []) ≡ empty_lane = rw (opened-is e.event.kind e.decision s n) refl in
      ap lane start ∙ bare

  -- the session after an entry is said from the entry and the session before it
  pub session-own :
      (s : ℕ) (v : Session) →
      session o past s ≡ Some v → opens e s ≡ false →
      concerns o past e s ≡ true →
      session o (e ∷ past) s ≡ cond (lives_on e.decision) (Some (session_by s e (running_job o past s) v)) None
  session-own s v known n c =
      let h = history o past s in
      let t : IsTold s h (opener past s) v = session-told o past s v known in
      rw (n, c, t.opening, t.alive)
      (subst (λ (w : Session). cond (lives_on e.decision) (Some (session_by_history s (e ∷ h) w.opening)) None ≡ cond (lives_on e.decision) (Some (session_by s e (running_job o past s) w)) None) t.told refl)

  -- so is the job that runs then
  pub running-own :
      (s : ℕ) (v : Session) →
      session o past s ≡ Some v → opens e s ≡ false →
      concerns o past e s ≡ true →
      running_job o (e ∷ past) s ≡ next_running e.event.kind e.answer e.decision (running_job o past s) v
  running-own s v known n c =
      let h = history o past s in
      let t : IsTold s h (opener past s) v = session-told o past s v known in
      ap (λ l. (lane l).running) (history-own s n c) ∙
      subst (λ (w : Session). (lane (e ∷ h)).running ≡ next_running e.event.kind e.answer e.decision (running_job o past s) w) t.told refl

  -- the session after it was opened
  pub session-opened :
      (s : ℕ) (opening : Opening) →
      opened_number e.event.kind e.decision ≡ Some s →
      e.decision ≡ Opened →
      opening_by e.event.kind e.answer ≡ Some opening →
      e.actions ≡ [] →
      session o (e ∷ past) s ≡ Some (new_session e.event.at opening)
  session-opened s opening n d b a =
      let begun : unwrap_or (active_at_by e.event.kind Opened e.event.at) 0 ≡ e.event.at =
      ap (λ x. unwrap_or (then_some x e.event.at) 0) (or_right (is_activity e.event.kind && not (is_refusal Opened)) true refl) in
      rw (n, eq-eqb s s refl, d, b, a) (ap (λ at. Some (record (new_session e.event.at opening) { active_at = at })) begun)
