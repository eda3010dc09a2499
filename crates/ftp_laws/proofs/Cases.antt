-- Cases on a test, on what may be there, on how an entry meets a session, and on what it completes, each with the equations that it gives.
use Rattle.std.proofs.Common.{◌≡◌, refl, ap, Bool, true, false, List, [], ◌∷◌, ℕ, Option, Some, None}
use Rattle.ftp_events.specs.declared.action.Action.TheVariants as action
use Rattle.ftp_events.specs.declared.decision.Decision.TheVariants as decision
use Rattle.ftp_events.specs.declared.event.EventKind.TheVariants as kind
use Rattle.std.specs.Option.{option_map, option_map_or}
use Rattle.ftp_events.specs.Acts.{cuttings}
use Rattle.ftp_laws.proofs.Common.{Options, Action, Decision, Entry, EventKind, Running, Ticket, completions, concerns, job_ticket, named_session, opens}

-- a test holds or fails
pub by_test : {C : Type 0} (b : Bool) → (b ≡ true → C) → (b ≡ false → C) → C
by_test true holds not_so = holds refl
by_test false holds not_so = not_so refl

-- nothing is there, or a value
pub by_option : {A C : Type 0} (x : Option A) → (x ≡ None → C) → ((y : A) → x ≡ Some y → C) → C
by_option None absent there = absent refl
by_option (Some y) absent there = there y refl

-- an entry opens session s, or is about it, or neither
pub by_part :
    {C : Type 0} (o : Options) (past : List Entry) (e : Entry) (s : ℕ) →
    (opens e s ≡ true → C) →
    (opens e s ≡ false → concerns o past e s ≡ true → C) →
    (opens e s ≡ false → concerns o past e s ≡ false → C) →
    C
by_part o past e s opened own other =
    by_test (opens e s) opened (λ n. by_test (concerns o past e s) (own n) (other n))

-- what holds of no action, of the completion of the job that an event ends, and of the cut of one, holds of what is completed
pub by_completion :
    (P : List Action → Type 0) (s : ℕ) (k : EventKind) (d : Decision) (delivered : Bool) (job : Option Running) →
    P [] → ((t : Ticket) → job_ticket k ≡ Some t → d ≡ decision.Finished → P (action.Completed t delivered ∷ [])) →
    ((r : Running) → job ≡ Some r → d ≡ decision.Cut → P (cuttings s delivered (Some r))) →
    P (completions s k d delivered job)
by_completion P s k decision.Finished delivered job none one cut = go (job_ticket k) refl
  where
    go : (t : Option Ticket) → job_ticket k ≡ t → P (option_map_or (λ t. action.Completed t delivered ∷ []) t [])
    go None x = none
    go (Some t) x = one t x refl
by_completion P s k decision.Cut delivered None none one cut = none
by_completion P s k decision.Cut delivered (Some r) none one cut = cut r refl refl
by_completion P s k d delivered job none one cut = none

-- an event that tells of a job names the session of its ticket
pub job-named : (k : EventKind) (t : Ticket) → job_ticket k ≡ Some t → named_session k ≡ Some t.session
job-named (kind.End u) t e = ap (option_map (λ (x : Ticket). x.session)) e
job-named (kind.Piece u) t e = ap (option_map (λ (x : Ticket). x.session)) e
job-named k t e = cc
