-- What is decided and done on an event hangs on what it reads of the past alone.
use Rattle.std.proofs.Common.{◌≡◌, refl, ◌∙◌, ap, ap₂, ℕ, Bool, true, false, not, ◌||◌, cond, List, [], ◌∷◌, Option, Some, None, Ok, Err}
use Rattle.std.specs.Prelude.{Contains, is_some}
use Rattle.std.specs.Option.{option_and_then, option_map_or, option_or}
use Rattle.std.proofs.lemmas.List.Elements.{Contains-push, Contains-append_right}
use Rattle.ftp_base.specs.declared.login.AuthAnswer.{AuthAnswer}
use Rattle.ftp_base.specs.declared.net.SocketAddr.{SocketAddr}
use Rattle.ftp_base.specs.Net.{is_v6}
use Rattle.ftp_options.specs.Modes.{is_control_port, is_active_off}
use Rattle.ftp_events.specs.declared.decision.Decision.TheVariants as decision
use Rattle.ftp_events.specs.declared.event.Answer.TheVariants.{Header}
use Rattle.ftp_events.specs.declared.event.EventKind.TheVariants as kind
use Rattle.ftp_events.specs.Modes.{in_range}
use Rattle.ftp_events.specs.ConnectionRows.{arrival_row, header_row, holder_row}
use Rattle.ftp_events.specs.LoginRows.{auth_row}
use Rattle.ftp_events.specs.CommandRows.{if_logged_in, address_row, command_row, own_failures}
use Rattle.ftp_events.specs.Text.{port_target}
use Rattle.ftp_events.specs.EndRows.{end_row, piece_row}
use Rattle.ftp_events.specs.Decide.{if_live, around, can_stop, is_stoppable}
use Rattle.ftp_events.specs.Log.{is_stopped}
use Rattle.ftp_events.specs.Lockout.{failures}
use Rattle.ftp_events.specs.Acts.{session_acts}
use Rattle.ftp_events.specs.Isolation.{numbers_in}
use Rattle.ftp_events.specs.Classes.{is_stop}
use Rattle.ftp_events.specs.History.{Nobody, One, All, one_or_nobody}
use Rattle.ftp_laws.proofs.Common.{Subject, subject_acts, IpAddr, Options, Running, Answer, Decision, Entry, EventKind, Session, Target, is_refusal, is_used, named_session, target, holder, holder_of_target, subject, session, running_job, due, acts_of}

-- both pasts have the same holder of a key, and tell the same of that session
pub record HeldAlike (o : Options) (P K : List Entry) (a : IpAddr) (p : ℕ) : Type 0 where
  pub holders : holder o K a p ≡ holder o P a p
  pub sessions : (s : ℕ) → holder o P a p ≡ Some s → session o K s ≡ session o P s

-- what an event reads at a moment is the same in both pasts
pub record ReadsAlike (o : Options) (P K : List Entry) (at : ℕ) (k : EventKind) (answer : Answer) : Type 0 where
  pub numbers : (n : ℕ) → Contains (numbers_in k) n → is_used K n ≡ is_used P n
  pub sessions : (s : ℕ) → named_session k ≡ Some s → session o K s ≡ session o P s
  pub stopped : is_stopped K ≡ is_stopped P
  pub jobs : (s : ℕ) → named_session k ≡ Some s → running_job o K s ≡ running_job o P s
  pub targets : (t : Target) → target o k answer ≡ Some t → HeldAlike o P K t.client t.port
  pub holders :
      (s : ℕ) (v : Session) → named_session k ≡ Some s → session o P s ≡ Some v →
      (p : ℕ) → holder o K v.opening.client p ≡ holder o P v.opening.client p
  pub passwords :
      (s : ℕ) (v : Session) (said : AuthAnswer) → named_session k ≡ Some s → session o P s ≡ Some v →
      auth_row o.lockout at (own_failures o (failures o K) v) said v.login ≡ auth_row o.lockout at (own_failures o (failures o P) v) said v.login

-- a data connection goes the same way
arrival-same :
    (o : Options) (P K : List Entry) (raw : SocketAddr) (a : IpAddr) (p : ℕ) →
    HeldAlike o P K a p →
    arrival_row o K raw a p ≡ arrival_row o P raw a p
arrival-same o P K raw a p h = ap (cond (not (in_range o p)) decision.Turned) (rw h.holders (go (holder o P a p) refl))
  where
    go : (n : Option ℕ) → holder o P a p ≡ n → holder_row o K raw n ≡ holder_row o P raw n
    go None x = refl
    go (Some s) x = rw (h.sessions s x) refl

-- so does a connection behind a proxy
header-same :
    (o : Options) (P K : List Entry) (number : ℕ) (raw : SocketAddr) (trace : ℕ) (answer : Answer) →
    ((t : Target) → target o (kind.Proxied number raw trace) answer ≡ Some t → HeldAlike o P K t.client t.port) →
    header_row o K raw answer ≡ header_row o P raw answer
header-same o P K number raw trace (Header (Ok line)) targets =
    ap (cond (is_v6 line.source.ip || is_v6 line.destination.ip) decision.NotExpected) (by_port (is_control_port o.mode line.destination.port) refl)
  where
    by_port :
        (b : Bool) → is_control_port o.mode line.destination.port ≡ b →
        cond b decision.Opened (arrival_row o K raw line.source.ip line.destination.port)
        ≡ cond b decision.Opened (arrival_row o P raw line.source.ip line.destination.port)
    by_port true x = refl
    by_port false x =
        arrival-same o P K raw line.source.ip line.destination.port
        (targets (record { client = line.source.ip; port = line.destination.port }) (rw x refl))
header-same o P K number raw trace (Header (Err fault)) targets = refl
header-same o P K number raw trace answer targets = refl

-- a PORT of a number that was used in both pasts or in neither is decided the same
address-same :
    (used after : ℕ → Bool) (number : ℕ) (v : Session) (to : Option SocketAddr) →
    used number ≡ after number →
    address_row used (Some number) v to ≡ address_row after (Some number) v to
address-same used after number v None same = refl
address-same used after number v (Some to) same = rw same refl

-- the named session, and then its row
rows-same :
    (o : Options) (P K : List Entry) (n : Option ℕ) (f g : Session → Decision) →
    ((s : ℕ) → n ≡ Some s → session o K s ≡ session o P s) →
    ((s : ℕ) (v : Session) → n ≡ Some s → session o P s ≡ Some v → f v ≡ g v) →
    if_live (option_and_then (session o K) n) f ≡ if_live (option_and_then (session o P) n) g
rows-same o P K None f g sessions same = refl
rows-same o P K (Some s) f g sessions same = rw (sessions s refl) (go (session o P s) refl)
  where
    go : (v : Option Session) → session o P s ≡ v → if_live v f ≡ if_live v g
    go None x = refl
    go (Some v) x = same s v refl x

-- of the job of the session that an event names, a test says the same in both pasts
job-same :
    (test : Option Running → Bool) (o : Options) (P K : List Entry) (k : EventKind) →
    ((s : ℕ) → named_session k ≡ Some s → running_job o K s ≡ running_job o P s) →
    option_map_or (λ s. test (running_job o K s)) (named_session k) false ≡ option_map_or (λ s. test (running_job o P s)) (named_session k) false
job-same test o P K k jobs = go (named_session k) refl
  where
    go :
        (n : Option ℕ) → named_session k ≡ n →
        option_map_or (λ s. test (running_job o K s)) n false ≡ option_map_or (λ s. test (running_job o P s)) n false
    go None x = refl
    go (Some s) x = ap test (jobs s x)

-- the same is decided on the event in both pasts
pub due-same :
    (o : Options) (P K : List Entry) (at : ℕ) (k : EventKind) (answer : Answer) →
    ReadsAlike o P K at k answer →
    due o K at k answer ≡ due o P at k answer
due-same o P K at (kind.Connect s raw local trace) answer reads = rw (reads.numbers s (Contains-push [] s), reads.stopped) refl
due-same o P K at (kind.Proxied number raw trace) answer reads =
    rw (reads.numbers number (Contains-push [] number), reads.stopped, header-same o P K number raw trace answer reads.targets) refl
due-same o P K at (kind.DataIn number raw port) answer reads =
    rw (reads.numbers number (Contains-push [] number), reads.stopped, arrival-same o P K raw raw.ip port (reads.targets _ refl)) refl
due-same o P K at (kind.End ticket) answer reads = ap (end_row ticket answer) (reads.jobs ticket.session refl)
due-same o P K at (kind.Piece ticket) answer reads = ap (piece_row ticket answer) (reads.jobs ticket.session refl)
due-same o P K at kind.Sweep answer reads = refl
due-same o P K at kind.Scavenge answer reads = refl
due-same o P K at kind.Shutdown answer reads = refl
due-same o P K at (kind.Accepted s number raw) answer reads =
    rows-same o P K (Some s) _ _ reads.sessions (λ q v n x. rw (reads.numbers number (Contains-append_right (s ∷ []) (number ∷ []) number (Contains-push [] number))) refl)
due-same o P K at (kind.Port s text None) answer reads = rows-same o P K (Some s) _ _ reads.sessions (λ q v n x. refl)
due-same o P K at (kind.Port s text (Some number)) answer reads =
    rows-same o P K (Some s) _ _ reads.sessions
    (λ q v n x.
    ap (λ d. if_logged_in v (cond (is_active_off o.active_passive) decision.ModeOff d))
    (address-same (is_used K) (is_used P) number v (port_target text) (reads.numbers number (Contains-append_right (s ∷ []) (number ∷ []) number (Contains-push [] number)))))
due-same o P K at (kind.AuthDone s said) answer reads = rows-same o P K (Some s) _ _ reads.sessions (λ q v n x. reads.passwords q v said n x)
due-same o P K at k answer reads =
    rows-same o P K (named_session k) (λ v. command_row o (around o K at k v) k v) (λ v. command_row o (around o P at k v) k v) reads.sessions
    (λ s v n x.
    λ i. command_row o (record {
      holders = λ p. reads.holders s v n x p i;
      failures = failures o P;
      used = is_used P;
      runs = job-same (λ j. is_some j) o P K k reads.jobs i;
      can_stop = job-same is_stoppable o P K k reads.jobs i;
      at = at;
    }) k v)

-- the same is done because of an entry that is about the same sessions in both pasts, of which both tell the same
pub acts-same :
    (o : Options) (P K : List Entry) (e : Entry) →
    holder_of_target o K e.event.kind e.answer ≡ holder_of_target o P e.event.kind e.answer →
    ((s : ℕ) → subject o P e ≡ One s → (session o K s ≡ session o P s) × (running_job o K s ≡ running_job o P s)) →
    (subject o P e ≡ All → subject_acts o K e All ≡ subject_acts o P e All) →
    acts_of o K e ≡ acts_of o P e
acts-same o P K e comes tells all =
    ap (cond (is_refusal e.decision) [])
    (ap (subject_acts o K e) same ∙ go (subject o P e) refl)
  where
    same : subject o K e ≡ subject o P e
    same = ap (λ h. cond (is_stop e.decision) All (one_or_nobody (option_or (named_session e.event.kind) h))) comes

    go : (s : Subject) → subject o P e ≡ s → subject_acts o K e s ≡ subject_acts o P e s
    go All x = all x
    go Nobody x = refl
    go (One s) x = ap₂ (session_acts o s e.event.kind e.answer e.decision) (tells s x).1 (tells s x).0
