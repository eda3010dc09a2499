-- What is left after a stop.
use Rattle.std.proofs.Common.{◌≡◌, refl, sym, ◌∙◌, ap, ℕ, Bool, true, false, true≢false, not, ◌&&◌, ◌||◌, cond, List, ◌∷◌, Option, Some, None, arith, inl, inr}
use Rattle.std.specs.Prelude.{is_some, ◌⊎◌}
use Rattle.std.specs.Option.{option_and_then}
use Rattle.std.proofs.lemmas.Bool.{and_parts, or_parts, or_right}
use Rattle.ftp_base.specs.Net.{is_v6}
use Rattle.ftp_options.specs.Modes.{is_pooled, is_proxy}
use Rattle.ftp_transfer.specs.declared.job.Job.{Job}
use Rattle.ftp_events.specs.declared.decision.Decision.TheVariants as decision
use Rattle.ftp_events.specs.declared.event.Answer.TheVariants.{Done, Moved}
use Rattle.ftp_events.specs.declared.event.EventKind.TheVariants as kind
use Rattle.ftp_events.specs.Classes.{is_stop}
use Rattle.ftp_events.specs.CommandRows.{command_row}
use Rattle.ftp_events.specs.ConnectionRows.{header_row, arrival_row}
use Rattle.ftp_events.specs.Decide.{if_live, around}
use Rattle.ftp_events.specs.EndRows.{can_end, can_move, outcome_row, moved_row, end_row, piece_row}
use Rattle.ftp_events.specs.Headline.{is_header, is_barred, peer_of}
use Rattle.ftp_events.specs.Leads.{header_to_read}
use Rattle.ftp_events.specs.Log.{is_stopped}
use Rattle.ftp_events.specs.Transfer.{same_ticket}
use Rattle.ftp_laws.proofs.Common.{IpAddr, Options, is_legacy, Answer, Decision, Entry, EventKind, Running, Session, Ticket, is_number, is_refusal, is_used, past_of, named_session, new_number, granted_port, is_client, gives_hold, comes_to, holder, session, running_job, due, IsRight}
use Rattle.ftp_laws.proofs.ClassLemmas.{granted-is, opened-is}
use Rattle.ftp_laws.proofs.RowLemmas.{chosen-one}
use Rattle.ftp_laws.proofs.DecisionLemmas.{IsLive}
use Rattle.ftp_laws.proofs.GrantLemmas.{granted-free}
use Rattle.ftp_laws.proofs.QuestionLemmas.{session-other}
use Rattle.ftp_laws.proofs.StopLemmas.{session-stopped, holder-stopped}
use Rattle.ftp_laws.proofs.PortLemmas.{session-before}
use Rattle.ftp_laws.proofs.EntryLemmas.{Comes, right-past}
use Rattle.ftp_laws.proofs.Cases.{by_test, by_option, by_part}

-- what holds of refusals, and of a connection that is turned away, holds of what is decided then on a connection
turned-one :
    (P : Decision → Type 0) (strange used stopped : Bool) (row : Decision) → stopped ≡ true →
    P decision.Misplaced → P decision.UsedNumber → P decision.Turned →
    P (cond strange decision.Misplaced (cond used decision.UsedNumber (cond stopped decision.Turned row)))
turned-one P strange used true row n misplaced spent turned =
    chosen-one P strange decision.Misplaced _ misplaced (chosen-one P used decision.UsedNumber decision.Turned spent turned)
turned-one P strange used false row n misplaced spent turned = cc

-- no session is opened after a stop
stopped-unopened :
    (o : Options) (past : List Entry) (at : ℕ) (k : EventKind) (answer : Answer) →
    is_stopped past ≡ true → due o past at k answer ≡ decision.Opened → ⊥
stopped-unopened o past at (kind.Connect s raw local trace) answer n =
    turned-one (λ d. d ≡ decision.Opened → ⊥) (is_proxy o.mode || (is_pooled o.mode && (is_v6 raw.ip || is_v6 local.ip))) (is_used past s) (is_stopped past) decision.Opened n
    (λ x. cc) (λ x. cc) (λ x. cc)
stopped-unopened o past at (kind.Proxied number raw trace) answer n =
    turned-one (λ d. d ≡ decision.Opened → ⊥) (not (is_proxy o.mode) || is_v6 raw.ip) (is_used past number) (is_stopped past) (header_row o past raw answer) n
    (λ x. cc) (λ x. cc) (λ x. cc)
stopped-unopened o past at k answer n = λ h. grind arith

-- no session is live, and nobody holds a port
pub record IsOver (o : Options) (past : List Entry) : Type 0 where
  pub ended : (s : ℕ) → session o past s ≡ None
  pub free : (a : IpAddr) (p : ℕ) → holder o past a p ≡ None

-- it stays so, whatever comes
over-stays :
    (o : Options) (past : List Entry) (e : Entry) →
    e.decision ≡ due o past e.event.at e.event.kind e.answer →
    is_stopped past ≡ true →
    IsOver o past →
    IsOver o (e ∷ past)
over-stays o past e fit n over = record { ended = ended; free = free }
  where
    ended : (s : ℕ) → session o (e ∷ past) s ≡ None
    ended s =
        by_part o past e s
        (λ x. absurd (stopped-unopened o past e.event.at e.event.kind e.answer n (sym fit ∙ opened-is e.event.kind e.decision s x)))
        (λ x c.
        by_option (session o (e ∷ past) s) (λ none. none)
        (λ v y.
        let was = session-before o past e s v fit x c y in
        let z : None ≡ Some was.before = sym (over.ended s) ∙ was.known in
        cc))
        (λ x c. session-other o past e s x c ∙ over.ended s)

    ungiven : (a : IpAddr) (p : ℕ) → gives_hold o past e a p ≡ false
    ungiven a p =
        by_test (gives_hold o past e a p)
        (λ x.
        let grants : Bool = is_number (granted_port e.decision) p in
        let comes_from : Bool = is_client past (named_session e.event.kind) a in
        let parts = and_parts grants comes_from (and_parts (not (is_legacy o.mode)) (grants && comes_from) x).1 in
        let alive : IsLive o past e.event.kind = (granted-free o past e.event.at e.event.kind e.answer p (sym fit ∙ granted-is e.decision p parts.0)).alive in
        let z : None ≡ Some alive.session_then = sym (over.ended alive.number) ∙ alive.known in
        cc)
        (λ x. x)

    none : (b : Bool) → cond {A = Option ℕ} b None (cond false None None) ≡ None
    none true = refl
    none false = refl

    free : (a : IpAddr) (p : ℕ) → holder o (e ∷ past) a p ≡ None
    free a p = rw (ungiven a p, over.free a p) (none (comes_to o e a p))

-- in every right log all is over after a stop
pub stopped-over :
    (o : Options) (log : List Entry) →
    IsRight o log →
    is_stopped (past_of log) ≡ true →
    IsOver o (past_of log)
stopped-over o log r = right-past o (λ past. is_stopped past ≡ true → IsOver o past) (λ n. cc) step log r
  where
    step :
        (log : List Entry) (e : Entry) → Comes o log e →
        (is_stopped (past_of log) ≡ true → IsOver o (past_of log)) →
        is_stopped (e ∷ past_of log) ≡ true → IsOver o (e ∷ past_of log)
    step log e comes ih n =
        by_test (is_stop e.decision)
        (λ x. record { ended = λ s. session-stopped o (past_of log) e s x; free = λ a p. holder-stopped o (past_of log) e a p x })
        (λ x.
        let before : is_stopped (past_of log) ≡ true = sym (ap (λ b. b || is_stopped (past_of log)) x) ∙ n in
        over-stays o (past_of log) e comes.fit before (ih before))

-- a connection that is not barred is turned away then
pub connection-turned :
    (o : Options) (past : List Entry) (at : ℕ) (k : EventKind) (answer : Answer) →
    is_stopped past ≡ true → is_some (peer_of k) ≡ true → is_barred o past k answer ≡ false →
    (due o past at k answer ≡ decision.Turned) × ((number : ℕ) × (new_number k decision.Turned ≡ Some number))
connection-turned o past at (kind.DataIn number raw port) answer n p b =
    let parts = or_parts (not (is_pooled o.mode) || is_v6 raw.ip) (is_used past number) b in
    (rw (parts.0, parts.1, n) refl, (number, refl))
connection-turned o past at (kind.Proxied number raw trace) answer n p b =
    let strange : Bool = not (is_proxy o.mode) || is_v6 raw.ip in
    let outer = or_parts (strange || is_used past number) (not (is_stopped past) && not (is_header answer)) b in
    let parts = or_parts strange (is_used past number) outer.0 in
    (rw (parts.0, parts.1, n) refl, (number, refl))
connection-turned o past at k answer n p b = cc

-- the rows of a session decide then that its number is unknown
rows-over :
    (o : Options) (past : List Entry) (n : Option ℕ) (row : Session → Decision) → IsOver o past →
    if_live (option_and_then (session o past) n) row ≡ decision.UnknownNumber
rows-over o past None row over = refl
rows-over o past (Some s) row over = rw (over.ended s) refl

-- of a piece of a job, and of its end, it is decided that it moved, that it has ended, or that it is cut
abbrev pub OfJob : Decision → Type 0
OfJob d = (d ≡ decision.Finished) ⊎ ((d ≡ decision.Moved) ⊎ (d ≡ decision.Cut))

-- or it is refused
abbrev JobOrRefused : Decision → Type 0
JobOrRefused d = OfJob d ⊎ (is_refusal d ≡ true)

-- so is a choice of two
choice : (b : Bool) (x y : Decision) → JobOrRefused x → JobOrRefused y → JobOrRefused (cond b x y)
choice true x y h j = h
choice false x y h j = j

-- that of an outcome
outcome-over : (job : Job) (answer : Answer) → JobOrRefused (outcome_row job answer)
outcome-over job (Done outcome) = choice (can_end job outcome) decision.Finished decision.NotExpected (inl (inl refl)) (inr refl)
outcome-over job answer = inr refl

-- and that of a piece
moved-over : (job : Job) (answer : Answer) → JobOrRefused (moved_row job answer)
moved-over job (Moved bytes) = choice (can_move job bytes) decision.Moved decision.NotExpected (inl (inr (inl refl))) (inr refl)
moved-over job answer = outcome-over job answer

end-over : (t : Ticket) (answer : Answer) (job : Option Running) → JobOrRefused (end_row t answer job)
end-over t answer None = inr refl
end-over t answer (Some r) =
    choice (same_ticket r.job.ticket t) _ decision.UnknownNumber
    (choice r.marked decision.Cut (outcome_row r.job answer) (inl (inr (inr refl))) (outcome-over r.job answer)) (inr refl)

piece-over : (t : Ticket) (answer : Answer) (job : Option Running) → JobOrRefused (piece_row t answer job)
piece-over t answer None = inr refl
piece-over t answer (Some r) =
    choice (same_ticket r.job.ticket t) _ decision.UnknownNumber
    (choice r.marked decision.Cut (moved_row r.job answer) (inl (inr (inr refl))) (moved-over r.job answer)) (inr refl)

-- what is not refused is of a job
of-job : (d : Decision) → JobOrRefused d → is_refusal d ≡ false → OfJob d
of-job d (inl h) c = h
of-job d (inr h) c = absurd (true≢false (sym h ∙ c))

-- so nothing is decided for a session any more but the pieces and the end of a job that ran
pub command-over :
    (o : Options) (past : List Entry) (at : ℕ) (k : EventKind) (answer : Answer) (s : ℕ) → IsOver o past →
    named_session k ≡ Some s → is_refusal (due o past at k answer) ≡ false →
    OfJob (due o past at k answer)
command-over o past at (kind.Connect q raw local trace) answer s over n c = cc
command-over o past at (kind.Proxied number raw trace) answer s over n c = cc
command-over o past at (kind.DataIn number raw port) answer s over n c = cc
command-over o past at kind.Sweep answer s over n c = cc
command-over o past at kind.Scavenge answer s over n c = cc
command-over o past at kind.Shutdown answer s over n c = cc
command-over o past at (kind.End t) answer s over n c = of-job _ (end-over t answer (running_job o past t.session)) c
command-over o past at (kind.Piece t) answer s over n c = of-job _ (piece-over t answer (running_job o past t.session)) c
command-over o past at k answer s over n c =
    absurd (true≢false (sym (ap is_refusal (rows-over o past (named_session k) (λ v. command_row o (around o past at k v) k v) over)) ∙ c))

-- what counts is no refusal
uncounted : {C : Type 0} (d r : Decision) → is_refusal d ≡ false → d ≡ r → is_refusal r ≡ true → C
uncounted d r c x y = absurd (true≢false (sym (ap is_refusal x ∙ y) ∙ c))

-- a new connection that is not refused is turned away
pub number-turned :
    (o : Options) (past : List Entry) (at : ℕ) (k : EventKind) (answer : Answer) (d : Decision) →
    is_stopped past ≡ true → IsOver o past → d ≡ due o past at k answer → is_refusal d ≡ false →
    is_some (new_number k d) ≡ true →
    (d ≡ decision.Turned) × ((number : ℕ) × (new_number k decision.Turned ≡ Some number))
number-turned o past at (kind.Connect s raw local trace) answer d n over fit c w = (
  turned-one (λ x. d ≡ x → d ≡ decision.Turned) (is_proxy o.mode || (is_pooled o.mode && (is_v6 raw.ip || is_v6 local.ip))) (is_used past s) (is_stopped past) decision.Opened n
      (λ x. uncounted d decision.Misplaced c x refl) (λ x. uncounted d decision.UsedNumber c x refl) (λ x. x) fit,
  (s, refl),
)
number-turned o past at (kind.Proxied number raw trace) answer d n over fit c w = (
  turned-one (λ x. d ≡ x → d ≡ decision.Turned) (not (is_proxy o.mode) || is_v6 raw.ip) (is_used past number) (is_stopped past) (header_row o past raw answer) n
      (λ x. uncounted d decision.Misplaced c x refl) (λ x. uncounted d decision.UsedNumber c x refl) (λ x. x) fit,
  (number, refl),
)
number-turned o past at (kind.DataIn number raw port) answer d n over fit c w = (
  turned-one (λ x. d ≡ x → d ≡ decision.Turned) (not (is_pooled o.mode) || is_v6 raw.ip) (is_used past number) (is_stopped past) (arrival_row o past raw raw.ip port) n
      (λ x. uncounted d decision.Misplaced c x refl) (λ x. uncounted d decision.UsedNumber c x refl) (λ x. x) fit,
  (number, refl),
)
number-turned o past at (kind.Accepted s number raw) answer d n over fit c w =
    let row : d ≡ decision.UnknownNumber = fit ∙ rows-over o past (Some s) (λ v. command_row o (around o past at (kind.Accepted s number raw) v) (kind.Accepted s number raw) v) over in
    uncounted d decision.UnknownNumber c row refl
number-turned o past at (kind.Port s text number) answer d n over fit c w =
    let row : d ≡ decision.UnknownNumber = fit ∙ rows-over o past (Some s) (λ v. command_row o (around o past at (kind.Port s text number) v) (kind.Port s text number) v) over in
    uncounted d decision.UnknownNumber c row refl
number-turned o past at k answer d n over fit c w = cc

-- and no header is read
pub unread-over :
    (o : Options) (past : List Entry) (k : EventKind) →
    is_stopped past ≡ true →
    header_to_read o past k ≡ None
unread-over o past (kind.Proxied number raw trace) n =
    ap (λ b. cond b None (Some number)) (or_right ((not (is_proxy o.mode) || is_v6 raw.ip) || is_used past number) (is_stopped past) n)
unread-over o past k n = refl
