-- Only a live session ends, but for a stop.
use Rattle.std.proofs.Common.{◌≡◌, refl, sym, ◌∙◌, ℕ, Bool, true, false, true≢false, not, ◌&&◌, ◌||◌, cond, List, Option, Some, None, Ok, Err}
use Rattle.std.specs.Option.{option_and_then, option_map_or}
use Rattle.ftp_base.specs.declared.net.SocketAddr.{SocketAddr}
use Rattle.ftp_base.specs.Net.{same_ip, is_v6}
use Rattle.ftp_transfer.specs.declared.job.Job.{Job}
use Rattle.ftp_options.specs.Modes.{is_pooled, is_proxy, is_control_port}
use Rattle.ftp_events.specs.Classes.{is_stop}
use Rattle.ftp_events.specs.Log.{is_stopped}
use Rattle.ftp_events.specs.Transfer.{same_ticket}
use Rattle.ftp_events.specs.Modes.{in_range}
use Rattle.ftp_events.specs.declared.decision.Decision.TheVariants as decision
use Rattle.ftp_events.specs.declared.event.Answer.TheVariants.{Header, Done, Moved}
use Rattle.ftp_events.specs.declared.event.EventKind.TheVariants as kind
use Rattle.ftp_events.specs.CommandRows.{command_row}
use Rattle.ftp_events.specs.ConnectionRows.{arrival_row, holder_row, header_row}
use Rattle.ftp_events.specs.EndRows.{can_end, can_move, outcome_row, moved_row, end_row, piece_row}
use Rattle.ftp_events.specs.Decide.{if_live, around}
use Rattle.ftp_laws.proofs.Common.{IpAddr, life, ends, Options, Ticket, Running, Answer, Decision, Entry, EventKind, Session, is_used, named_session, session, running_job, due, holder}
use Rattle.ftp_laws.proofs.DecisionLemmas.{IsLive}

-- a decision that ends no session
record EndsNone (d : Decision) : Type 0 where
  none : ends (life d) ≡ false

-- so is a choice of two
none-cond : (b : Bool) (x y : Decision) → EndsNone x → EndsNone y → EndsNone (cond b x y)
none-cond true x y h j = h
none-cond false x y h j = j

-- no connection ends one whose row does not
new-none :
    (strange used stopped : Bool) (row : Decision) → EndsNone row →
    EndsNone (cond strange decision.Misplaced (cond used decision.UsedNumber (cond stopped decision.Turned row)))
new-none strange used stopped row h =
    none-cond strange decision.Misplaced _ (record { none = refl })
    (none-cond used decision.UsedNumber _ (record { none = refl }) (none-cond stopped decision.Turned row (record { none = refl }) h))

-- that of a data connection does not
arrival-none : (o : Options) (past : List Entry) (raw : SocketAddr) (a : IpAddr) (port : ℕ) → EndsNone (arrival_row o past raw a port)
arrival-none o past raw a port = none-cond (not (in_range o port)) decision.Turned _ (record { none = refl }) (by_holder (holder o past a port))
  where
    by_holder : (h : Option ℕ) → EndsNone (holder_row o past raw h)
    by_holder None = record { none = refl }
    by_holder (Some s) =
        none-cond (option_map_or (λ (v : Session). same_ip v.opening.raw.ip raw.ip) (session o past s) false) (decision.Attached s) decision.Turned
        (record { none = refl }) (record { none = refl })

-- nor that of a header
header-none : (o : Options) (past : List Entry) (raw : SocketAddr) (answer : Answer) → EndsNone (header_row o past raw answer)
header-none o past raw (Header (Ok line)) =
    none-cond (is_v6 line.source.ip || is_v6 line.destination.ip) decision.NotExpected _ (record { none = refl })
    (none-cond (is_control_port o.mode line.destination.port) decision.Opened _ (record { none = refl })
    (arrival-none o past raw line.source.ip line.destination.port))
header-none o past raw (Header (Err fault)) = record { none = refl }
header-none o past raw answer = record { none = refl }

-- nor a piece or the end of a job
outcome-none : (job : Job) (answer : Answer) → EndsNone (outcome_row job answer)
outcome-none job (Done outcome) = none-cond (can_end job outcome) decision.Finished decision.NotExpected (record { none = refl }) (record { none = refl })
outcome-none job answer = record { none = refl }

moved-none : (job : Job) (answer : Answer) → EndsNone (moved_row job answer)
moved-none job (Moved bytes) = none-cond (can_move job bytes) decision.Moved decision.NotExpected (record { none = refl }) (record { none = refl })
moved-none job answer = outcome-none job answer

end-none : (t : Ticket) (answer : Answer) (run : Option Running) → EndsNone (end_row t answer run)
end-none t answer None = record { none = refl }
end-none t answer (Some r) =
    none-cond (same_ticket r.job.ticket t) _ decision.UnknownNumber
    (none-cond r.marked decision.Cut (outcome_row r.job answer) (record { none = refl }) (outcome-none r.job answer)) (record { none = refl })

piece-none : (t : Ticket) (answer : Answer) (run : Option Running) → EndsNone (piece_row t answer run)
piece-none t answer None = record { none = refl }
piece-none t answer (Some r) =
    none-cond (same_ticket r.job.ticket t) _ decision.UnknownNumber
    (none-cond r.marked decision.Cut (moved_row r.job answer) (record { none = refl }) (moved-none r.job answer)) (record { none = refl })

-- the rows of a live session end only a live one
row-live :
    (o : Options) (past : List Entry) (k : EventKind) (n : Option ℕ) (row : Session → Decision) →
    named_session k ≡ n → ends (life (if_live (option_and_then (session o past) n) row)) ≡ true →
    IsLive o past k
row-live o past k None row named h = cc
row-live o past k (Some s) row named h = go (session o past s) refl h
  where
    go : (v : Option Session) → session o past s ≡ v → ends (life (if_live v row)) ≡ true → IsLive o past k
    go None x y = cc
    go (Some v) x y = record { number = s; session_then = v; named = named; known = x }

-- what is no stop ends only a live session
pub ending-live :
    (o : Options) (past : List Entry) (at : ℕ) (k : EventKind) (answer : Answer) →
    is_stop (due o past at k answer) ≡ false → ends (life (due o past at k answer)) ≡ true → IsLive o past k
ending-live o past at (kind.Connect s raw local trace) answer plain h =
    let strange : Bool = is_proxy o.mode || (is_pooled o.mode && (is_v6 raw.ip || is_v6 local.ip)) in
    absurd (true≢false (sym h ∙ (new-none strange (is_used past s) (is_stopped past) decision.Opened (record { none = refl })).none))
ending-live o past at (kind.Proxied number raw trace) answer plain h =
    let strange : Bool = not (is_proxy o.mode) || is_v6 raw.ip in
    absurd (true≢false (sym h ∙ (new-none strange (is_used past number) (is_stopped past) (header_row o past raw answer) (header-none o past raw answer)).none))
ending-live o past at (kind.DataIn number raw port) answer plain h =
    let strange : Bool = not (is_pooled o.mode) || is_v6 raw.ip in
    absurd (true≢false (sym h ∙ (new-none strange (is_used past number) (is_stopped past) (arrival_row o past raw raw.ip port) (arrival-none o past raw raw.ip port)).none))
ending-live o past at (kind.End t) answer plain h = absurd (true≢false (sym h ∙ (end-none t answer (running_job o past t.session)).none))
ending-live o past at (kind.Piece t) answer plain h = absurd (true≢false (sym h ∙ (piece-none t answer (running_job o past t.session)).none))
ending-live o past at kind.Sweep answer plain h = cc
ending-live o past at kind.Scavenge answer plain h = cc
ending-live o past at kind.Shutdown answer plain h = cc
ending-live o past at k answer plain h = row-live o past k (named_session k) (λ v. command_row o (around o past at k v) k v) refl h
