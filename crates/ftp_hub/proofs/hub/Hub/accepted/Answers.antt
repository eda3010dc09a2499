use Rattle.std.proofs.Common.{◌≡◌, refl, sym, ap, subst, ◌∙◌, ℕ, Bool, true, false, ◌&&◌, Option, Some}
use Rattle.std.specs.Prelude.{nat_eq}
use Rattle.std.specs.HashMap as map
use Rattle.ftp_base.specs.Net.{same_ip}
use Rattle.ftp_events.specs.declared.decision.Decision.TheVariants as decision
use Rattle.ftp_events.specs.declared.event.EventKind.TheVariants.{DataIn}
use Rattle.ftp_events.specs.Slot.{is_waiting}
use Rattle.ftp_hub.specs.Arrivals.{arrival_of}
use Rattle.ftp_hub.proofs.Common.{Decision, EventKind, Options, Running, Session, Starts, is_used, new_number, past_of, session_acts, session_after, starting}
use Rattle.ftp_hub.proofs.Commands.{serves-turned, serves-unknown}
use Rattle.ftp_hub.proofs.DataLinks.{acts-alike, after-alike, serves-accepted, starting-alike}
use Rattle.ftp_hub.proofs.Moved.{Sessions, tables-lent}
use Rattle.ftp_hub.proofs.hub.Hub.accepted.Goals as goal

-- a session that is not live
pub returns-in_default-get_mut-clause-serves : goal.returns-in_default-get_mut-clause-serves
returns-in_default-get_mut-clause-serves c log given st =
    serves-unknown c.args.self.now _ log c.args.event.now given _ c.in-Accepted.owner st
    (rw c.in-Accepted.is refl) (rw c.in-Accepted.is refl) (sym c.in_default-get_mut.ensures.value) c.requires.ready.ready.actions
    (tables-lent c.args.self.now _ (past_of log) refl (λ q. ap (λ (m : Sessions). map.get nat_eq m q) c.get_mut.follows.holds-at-none) (ap map.hash_map_len c.get_mut.follows.holds-at-none) refl refl refl refl refl st.tables)

-- where sessions share the ports, no session has a listener of its own
pub returns-then-not-is_legacy-clause-serves : goal.returns-then-not-is_legacy-clause-serves
returns-then-not-is_legacy-clause-serves c log given st =
    let v : Session = c.in-Some.session.now in
    let there : map.get nat_eq c.args.self.now.sessions c.in-Accepted.owner ≡ Some v = sym c.in-Some.ensures.value in
    let lent = c.get_mut.follows.holds v in
    serves-turned c.args.self.now _ log c.args.event.now given decision.Misplaced _ c.in-Accepted.owner v st (rw c.in-Accepted.is refl) (rw c.in-Accepted.is refl) there
    (rw (c.in-Accepted.is, sym c.if-not-is_legacy.ensures) refl) refl c.requires.ready.ready.actions
    refl (λ q. (lent.3 (rw there refl)).0 q) lent.2 refl refl refl refl refl

-- a number that was used
pub returns-then-has-clause-serves : goal.returns-then-has-clause-serves
returns-then-has-clause-serves c log given st =
    let v : Session = c.in-Some.session.now in
    let used : is_used (past_of log) c.in-Accepted.number ≡ true = sym (st.tables.numbers c.in-Accepted.number) ∙ sym c.has.ensures ∙ c.if-has.true in
    let there : map.get nat_eq c.args.self.now.sessions c.in-Accepted.owner ≡ Some v = sym c.in-Some.ensures.value in
    let lent = c.get_mut.follows.holds v in
    serves-turned c.args.self.now _ log c.args.event.now given decision.UsedNumber _ c.in-Accepted.owner v st (rw c.in-Accepted.is refl) (rw c.in-Accepted.is refl) there
    (rw (c.in-Accepted.is, sym c.if-not-is_legacy.ensures, used) refl) refl c.requires.ready.ready.actions
    refl (λ q. (lent.3 (rw there refl)).0 q) lent.2 refl refl refl refl refl

-- the connection goes to the session, or is turned away
pub returns-clause-serves : goal.returns-clause-serves
returns-clause-serves c log answer st =
    let hub = c.args.self.now in
    let v : Session = c.in-Some.session.now in
    let s : ℕ = c.in-Accepted.owner in
    let n : ℕ = c.in-Accepted.number in
    let raw = c.in-Accepted.raw in
    let o : Options = hub.options in
    let at : ℕ = c.args.event.now.at in
    let kind : EventKind = c.args.event.now.kind in
    let k = DataIn n raw 0 in
    let there : map.get nat_eq hub.sessions s ≡ Some v = sym c.in-Some.ensures.value in
    let unused : is_used (past_of log) n ≡ false = sym (st.tables.numbers n) ∙ sym c.has.ensures ∙ c.if-has.false in
    let lent = c.get_mut.follows.holds c.come.new.session in
    let job : Option Running = map.get nat_eq hub.jobs s in
    let welcome : Bool = is_waiting v.slot && same_ip v.opening.raw.ip raw.ip in
    let decided : c.come.result ≡ arrival_of welcome s =
    c.come.ensures.decision ∙ ap (λ b. arrival_of b s) (c.is_welcome-welcome.ensures ∙ ap (λ b. b && same_ip v.opening.raw.ip raw.ip) c.is_waiting.ensures)
    in
    let brings : (d : Decision) → new_number kind d ≡ Some n = λ d. ap (λ (x : EventKind). new_number x d) c.in-Accepted.is in
    rw decided (serves-accepted hub _ log c.args.event.now answer _ s n raw v c.come.new.session st c.in-Accepted.is (sym c.if-not-is_legacy.ensures) unused there
    (c.come.ensures.session raw 0 answer ∙ ap (λ (d : Decision). session_after at k answer d 0 job v) decided ∙ after-alike welcome at kind n s 0 0 raw answer job v brings)
    (c.come.ensures.actions o raw 0 answer ∙ ap (λ (d : Decision). session_acts o s k answer d job (Some v)) decided ∙ acts-alike welcome o kind n s 0 raw answer job v brings)
    refl (λ q. (lent.3 (rw there refl)).0 q) lent.2
    (subst (Starts hub.jobs c.come.new.jobs s) (ap (λ (d : Decision). starting k d job v) decided ∙ starting-alike welcome kind n s 0 raw job v brings) (c.come.ensures.starts raw 0))
    c.put.ensures (λ a p. refl) refl refl)
