use Rattle.std.proofs.Common.{◌≡◌, refl, sym, ap, subst, ◌∙◌, ℕ, Bool, false, ◌&&◌, Option, Some}
use Rattle.std.specs.Prelude.{nat_eq}
use Rattle.std.specs.HashMap as map
use Rattle.std.specs.FinMap as finmap
use Rattle.ftp_base.specs.Net.{same_ip}
use Rattle.ftp_switchboard.specs.Board.{Held, key}
use Rattle.ftp_switchboard.proofs.BoardLemmas.{get-remove-key}
use Rattle.ftp_events.specs.declared.event.EventKind.TheVariants.{DataIn}
use Rattle.ftp_events.specs.Modes.{in_range}
use Rattle.ftp_hub.specs.Arrivals.{arrival_of}
use Rattle.ftp_hub.proofs.Common.{Decision, Options, Running, Session, Starts, is_used, past_of, session_acts, session_after, starting}
use Rattle.ftp_hub.proofs.DataLinks.{acts-alike, after-alike, held-live, serves-held, serves-unheld, starting-alike}
use Rattle.ftp_hub.proofs.hub.Hub.bring.Goals as goal

-- a port that nobody holds
pub returns-in_default-clause-serves : goal.returns-in_default-clause-serves
returns-in_default-clause-serves c log st =
    let arr = c.args.arrival in
    let unused : is_used (past_of log) arr.number ≡ false = sym (st.tables.numbers arr.number) ∙ c.requires.unused in
    serves-unheld c.args.self.now _ log c.args.event.now c.args.answer _ arr st c.requires.of_this_event unused c.requires.going
    (sym c.unregister_by_key.ensures.holder ∙ c.in_default.is)
    (rw (c.close.ensures.actions, c.requires.ready.ready.actions) refl) refl refl refl c.put.ensures
    (λ a p. ap (λ (held : Held). finmap.get held (key a p)) c.unregister_by_key.ensures.held ∙ get-remove-key c.args.self.now.board.held a p arr.source arr.port)
    refl refl

-- a port that is held
pub returns-in-Some-get_mut-clause-serves : goal.returns-in-Some-get_mut-clause-serves
returns-in-Some-get_mut-clause-serves c log st =
    let arr = c.args.arrival in
    let unused : is_used (past_of log) arr.number ≡ false = sym (st.tables.numbers arr.number) ∙ c.requires.unused in
    let v : Session = c.in-Some-get_mut.session.now in
    let there : map.get nat_eq c.args.self.now.sessions c.in-Some.holder ≡ Some v = sym c.in-Some-get_mut.ensures.value in
    let lent = c.get_mut.follows.holds c.come.new.session in
    let o : Options = c.args.self.now.options in
    let s : ℕ = c.in-Some.holder in
    let k = DataIn arr.number arr.raw arr.port in
    let job : Option Running = map.get nat_eq c.args.self.now.jobs s in
    let welcome : Bool = in_range o arr.port && same_ip v.opening.raw.ip arr.raw.ip in
    let brings = c.requires.of_this_event.brings in
    let at : ℕ = c.args.event.now.at in
    let decided : c.come.result ≡ arrival_of welcome s =
    c.come.ensures.decision ∙ ap (λ b. arrival_of b s) (c.is_welcome-welcome.ensures ∙ ap (λ b. b && same_ip v.opening.raw.ip arr.raw.ip) c.in_range-in_range.ensures)
    in
    rw decided (serves-held c.args.self.now _ log c.args.event.now c.args.answer _ arr s v c.come.new.session st c.requires.of_this_event unused c.requires.going
    (sym c.unregister_by_key.ensures.holder ∙ c.in-Some.is) there
    (c.come.ensures.session arr.raw arr.port c.args.answer ∙ ap (λ (d : Decision). session_after at k c.args.answer d 0 job v) decided
    ∙ after-alike welcome at c.args.event.now.kind arr.number s 0 arr.port arr.raw c.args.answer job v brings)
    (c.come.ensures.actions o arr.raw arr.port c.args.answer ∙ ap (λ (d : Decision). session_acts o s k c.args.answer d job (Some v)) decided
    ∙ acts-alike welcome o c.args.event.now.kind arr.number s arr.port arr.raw c.args.answer job v brings)
    refl (λ q. (lent.3 (rw there refl)).0 q) lent.2
    (subst (Starts c.args.self.now.jobs c.come.new.jobs s) (ap (λ (d : Decision). starting k d job v) decided ∙ starting-alike welcome c.args.event.now.kind arr.number s arr.port arr.raw job v brings) (c.come.ensures.starts arr.raw arr.port))
    c.put.ensures
    (λ a p. ap (λ (held : Held). finmap.get held (key a p)) c.unregister_by_key.ensures.held ∙ get-remove-key c.args.self.now.board.held a p arr.source arr.port)
    refl refl)

-- whoever holds a port is live
pub returns-in-None-clause-serves : goal.returns-in-None-clause-serves
returns-in-None-clause-serves c log st =
    absurd (held-live c.args.self.now log c.args.arrival.source c.args.arrival.port c.in-Some.holder st (sym c.unregister_by_key.ensures.holder ∙ c.in-Some.is) (sym c.in-None.ensures.value))
