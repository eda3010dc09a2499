use Rattle.std.proofs.Common.{refl, sym, ap, ◌∙◌, subst, ℕ, ◌≤◌, Option, inr}
use Rattle.std.specs.Prelude.{is_some, nat_eq}
use Rattle.std.specs.HashMap as map
use Rattle.ftp_laws.specs.Census.{has as is_listed}
use Rattle.ftp_hub.proofs.Claiming.{once-clear, port-within}
use Rattle.ftp_hub.proofs.Common.{Session}
use Rattle.ftp_hub.proofs.Refusing.{rivals-twice}
use Rattle.ftp_hub.proofs.hub.Hub.claimed_ports.Goals as goal

-- two of one client of version 6 wait for one port
pub returns-then-have_v6_rivals-clause-refused : goal.returns-then-have_v6_rivals-clause-refused
returns-then-have_v6_rivals-clause-refused c =
    let live : ℕ → Option Session = map.get nat_eq c.args.self.now.sessions in
    inr (refl, sym c.is_legacy.ensures ∙ c.if-is_legacy.false, rivals-twice live c.deref.result.now (sym c.have_v6_rivals.ensures ∙ c.if-have_v6_rivals.true))

-- the ports that sessions wait for are those of the board
pub claim_all-requires-clause-in_range : goal.claim_all-requires-clause-in_range
claim_all-requires-clause-in_range c s v p there waits =
    let within = port-within c.args.self.now.options v p (c.requires.in_range s v there) waits in
    let range = c.free_board-board.ensures.range (sym c.is_legacy.ensures ∙ c.if-is_legacy.false) in
    (subst (λ (m : ℕ). m ≤ p) (sym range.0) within.0, subst (λ (m : ℕ). p ≤ m) (sym range.1) within.1)

-- no two wait for one port
pub returns-clause-once : goal.returns-clause-once
returns-clause-once c shared =
    let live : ℕ → Option Session = map.get nat_eq c.args.self.now.sessions in
    let all = c.in_ok-live.ensures.all in
    once-clear live c.claim_all.new.board c.deref.result.now
    (λ s. ap (λ ns. is_listed ns s) c.deref.ensures.value ∙ all s)
    (λ a p s w. c.in_ok-claim_all.ensures.claimed a p s (all s ∙ ap is_some w.1) w)
    (sym c.have_v6_rivals.ensures ∙ c.if-have_v6_rivals.false)
