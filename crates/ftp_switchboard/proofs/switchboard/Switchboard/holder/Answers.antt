use Rattle.std.proofs.Common.{ℕ, sym, ap, ◌∙◌}
use Rattle.std.specs.Option.{option_map}
use Rattle.ftp_switchboard.proofs.InsideLemmas.{holder-is, order-is}
use Rattle.ftp_switchboard.proofs.switchboard.Switchboard.holder.Goals as goal

pub locate-requires-clause-order : goal.locate-requires-clause-order
locate-requires-clause-order c = order-is c.self.inside.range c.self.inside.rows c.self.inside.spare c.self.invariant

pub returns-in_err-session : goal.returns-in_err-session
returns-in_err-session c =
    c.from_residual.ensures ∙ ap (option_map (λ (found : ℕ × ℕ). found.1)) (sym c.in_err-session.was) ∙ c.locate.ensures.session
    ∙ holder-is c.self.inside.range c.self.inside.rows c.self.inside.spare c.self.invariant c.args.self.now c.self.view_is c.args.source c.args.port

pub returns : goal.returns
returns c =
    ap (option_map (λ (found : ℕ × ℕ). found.1)) (sym c.in_ok-session.was) ∙ c.locate.ensures.session
    ∙ holder-is c.self.inside.range c.self.inside.rows c.self.inside.spare c.self.invariant c.args.self.now c.self.view_is c.args.source c.args.port
