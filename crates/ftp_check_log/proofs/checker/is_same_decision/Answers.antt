use Rattle.std.proofs.Common.{sym, ap, ◌∙◌}
use Rattle.ftp_events.specs.contracts.decision.DecisionEq.TheImpl.Laws.{laws-law}
use Rattle.ftp_events.specs.contracts.decision.DecisionPartialEq.TheImpl.{ghosts}
use Rattle.ftp_events.proofs.Equal.{exact-decision}
use Rattle.ftp_check_log.proofs.checker.is_same_decision.Goals as goal

-- decisions that are equal are one, and one decision is equal to itself
pub returns : goal.returns
returns c = (
  λ h. exact-decision.same c.args.a c.args.b (sym c.eq.ensures ∙ h),
  λ h. c.eq.ensures ∙ ap (λ e. ghosts.eq c.args.a e) (sym h) ∙ laws-law.refl c.args.a,
)
