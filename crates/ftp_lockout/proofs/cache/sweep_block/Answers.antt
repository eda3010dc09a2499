use Rattle.std.proofs.Common.{not, rules}
use Rattle.std.proofs.lemmas.Fn.{filter_same}
use Rattle.ftp_lockout.specs.Failures.{is_expired}
use Rattle.ftp_lockout.proofs.cache.sweep_block.Goals as goal

pub returns-clause-items : goal.returns-clause-items
returns-clause-items c = filter_same _ (λ e. not (is_expired c.args.policy c.args.at e.1)) _ (λ x b f' called. search rules) _ _ c.retain.ensures.filtered
