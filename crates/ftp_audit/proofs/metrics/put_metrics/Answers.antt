use Rattle.std.proofs.Common.{◌≡◌, ◌∙◌, ap, ℕ, List, ◌++◌}
use Rattle.std.proofs.lemmas.Result.{on_ok_weaker}
use Rattle.ftp_options.specs.declared.options.Options.{Options}
use Rattle.ftp_events.specs.declared.counters.Counters.{Counters}
use Rattle.ftp_events.specs.declared.entry.Entry.{Entry}
use Rattle.ftp_events.specs.declared.status.CommandWord.{CommandWord}
use Rattle.ftp_events.specs.Counts.{CountsOf}
use Rattle.ftp_audit.specs.declared.metrics.Count.{Count}
use Rattle.ftp_audit.specs.declared.metrics.Count.TheVariants.{Sent, Received, Ended}
use Rattle.ftp_audit.specs.Metrics.{metrics_of, metrics_text, metrics_with, number_by, number_in}
use Rattle.ftp_audit.proofs.metrics.put_metrics.Goals as goal

-- the counters are the counts of a log
numbers : (o : Options) (past : List Entry) (counters : Counters) → CountsOf o past counters → (w : CommandWord) (count : Count) → number_in counters w count ≡ number_by o past w count
numbers o past counters k w Sent = k.sent w
numbers o past counters k w Received = k.received w
numbers o past counters k w (Ended s) = k.transferred w s

counted : (o : Options) (past : List Entry) (counters : Counters) (locked : ℕ) → CountsOf o past counters → metrics_text counters locked ≡ metrics_of o past locked
counted o past counters locked k =
    λ i. metrics_with (k.session i) (k.opened i) (k.failures i) locked (λ w count. numbers o past counters k w count i)

pub returns-clause-counted : goal.returns-clause-counted
returns-clause-counted c =
    on_ok_weaker c.put_metrics_of.result
    (λ e o past k. e ∙ ap (λ (text : List ℕ). c.args.out.now.items ++ text) (counted o past c.args.counters.now c.args.locked k))
    c.put_metrics_of.ensures
