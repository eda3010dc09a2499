use Rattle.std.proofs.Common.{◌∙◌}
use Rattle.ftp_script_run.proofs.CountLemmas.{lines-next, lines-end}
use Rattle.ftp_script_run.proofs.counts.Counts.lines.Goals as goal

pub loop-i-preserved : goal.loop-i-preserved
loop-i-preserved c = λ log counts. c.in_ok-put_count.ensures ∙ lines-next c.args.self.now.numbers c.loop-i.text.items c.loop-i.i c.name.result.now c.loop-i.invariant c.name.ensures log counts

pub returns : goal.returns
returns c = lines-end c.args.self.now.numbers c.loop-i.text.items c.loop-i.i c.loop-i.invariant c.loop-i-test.false
