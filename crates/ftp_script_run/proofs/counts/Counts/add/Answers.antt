use Rattle.std.proofs.Common.{arith}
use Rattle.ftp_script_run.proofs.CountLemmas.{counting-start, counting-next, counting-fits, counting-end, bit-le}
use Rattle.ftp_script_run.proofs.counts.Counts.add.Goals as goal

pub loop-i-init : goal.loop-i-init
loop-i-init c = counting-start c.args.self.now.numbers c.args.entry.now

pub overflow_add-self : goal.overflow_add-self
overflow_add-self c =
    omega (
      arith,
      c.requires.2,
      counting-fits c.args.self.now.numbers c.loop-i.self.numbers c.args.entry.now c.loop-i.i c.name.result.now c.requires.0 c.loop-i.invariant c.name.ensures c.requires.1,
      bit-le c.from.result c.eq.result c.from.ensures,
    )

pub loop-i-preserved : goal.loop-i-preserved
loop-i-preserved c =
    counting-next c.args.self.now.numbers c.loop-i.self.numbers c.args.entry.now c.loop-i.i c.name.result.now c.decision_text-came.result.now c.from.result c.eq.result
    c.loop-i.invariant c.name.ensures c.from.ensures c.eq.ensures c.decision_text-came.ensures

pub returns : goal.returns
returns c = counting-end c.args.self.now.numbers c.loop-i.self.numbers c.args.entry.now c.loop-i.i c.loop-i.invariant c.loop-i-test.false
