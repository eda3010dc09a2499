use Rattle.ftp_check_log.specs.Pending.{unread}
use Rattle.ftp_check_log.proofs.SourceLemmas.{reads-filled, shown-left, kept-said, going-then, ending-then}
use Rattle.ftp_check_log.proofs.source.advance.Goals as goal

pub check_line-requires-clause-reads : goal.check_line-requires-clause-reads
check_line-requires-clause-reads g c =
    let left = g.S.Source.left c.args.source.now in
    let later = g.S.Source.left c.fill.new.source in
    (c.requires.reads.0, later, reads-filled c.requires.reads.0 left later c.args.checker.now (unread c.args.pending.now) (unread c.fill.new.self) c.in-Ok.ensures.told c.requires.reads.1)

pub returns-in-Ok-clause-goes_on : goal.returns-in-Ok-clause-goes_on
returns-in-Ok-clause-goes_on g c =
    let left = g.S.Source.left c.args.source.now in
    let later = g.S.Source.left c.fill.new.source in
    going-then c.check_line.result c.check_line.ensures.goes_on
    (λ on all r. on all later (reads-filled all left later c.args.checker.now (unread c.args.pending.now) (unread c.fill.new.self) c.in-Ok.ensures.told r))

pub returns-in-Ok-clause-ended : goal.returns-in-Ok-clause-ended
returns-in-Ok-clause-ended g c =
    let left = g.S.Source.left c.args.source.now in
    let later = g.S.Source.left c.fill.new.source in
    ending-then c.check_line.result c.check_line.ensures.ended
    (λ v ended all r.
    shown-left all left later c.args.checker.now c.check_line.new.checker (unread c.args.pending.now) (unread c.fill.new.self) v c.in-Ok.ensures.shown r
    (reads-filled all left later c.args.checker.now (unread c.args.pending.now) (unread c.fill.new.self) c.in-Ok.ensures.told r) ended)

pub returns-in-Ok-clause-kept_right : goal.returns-in-Ok-clause-kept_right
returns-in-Ok-clause-kept_right g c =
    let left = g.S.Source.left c.args.source.now in
    let later = g.S.Source.left c.fill.new.source in
    let reads = c.requires.reads in
    let filled = reads-filled reads.0 left later c.args.checker.now (unread c.args.pending.now) (unread c.fill.new.self) c.in-Ok.ensures.told reads.1 in
    ending-then c.check_line.result c.check_line.ensures.ended (λ v ended. kept-said reads.0 later c.args.checker.now c.check_line.new.checker (unread c.fill.new.self) v filled ended)
