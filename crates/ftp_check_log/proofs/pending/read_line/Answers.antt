use Rattle.std.proofs.Common.{◌≡◌, ◌++◌, sym, subst, inl, take}
use Rattle.ftp_check_log.specs.Pending.{HasFeed}
use Rattle.ftp_check_log.proofs.PendingLemmas.{feed-behind, if_some}
use Rattle.ftp_check_log.proofs.pending.read_line.Goals as goal

pub returns-then-has_feed-clause-shown : goal.returns-then-has_feed-clause-shown
returns-then-has_feed-clause-shown g c =
    let e : c.append.new.bytes.items ≡ c.loop-piece.bytes.items ++ take c.in_ok-n.n c.read.new.out = c.in_ok-append.ensures.all in
    if_some (g.S.Source.left c.args.source.now) _ (inl (subst HasFeed (sym e) (feed-behind c.loop-piece.bytes.items (take c.in_ok-n.n c.read.new.out) (c.has_feed.ensures.0 c.if-has_feed.true))))
