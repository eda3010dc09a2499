use Rattle.std.proofs.Common.{sym}
use Rattle.ftp_proxy.proofs.Cuts.{pieces-some, four-more}
use Rattle.ftp_proxy.proofs.pieces.quarters.Goals as goal

pub returns-in-Some : goal.returns-in-Some
returns-in-Some c =
    rw (c.cut.ensures, c.in_ok-rest.was, c.cut-2.ensures, c.in_ok-rest-2.was, c.cut-3.ensures, c.in_ok-rest-3.was, c.cut-4.ensures, c.in-Some.is)
    (sym (four-more _ _ _ _ _ (pieces-some c.args.c c.in-Some.field-0.now)))
