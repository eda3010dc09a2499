use Rattle.std.proofs.Common.{ap, ℕ}
use Rattle.ftp_audit.specs.declared.request.Request.{Request}
use Rattle.ftp_audit.specs.Requests.{with_more}
use Rattle.ftp_audit.proofs.TicketLemmas.{request-changed}
use Rattle.ftp_audit.proofs.request.add_moved.Goals as goal

pub returns-in-Some : goal.returns-in-Some
returns-in-Some c =
    let had : Request = c.in-Some.request.now in
    let now : Request = record had { moved = c.more_moved-request.result } in
    request-changed c.args.requests.now (c.get_mut.follows.lender now) c.args.ticket had now (with_more c.args.bytes) c.in-Some.ensures.value (ap (λ (n : ℕ). record had { moved = n }) c.more_moved-request.ensures) (c.get_mut.follows.holds now).0
