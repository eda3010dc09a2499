use Rattle.std.proofs.Common.{refl, Some}
use Rattle.ftp_audit.specs.declared.request.Request.{Request}
use Rattle.ftp_audit.specs.Requests.{begun_at}
use Rattle.ftp_audit.proofs.TicketLemmas.{request-changed}
use Rattle.ftp_audit.proofs.request.start.Goals as goal

pub returns-in-Some : goal.returns-in-Some
returns-in-Some c =
    let now : Request = record c.in-Some.request.now { started = Some c.args.at } in
    request-changed c.args.requests.now (c.get_mut.follows.lender now) c.args.ticket c.in-Some.request.now now (begun_at c.args.at) c.in-Some.ensures.value refl (c.get_mut.follows.holds now).0
