use Rattle.std.proofs.Common.{◌≡◌, take}
use Rattle.ftp_transfer.specs.declared.job.Ticket.{Ticket}
use Rattle.ftp_audit.specs.Requests.{request_acted}
use Rattle.ftp_audit.specs.Tickets.{request_at}
use Rattle.ftp_audit.proofs.request.act_all.Given as goal

abbrev pub invariant-loop-action : goal.invariant-loop-action
invariant-loop-action l = (t : Ticket) → request_at l.requests t ≡ request_acted l.at (take l.action-index l.actions) t (request_at l.initial.requests t)
