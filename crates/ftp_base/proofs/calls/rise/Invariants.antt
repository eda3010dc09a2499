use Rattle.std.proofs.Common.{◌≡◌}
use Rattle.std.specs.Prelude.{drop}
use Rattle.ftp_base.specs.Calls.{rises_above}
use Rattle.ftp_base.proofs.calls.rise.Given as goal

-- the calls rise where those that are left rise from the last on
abbrev pub invariant-loop-call : goal.invariant-loop-call
invariant-loop-call g l =
    rises_above g.T.FailingCall.number l.last (drop l.call-index l.calls) ≡ rises_above g.T.FailingCall.number 0 l.calls
