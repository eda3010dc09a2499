use Rattle.std.proofs.Common.{◌≡◌, Some}
use Rattle.ftp_check_log.specs.Evidence.{holder_before}
use Rattle.ftp_check_log.proofs.grants.first_release.Given as goal

-- the session of the grant holds the port before the place
abbrev pub invariant-loop-place : goal.invariant-loop-place
invariant-loop-place l = holder_before l.options l.entries l.place l.to.ip l.to.port ≡ Some l.grant.session
