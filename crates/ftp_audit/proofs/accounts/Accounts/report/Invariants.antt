use Rattle.std.proofs.Common.{◌≡◌, ◌++◌}
use Rattle.std.specs.List.{flat_map}
use Rattle.ftp_audit.specs.Names.{named}
use Rattle.ftp_audit.specs.Listing.{listed, row_line}
use Rattle.ftp_audit.proofs.accounts.Accounts.report.Given as goal

-- the lines so far, with those of the users that are left
abbrev pub invariant-loop-name : goal.invariant-loop-name
invariant-loop-name l = l.text.items ++ flat_map row_line (listed (named l.name-iterator)) ≡ flat_map row_line (listed l.self)
