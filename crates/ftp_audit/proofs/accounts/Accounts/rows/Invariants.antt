use Rattle.std.proofs.Common.{◌≡◌, ◌++◌}
use Rattle.ftp_audit.specs.Names.{named}
use Rattle.ftp_audit.specs.Listing.{listed}
use Rattle.ftp_audit.proofs.accounts.Accounts.rows.Given as goal

-- the rows so far, with those of the users that are left
abbrev pub invariant-loop-name : goal.invariant-loop-name
invariant-loop-name l = l.rows.items ++ listed (named l.name-iterator) ≡ listed (named l.self-inside.users.entries)
