-- Worked examples of sums.
use Rattle.std.proofs.Common.{◌≡◌, refl, [], ◌∷◌, codes}
use Rattle.std.specs.Fmt.{digits}
use Rattle.ftp_audit.specs.Listing.{row_line}
use Rattle.ftp_audit.specs.Totals.{nothing}
use Rattle.ftp_audit.specs.Marks.{reached}

-- a user who got a file of 11 bytes and put two of 11 bytes together
a_line : row_line (codes "ann", record { got_files = 1; got_bytes = 11; put_files = 2; put_bytes = 11; logins = 1; logouts = 0 }) ≡ codes "got 1 11 put 2 11 in 1 out 0 ann\n"
unfolding digits
a_line = refl

-- a user of whom a connection is all that was told
a_logout : row_line (codes "unknown", record nothing { logouts = 1 }) ≡ codes "got 0 0 put 0 0 in 0 out 1 unknown\n"
unfolding digits
a_logout = refl

-- of marks at the places 2 and 5, those below 5 have come to the first
below_a_place :
    reached (record { place = 2; sums = record nothing { logins = 1 } } ∷ record { place = 5; sums = record nothing { logins = 1; logouts = 1 } } ∷ []) 5 ≡ record nothing { logins = 1 }
below_a_place = refl
