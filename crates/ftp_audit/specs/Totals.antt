-- Sums of what a user moved, and of how often it came and went.
use Rattle.std.specs.Prelude.{ℕ, ◌+◌, ◌-◌, ◌^◌, min}
use Rattle.ftp_base.specs.declared.notice.Notice.{Notice}
use Rattle.ftp_base.specs.declared.notice.Notice.TheVariants.{Presence, Data}
use Rattle.ftp_base.specs.declared.notice.PresenceEvent.TheVariants.{LoggedIn, LoggedOut}
use Rattle.ftp_base.specs.declared.notice.DataEvent.TheVariants.{Got, Put}
use Rattle.ftp_audit.specs.declared.total.Total.{Total}

-- nothing moved, and nobody came or went
abbrev pub nothing : Total
nothing = record { got_files = 0; got_bytes = 0; put_files = 0; put_bytes = 0; logins = 0; logouts = 0 }

-- what a notification tells
abbrev pub told : Notice → Total
told (Data (Got path bytes)) = record nothing { got_files = 1; got_bytes = bytes }
told (Data (Put path bytes)) = record nothing { put_files = 1; put_bytes = bytes }
told (Presence LoggedIn) = record nothing { logins = 1 }
told (Presence LoggedOut) = record nothing { logouts = 1 }
told _ = nothing

-- both together
abbrev pub plus : Total → Total → Total
plus a b =
    record {
      got_files = a.got_files + b.got_files;
      got_bytes = a.got_bytes + b.got_bytes;
      put_files = a.put_files + b.put_files;
      put_bytes = a.put_bytes + b.put_bytes;
      logins = a.logins + b.logins;
      logouts = a.logouts + b.logouts;
    }

-- what one has above another
abbrev pub minus : Total → Total → Total
minus a b =
    record {
      got_files = a.got_files - b.got_files;
      got_bytes = a.got_bytes - b.got_bytes;
      put_files = a.put_files - b.put_files;
      put_bytes = a.put_bytes - b.put_bytes;
      logins = a.logins - b.logins;
      logouts = a.logouts - b.logouts;
    }

-- each number at most the last one of its type
abbrev pub capped : Total → Total
capped a =
    record {
      got_files = min a.got_files (2 ^ 64 - 1);
      got_bytes = min a.got_bytes (2 ^ 128 - 1);
      put_files = min a.put_files (2 ^ 64 - 1);
      put_bytes = min a.put_bytes (2 ^ 128 - 1);
      logins = min a.logins (2 ^ 64 - 1);
      logouts = min a.logouts (2 ^ 64 - 1);
    }

-- both together, where they fit
abbrev pub add : Total → Total → Total
add a b = capped (plus a b)

-- the bytes that were got and put, at most the last u128
abbrev pub moved : Total → ℕ
moved a = min (a.got_bytes + a.put_bytes) (2 ^ 128 - 1)
