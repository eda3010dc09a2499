-- What holds of the marks of an account.
use Rattle.std.specs.Prelude.{ℕ, ◌≤◌, ◌*◌, ◌-◌, ◌^◌, List, take}
use Rattle.std.specs.List.Sorted.{IsNonDecreasingBy}
use Rattle.ftp_audit.specs.declared.account.Mark.{Mark}
use Rattle.ftp_audit.specs.declared.total.Total.{Total}
use Rattle.ftp_audit.specs.Totals.{nothing}
use Rattle.ftp_audit.specs.Marks.{newest}

-- no more than so many notifications can tell
pub record IsWithin (n : ℕ) (t : Total) : Type 0 where
  pub got_files : t.got_files ≤ n
  pub got_bytes : t.got_bytes ≤ n * (2 ^ 64 - 1)
  pub put_files : t.put_files ≤ n
  pub put_bytes : t.put_bytes ≤ n * (2 ^ 64 - 1)
  pub logins : t.logins ≤ n
  pub logouts : t.logouts ≤ n

-- places do not fall, and so many marks have no more than so many notifications can tell
pub record AreMarks (marks : List Mark) : Type 0 where
  pub in_order : IsNonDecreasingBy (λ m. m.place) marks
  pub within : (n : ℕ) → IsWithin n (newest nothing (take n marks))
