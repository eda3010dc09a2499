-- The calls of one user among those of others.
use Rattle.std.specs.Prelude.{◌≡◌, ◌≢◌, ℕ, Bool, List, [], ◌∷◌, filter, Contains, if◌then◌else◌}
use Rattle.std.specs.Str.{bytes_eq}
use Rattle.ftp_audit.specs.declared.calls.QuotaCall.{QuotaCall}
use Rattle.ftp_audit.specs.declared.calls.QuotaCall.TheVariants as call
use Rattle.ftp_audit.specs.declared.calls.Verdict.{Verdict}

-- who calls
abbrev pub user_of : QuotaCall → List ℕ
user_of (call.Begin user path start) = user
user_of (call.Append user path bytes) = user

-- the file that is called for
abbrev pub path_of : QuotaCall → List ℕ
path_of (call.Begin user path start) = path
path_of (call.Append user path bytes) = path

-- the user calls
abbrev pub is_by : List ℕ → QuotaCall → Bool
is_by user c = bytes_eq (user_of c) user

-- the calls of a user
abbrev pub calls_of : List ℕ → List QuotaCall → List QuotaCall
calls_of user calls = filter (is_by user) calls

-- what became of the calls of a user, among what became of all
abbrev pub verdicts_to : List ℕ → List QuotaCall → List Verdict → List Verdict
verdicts_to user [] found = []
verdicts_to user (c ∷ calls) [] = []
verdicts_to user (c ∷ calls) (v ∷ found) = if is_by user c then v ∷ verdicts_to user calls found else verdicts_to user calls found

-- no file that the user calls for is called for by another one
abbrev pub IsApart : List ℕ → List QuotaCall → Type 0
IsApart user calls =
    (c d : QuotaCall) → Contains calls c → Contains calls d → user_of c ≡ user → user_of d ≢ user → path_of c ≢ path_of d
