-- Counts that stand still at the last value of their type, one for each command, each status and each first digit of a reply.
use Rattle.std.specs.Prelude.{ℕ, ◌≡◌, ◌+◌, ◌-◌, ◌^◌, ◌&&◌, min, if◌then◌else◌}
use Rattle.ftp_events.specs.declared.status.CommandWord.{CommandWord}
use Rattle.ftp_events.specs.declared.status.CommandWord.TheVariants as word
use Rattle.ftp_events.specs.declared.status.Status7.{Status7}
use Rattle.ftp_events.specs.declared.status.Status7.TheVariants as status
use Rattle.ftp_events.specs.declared.tallies.PerCommand.{PerCommand}
use Rattle.ftp_events.specs.declared.tallies.PerStatus.{PerStatus}
use Rattle.ftp_events.specs.Statuses.{same_word, same_status}

-- a count that stands still at the last value of a u64
abbrev pub saturated : ℕ → ℕ
saturated n = min n (2 ^ 64 - 1)

-- what was the count of some things is the count of n more
abbrev pub Grows : ℕ → ℕ → ℕ → Type 0
Grows n old new = (m : ℕ) → old ≡ saturated m → new ≡ saturated (m + n)

-- the count of a command
abbrev pub of_word : PerCommand → CommandWord → ℕ
of_word t word.Retr = t.retr
of_word t word.Stor = t.stor
of_word t word.Appe = t.appe
of_word t word.List = t.list
of_word t word.Nlst = t.nlst
of_word t word.Mlsd = t.mlsd

-- the counts of a status
abbrev pub of_status : PerStatus → Status7 → PerCommand
of_status t status.Success = t.success
of_status t status.ClientError = t.client_error
of_status t status.ServerError = t.server_error
of_status t status.PermissionError = t.permission_error
of_status t status.ClientInterrupted = t.client_interrupted
of_status t status.NetworkError = t.network_error
of_status t status.UnknownError = t.unknown_error

-- the count of one command has grown by n, and that of no other
abbrev pub GrowsFor : CommandWord → ℕ → PerCommand → PerCommand → Type 0
GrowsFor w n old new =
    (v : CommandWord) → of_word new v ≡ (if same_word w v then saturated (of_word old v + n) else of_word old v)

-- the count of one command with one status has grown by 1, and no other
abbrev pub GrowsWith : CommandWord → Status7 → PerStatus → PerStatus → Type 0
GrowsWith w s old new =
    (v : CommandWord) (t : Status7) →
    of_word (of_status new t) v
    ≡ (if same_status s t && same_word w v then saturated (of_word (of_status old t) v + 1) else of_word (of_status old t) v)
