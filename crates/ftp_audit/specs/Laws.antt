-- What the notifications of a right and acted log tell.
use Rattle.std.specs.Prelude.{◌≡◌, ℕ, List}
use Rattle.ftp_options.specs.declared.options.Options.{Options}
use Rattle.ftp_events.specs.declared.entry.Entry.{Entry}
use Rattle.ftp_events.specs.Right.{IsRight, IsActed}
use Rattle.ftp_audit.specs.Sums.{sums}
use Rattle.ftp_audit.specs.Heard.{heard}

-- what listeners are told of a user over any stretch of a right and acted log is what was decided and completed for the user
abbrev pub NoticesTellWhatWasDecided : Type 0
NoticesTellWhatWasDecided =
    (o : Options) (log : List Entry) (user : List ℕ) (from to : ℕ) → IsRight o log → IsActed o log →
    heard log user from to ≡ sums o log user from to
