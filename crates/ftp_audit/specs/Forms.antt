-- The two forms of a line: one of its own, and that of wu-ftpd's xferlog, which tells files that were sent, received or removed.
use Rattle.std.specs.Prelude.{ℕ, ◌+◌, ◌/◌, ◌==◌, ◌||◌, nat_le, List, [], ◌∷◌, ◌++◌, Option, Some, None, codes, map, if◌then◌else◌}
use Rattle.std.specs.List.{flat_map}
use Rattle.std.specs.Int.{w128, to_be_bytes}
use Rattle.ftp_base.specs.declared.net.IpAddr.{IpAddr}
use Rattle.ftp_base.specs.declared.net.IpAddr.TheVariants.{V4, V6}
use Rattle.ftp_events.specs.declared.status.CommandWord.{CommandWord}
use Rattle.ftp_events.specs.declared.status.CommandWord.TheVariants as command
use Rattle.ftp_events.specs.Tallies.{saturated}
use Rattle.ftp_text.specs.Fields.{dotted, escape_byte, field, hex_text, kind_text, number}
use Rattle.ftp_audit.specs.Calendar.{iso_text, ctime_text}
use Rattle.ftp_audit.specs.declared.line.LogForm.{LogForm}
use Rattle.ftp_audit.specs.declared.line.LogForm.TheVariants as form
use Rattle.ftp_audit.specs.declared.line.LogLine.{LogLine}
use Rattle.ftp_audit.specs.declared.line.LineWord.{LineWord}
use Rattle.ftp_audit.specs.declared.line.LineWord.TheVariants as word
use Rattle.ftp_audit.specs.declared.line.LineResult.{LineResult}
use Rattle.ftp_audit.specs.declared.line.LineResult.TheVariants as result

-- ---- fields

-- the digits of an IPv6 address
unfoldable pub v6_digits : ℕ → List ℕ
v6_digits ip = hex_text (to_be_bytes w128 ip)

-- where a client is: four numbers joined by dots, or 32 hexadecimal digits in brackets
abbrev pub client_text : IpAddr → List ℕ
client_text (V4 ip) = dotted ip
client_text (V6 ip) = 91 ∷ v6_digits ip ++ 93 ∷ []

-- a hyphen where it is not known
abbrev pub maybe_client : Option IpAddr → List ℕ
maybe_client None = codes "-"
maybe_client (Some ip) = client_text ip

-- a byte of a text that has no blank: printable ones but the backslash stand for themselves, each other behind a backslash and an x
abbrev pub bare_byte : ℕ → List ℕ
bare_byte b = if b == 32 then codes "\\x20" else escape_byte b

-- a text without blanks
abbrev pub blankless : List ℕ → List ℕ
blankless text = flat_map bare_byte text

-- a path, or a hyphen where there is none
abbrev pub bare_path : List ℕ → List ℕ
bare_path [] = codes "-"
bare_path (b ∷ path) = blankless (b ∷ path)

-- a second path
abbrev pub other_path : Option (List ℕ) → List ℕ
other_path None = []
other_path (Some path) = field (bare_path path)

-- the words of commands
abbrev pub command_text : CommandWord → List ℕ
command_text command.Retr = codes "RETR"
command_text command.Stor = codes "STOR"
command_text command.Appe = codes "APPE"
command_text command.List = codes "LIST"
command_text command.Nlst = codes "NLST"
command_text command.Mlsd = codes "MLSD"

-- the words of lines
abbrev pub log_word_text : LineWord → List ℕ
log_word_text word.Connect = codes "connect"
log_word_text word.Login = codes "login"
log_word_text word.End = codes "end"
log_word_text (word.Transfer None) = codes "-"
log_word_text (word.Transfer (Some w)) = command_text w
log_word_text word.Dele = codes "DELE"
log_word_text word.Rmd = codes "RMD"
log_word_text word.Mkd = codes "MKD"
log_word_text word.Rnto = codes "RNTO"

-- the words of results
abbrev pub line_result_text : LineResult → List ℕ
line_result_text result.Done = codes "ok"
line_result_text result.Failed = codes "failed"
line_result_text result.Locked = codes "locked"
line_result_text result.Quit = codes "quit"
line_result_text result.Closed = codes "closed"
line_result_text result.TimedOut = codes "timeout"
line_result_text result.Stopped = codes "stopped"
line_result_text result.Aborted = codes "aborted"
line_result_text (result.Refused kind) = kind_text kind
line_result_text result.OutOfMemory = codes "memory"

-- ---- the own form

-- when, where and who
unfoldable pub own_front : ℕ → LogLine → List ℕ
own_front moment l =
    iso_text moment ++ number l.session ++ field (maybe_client l.client) ++ field (blankless l.user) ++ field (log_word_text l.word)

-- how it came out
unfoldable pub own_back : LogLine → List ℕ
own_back l =
    number l.bytes ++ number l.millis ++ field (line_result_text l.result) ++ field (bare_path l.path) ++ other_path l.to ++ 10 ∷ []

-- a line, at a moment in milliseconds since the first day of 1970
abbrev pub own_line : ℕ → LogLine → List ℕ
own_line moment l = own_front moment l ++ own_back l

-- ---- xferlog

-- blanks and control bytes become underscores
abbrev pub xferlog_byte : ℕ → ℕ
xferlog_byte b = if nat_le b 32 || (b == 127) then 95 else b

-- the direction of a command: o for a file that is sent, i for one that is received
abbrev pub command_direction : CommandWord → Option ℕ
command_direction command.Retr = Some 111
command_direction command.Stor = Some 105
command_direction command.Appe = Some 105
command_direction _ = None

-- the direction of a line: d for a file that is removed
abbrev pub direction_of : LineWord → Option ℕ
direction_of (word.Transfer (Some w)) = command_direction w
direction_of word.Dele = Some 100
direction_of _ = None

-- c where it is complete, and i where not
abbrev pub completion_byte : LineResult → ℕ
completion_byte result.Done = 99
completion_byte _ = 105

-- up to the path
unfoldable pub xferlog_front : ℕ → LogLine → List ℕ
xferlog_front moment l =
    ctime_text moment ++ number (l.millis / 1000) ++ field (maybe_client l.client) ++ number l.bytes ++ field (map xferlog_byte l.path)

-- what stands behind it, with this direction
unfoldable pub xferlog_back : LogLine → ℕ → List ℕ
xferlog_back l direction =
    codes " b _ " ++ direction ∷ codes " r " ++ map xferlog_byte l.user ++ codes " ftp 0 * " ++ completion_byte l.result ∷ 10 ∷ []

-- a line with this direction
abbrev pub xferlog_with : ℕ → LogLine → ℕ → List ℕ
xferlog_with moment l direction = xferlog_front moment l ++ xferlog_back l direction

-- a line of a file that was sent, received or removed, and no other
abbrev pub xferlog_by : Option ℕ → ℕ → LogLine → List ℕ
xferlog_by None moment l = []
xferlog_by (Some direction) moment l = xferlog_with moment l direction

-- ---- both

-- a line in a form, where the server started at a moment in milliseconds since the first day of 1970
abbrev pub log_line_text : LogForm → ℕ → LogLine → List ℕ
log_line_text form.Own start l = own_line (saturated (start + l.at)) l
log_line_text form.Xferlog start l = xferlog_by (direction_of l.word) (saturated (start + l.at)) l
