-- The outcome of a PROXY line, over all the bytes that a source has left, and which of them are taken.
use Rattle.std.specs.Prelude.{◌≡◌, ℕ, ◌+◌, ◌-◌, ◌<◌, ◌≤◌, ◌==◌, nat_lt, List, [], ◌∷◌, length, get_or, take, drop, position, Option, Some, None, Result, Err, if◌then◌else◌}
use Rattle.ftp_proxy.specs.declared.header.ProxyHeader.{ProxyHeader}
use Rattle.ftp_proxy.specs.declared.error.ProxyError.{ProxyError}
use Rattle.ftp_proxy.specs.declared.error.ProxyError.TheVariants as error
use Rattle.ftp_proxy.specs.declared.error.ReadError.TheVariants as read
use Rattle.ftp_proxy.specs.Header.{pieces, header_outcome}

-- where the first line feed is, among the first 108 bytes
abbrev pub line_feed : List ℕ → Option ℕ
line_feed bytes = position (λ b. b == 10) (take 108 bytes)

-- the outcome by the place of the first line feed
abbrev pub outcome_at : List ℕ → Option ℕ → Result ProxyHeader ProxyError
outcome_at bytes None = Err (if nat_lt (length bytes) 108 then error.ReadError read.UnexpectedEof else error.NotProxyHdr)
outcome_at bytes (Some end) =
    if nat_lt end 13 then Err error.HeaderSize
    else if get_or bytes (end - 1) 0 == 13 then header_outcome (pieces 32 (take (end - 1) bytes))
    else Err error.CrlfError

-- the outcome of the line at the front of the bytes
abbrev pub line : List ℕ → Result ProxyHeader ProxyError
line bytes = outcome_at bytes (line_feed bytes)

-- how many bytes are taken: up to and with the line feed, else 108, or all where there are fewer
abbrev pub taken_len : List ℕ → Option ℕ → ℕ
taken_len bytes None = length (take 108 bytes)
taken_len bytes (Some end) = end + 1

-- the bytes that are taken for the line
abbrev pub taken : List ℕ → List ℕ
taken bytes = take (taken_len bytes (line_feed bytes)) bytes

-- the bytes that are left behind the line
abbrev pub untaken : List ℕ → List ℕ
untaken bytes = drop (taken_len bytes (line_feed bytes)) bytes

-- the answer is the outcome of the line, unless the source failed
abbrev pub IsAnswer : List ℕ → Result ProxyHeader ProxyError → Type 0
IsAnswer bytes (Err (error.ReadError read.Fault)) = Unit {0}
IsAnswer bytes answer = answer ≡ line bytes

-- some bytes from the front of the line were taken
abbrev pub IsFront : List ℕ → Option (List ℕ) → Type 0
IsFront bytes left = (n : ℕ) × (n ≤ length (taken bytes)) × (left ≡ Some (drop n bytes))

-- the line was taken and no more; where the source failed, some bytes from its front
abbrev pub IsTaken : List ℕ → Result ProxyHeader ProxyError → Option (List ℕ) → Type 0
IsTaken bytes (Err (error.ReadError read.Fault)) left = IsFront bytes left
IsTaken bytes answer left = left ≡ Some (untaken bytes)

-- ---- in between

-- the line feed was found, with these bytes before it; or none is among 108 bytes
abbrev pub IsLine : List ℕ → List ℕ → Option ℕ → Type 0
IsLine bytes buffer None = (line_feed bytes ≡ None) × (108 ≤ length bytes)
IsLine bytes buffer (Some end) = (line_feed bytes ≡ Some end) × (take end buffer ≡ take end bytes) × (end < length bytes)

-- the bytes end before a line feed and before 108 bytes
abbrev pub IsCutShort : List ℕ → Type 0
IsCutShort bytes = (line_feed bytes ≡ None) × (length bytes < 108)

-- the next byte was taken; none is left where there is none
abbrev pub IsNext : List ℕ → Option ℕ → Option (List ℕ) → Type 0
IsNext bytes None left = (bytes ≡ []) × (left ≡ Some [])
IsNext bytes (Some byte) left = (rest : List ℕ) × (bytes ≡ byte ∷ rest) × (left ≡ Some rest)
