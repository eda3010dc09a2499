-- A header of either version: the first byte tells which. And what it counts as, where a connection is decided by it.
use Rattle.std.specs.Prelude.{◌≡◌, ℕ, ◌+◌, ◌<◌, ◌≤◌, ◌==◌, Bool, true, false, List, [], ◌∷◌, length, get_or, take, drop, Option, Some, None, Result, Ok, Err, if◌then◌else◌}
use Rattle.std.specs.Option.{option_map}
use Rattle.ftp_proxy.specs.declared.header.ProxyHeader.{ProxyHeader}
use Rattle.ftp_proxy.specs.declared.error.ProxyError.{ProxyError}
use Rattle.ftp_proxy.specs.declared.error.ProxyError.TheVariants as line_error
use Rattle.ftp_proxy.specs.declared.error.ReadError.TheVariants as read
use Rattle.ftp_base.specs.declared.fault.LinkFault.{LinkFault}
use Rattle.ftp_base.specs.Calls.{Calls}
use Rattle.ftp_base.specs.Outside.{Sending}
use Rattle.ftp_proxy.specs.Line as line
use Rattle.ftp_proxy.specs.declared.v2_header.Header2.{Header2}
use Rattle.ftp_proxy.specs.declared.v2_header.Body.{Body}
use Rattle.ftp_proxy.specs.declared.v2_header.Body.TheVariants.{Inet, Inet6}
use Rattle.ftp_proxy.specs.declared.v2_error.Proxy2Error.{Proxy2Error}
use Rattle.ftp_proxy.specs.declared.v2_error.Proxy2Error.TheVariants as block_error
use Rattle.ftp_proxy.specs.declared.any.AnyHeader.{AnyHeader}
use Rattle.ftp_proxy.specs.declared.any.AnyHeader.TheVariants as header
use Rattle.ftp_proxy.specs.declared.any.AnyError.{AnyError}
use Rattle.ftp_proxy.specs.declared.any.AnyError.TheVariants as error
use Rattle.ftp_proxy.specs.Reading as reading

-- ---- which version

-- whether the first byte is CR
abbrev pub begins_with_cr : List ℕ → Bool
begins_with_cr [] = false
begins_with_cr (byte ∷ bytes) = byte == 13

-- the answer of the version that the first byte tells; where the source failed before that, of version 1
abbrev pub IsAnyAnswer : List ℕ → Result AnyHeader AnyError → Type 0
IsAnyAnswer bytes (Ok (header.V1 h)) = (begins_with_cr bytes ≡ false) × line.IsAnswer bytes (Ok h)
IsAnyAnswer bytes (Err (error.V1 (line_error.ReadError read.Fault))) = Unit {0}
IsAnyAnswer bytes (Err (error.V1 e)) = (begins_with_cr bytes ≡ false) × line.IsAnswer bytes (Err e)
IsAnyAnswer bytes (Ok (header.V2 h)) = (begins_with_cr bytes ≡ true) × reading.IsAnswer bytes (Ok h)
IsAnyAnswer bytes (Err (error.V2 e)) = (begins_with_cr bytes ≡ true) × reading.IsAnswer bytes (Err e)

-- what that version takes was taken
abbrev pub IsAnyTaken : List ℕ → Result AnyHeader AnyError → Option (List ℕ) → Type 0
IsAnyTaken bytes (Ok (header.V1 h)) left = line.IsTaken bytes (Ok h) left
IsAnyTaken bytes (Err (error.V1 e)) left = line.IsTaken bytes (Err e) left
IsAnyTaken bytes (Ok (header.V2 h)) left = reading.IsTaken bytes (Ok h) left
IsAnyTaken bytes (Err (error.V2 e)) left = reading.IsTaken bytes (Err e) left

-- whether the source failed
abbrev pub any_failed : Result AnyHeader AnyError → Bool
any_failed (Err (error.V1 (line_error.ReadError read.Fault))) = true
any_failed (Err (error.V2 block_error.Fault)) = true
any_failed _ = false

-- ---- what it counts as

-- a header of version 2, by its family and its body
abbrev pub counts_as : ℕ → Body → Result ProxyHeader ProxyError
counts_as family (Inet pair fields) =
    if family == 17 then Ok (record { source = pair.source; destination = pair.destination }) else Err line_error.UnsupportedVersion
counts_as family (Inet6 pair fields) = Err (if family == 33 then line_error.IPv4Required else line_error.UnsupportedVersion)
counts_as family _ = Err line_error.UnsupportedVersion

-- a refusal of version 2; nothing where memory ran out
abbrev pub refusal_as : Proxy2Error → Option ProxyError
refusal_as (block_error.BadVersion byte) = Some line_error.UnsupportedVersion
refusal_as block_error.UnexpectedEof = Some (line_error.ReadError read.UnexpectedEof)
refusal_as block_error.Fault = Some (line_error.ReadError read.Fault)
refusal_as block_error.OutOfMemory = None
refusal_as _ = Some line_error.DecodeError

-- what a connection is decided by; nothing where memory ran out
abbrev pub answered : Result AnyHeader AnyError → Option (Result ProxyHeader ProxyError)
answered (Ok (header.V1 h)) = Some (Ok h)
answered (Err (error.V1 e)) = Some (Err e)
answered (Ok (header.V2 h)) = Some (counts_as h.family h.body)
answered (Err (error.V2 e)) = option_map (λ d. Err d) (refusal_as e)

-- ---- in between

-- what reads did to a source that ended in an error of a line
abbrev pub IsLineRefused : {S : Type 0} → (S → Sending) → (S → ℕ) → (S → ℕ) → (S → Option (Calls (ℕ × LinkFault))) → Bool → S → S → ProxyError → Type 0
IsLineRefused sending faults limit calls is_link old new (line_error.ReadError read.Fault) = reading.ReadsToFault sending faults limit calls is_link old new
IsLineRefused sending faults limit calls is_link old new _ = reading.ReadsWell sending faults limit calls old new

-- what reads of a line did to a source, by their answer
abbrev pub IsLineRead : {S A : Type 0} → (S → Sending) → (S → ℕ) → (S → ℕ) → (S → Option (Calls (ℕ × LinkFault))) → Bool → S → S → Result A ProxyError → Type 0
IsLineRead sending faults limit calls is_link old new (Ok x) = reading.ReadsWell sending faults limit calls old new
IsLineRead sending faults limit calls is_link old new (Err e) = IsLineRefused sending faults limit calls is_link old new e

-- a line was read to the front of a buffer, of all bytes
abbrev pub IsReadLine : List ℕ → List ℕ → Result ℕ ProxyError → Option (List ℕ) → Type 0
IsReadLine all buffer (Ok n) left = (take n buffer ≡ line.taken all) × (left ≡ Some (line.untaken all))
IsReadLine all buffer (Err e) left = (e ≡ line_error.ReadError read.Fault) × line.IsFront all left

-- so many of all bytes were read to the front of a buffer, and none but the last can be a line feed
pub record IsReadTo (all buffer : List ℕ) (i : ℕ) (left : Option (List ℕ)) : Type 0 where
  pub within : i ≤ length all
  pub front : take i buffer ≡ take i all
  pub none : (k : ℕ) → k + 1 < i → (get_or all k 0 == 10) ≡ false
  pub rest : left ≡ Some (drop i all)

-- what was read, as of its version
abbrev pub as_version1 : Result ProxyHeader ProxyError → Result AnyHeader AnyError
as_version1 (Ok h) = Ok (header.V1 h)
as_version1 (Err e) = Err (error.V1 e)

abbrev pub as_version2 : Result Header2 Proxy2Error → Result AnyHeader AnyError
as_version2 (Ok h) = Ok (header.V2 h)
as_version2 (Err e) = Err (error.V2 e)

-- what reads did to a source, by whether the last of them failed
abbrev pub IsAnyRead : {S : Type 0} → (S → Sending) → (S → ℕ) → (S → ℕ) → (S → Option (Calls (ℕ × LinkFault))) → Bool → S → S → Bool → Type 0
IsAnyRead sending faults limit calls is_link old new true = reading.ReadsToFault sending faults limit calls is_link old new
IsAnyRead sending faults limit calls is_link old new false = reading.ReadsWell sending faults limit calls old new
