-- A connection that a proxy passes on, and the header of either version in front of it.
use Rattle.std.specs.Prelude.{◌≡◌, ℕ, Bool, true, false, List, Option, Some, None, Result, Err}
use Rattle.ftp_events.specs.declared.event.Answer.{Answer}
use Rattle.ftp_events.specs.declared.event.Answer.TheVariants.{Header}
use Rattle.ftp_events.specs.declared.event.HubEvent.{HubEvent}
use Rattle.ftp_proxy.specs.declared.error.ProxyError.{ProxyError}
use Rattle.ftp_proxy.specs.declared.error.ProxyError.TheVariants.{ReadError}
use Rattle.ftp_proxy.specs.declared.error.ReadError.TheVariants.{Fault}
use Rattle.ftp_proxy.specs.declared.header.ProxyHeader.{ProxyHeader}
use Rattle.ftp_proxy.specs.Any.{IsAnyAnswer, IsAnyTaken, answered}
use Rattle.ftp_proxy.specs.declared.any.AnyError.{AnyError}
use Rattle.ftp_proxy.specs.declared.any.AnyHeader.{AnyHeader}

-- the header of a connection, or why there is none
abbrev pub header_in : Answer → Option (Result ProxyHeader ProxyError)
header_in (Header header) = Some header
header_in _ = None

-- what a connection is to be decided by; nothing where there is no event of it
abbrev pub header_told : Option (HubEvent × Answer) → Option (Result ProxyHeader ProxyError)
header_told (Some made) = header_in made.1
header_told None = None

-- whether a link failed before its header was read
abbrev pub is_read_fault : Option (Result ProxyHeader ProxyError) → Bool
is_read_fault (Some (Err (ReadError Fault))) = true
is_read_fault _ = false

-- a header of either version was read at the front of these bytes, or why there is none, and this is what that counts as
pub record IsHeaderOf (bytes : List ℕ) (header : Option (Result ProxyHeader ProxyError)) (left : Option (List ℕ)) : Type 0 where
  pub read : Result AnyHeader AnyError
  pub counts_as : answered read ≡ header
  pub answer : IsAnyAnswer bytes read
  pub taken : IsAnyTaken bytes read left
