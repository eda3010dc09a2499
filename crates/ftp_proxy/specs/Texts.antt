-- What the errors of a header print.
use Rattle.std.specs.Prelude.{ℕ, List, codes}
use Rattle.ftp_proxy.specs.declared.error.ProxyError.{ProxyError}
use Rattle.ftp_proxy.specs.declared.error.ProxyError.TheVariants as error

-- the text of an error
abbrev pub error_text : ProxyError → List ℕ
error_text error.HeaderSize = codes "header size is incorrect"
error_text error.CrlfError = codes "header doesn't end with CRLF"
error_text error.NotProxyHdr = codes "header does not match the supported proxy protocol v1"
error_text error.DecodeError = codes "proxy protocol parse error"
error_text error.IPv4Required = codes "only IPv4 is supported"
error_text error.UnsupportedVersion = codes "unsupported proxy protocol version"
error_text (error.ReadError e) = codes "error reading from stream"
