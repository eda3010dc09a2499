-- Who has to use FTPS.
use Rattle.std.specs.Prelude.{ℕ, Bool, true, false, List, codes}
use Rattle.ftp_options.specs.declared.ftps.FtpsRequired.{FtpsRequired}
use Rattle.ftp_options.specs.declared.ftps.FtpsRequired.TheVariants as required
use Rattle.ftp_options.specs.declared.ftps.FtpsClientAuth.{FtpsClientAuth}
use Rattle.ftp_options.specs.declared.ftps.FtpsClientAuth.TheVariants as auth

-- all for true, nobody for false
abbrev pub required_of : Bool → FtpsRequired
required_of true = required.All
required_of false = required.None

-- required for true, off for false
abbrev pub client_auth_of : Bool → FtpsClientAuth
client_auth_of true = auth.Require
client_auth_of false = auth.Off

-- anybody has to use FTPS
abbrev pub is_enforced : FtpsRequired → Bool
is_enforced required.None = false
is_enforced _ = true

-- the text of a requirement
abbrev pub required_text : FtpsRequired → List ℕ
required_text required.All = codes "All users, including anonymous, requires FTPS"
required_text required.Accounts = codes "All non-anonymous users requires FTPS"
required_text required.None = codes "FTPS not enforced"
