-- The keys of failed logins, and their order.
use Rattle.std.specs.Prelude.{ℕ, Bool, List, []}
use Rattle.std.specs.Ordering.{nat_cmp, then_cmp, on, eq_by_cmp}
use Rattle.std.specs.Cmp.Lexicographic.{slice_cmp}
use Rattle.std.specs.declared.cmp.Ordering.{Ordering}
use Rattle.ftp_base.specs.declared.net.IpAddr.{IpAddr}
use Rattle.ftp_base.specs.declared.net.IpAddr.TheVariants.{V4, V6}
use Rattle.ftp_options.specs.declared.lockout.FailedLoginsBlock.{FailedLoginsBlock}
use Rattle.ftp_options.specs.declared.lockout.FailedLoginsBlock.TheVariants.{UserAndIP, IP, User}
use Rattle.ftp_lockout.specs.declared.key.LoginKey.{LoginKey}
use Rattle.ftp_lockout.specs.declared.key.LentKey.{LentKey}

-- the key of an address of this version, with a name
abbrev pub key_at : IpAddr → List ℕ → LoginKey
key_at (V4 n) name = record { version = 4; number = n; name = name }
key_at (V6 n) name = record { version = 6; number = n; name = name }

-- the key of a login: address and name, or one of them alone
abbrev pub key_of : FailedLoginsBlock → IpAddr → List ℕ → LoginKey
key_of UserAndIP ip user = key_at ip user
key_of IP ip user = key_at ip []
key_of User ip user = record { version = 0; number = 0; name = user }

-- by version, then by address, then by name
unfoldable pub key_cmp : LoginKey → LoginKey → Ordering
key_cmp =
    then_cmp (then_cmp (on (λ k. k.version) nat_cmp) (on (λ k. k.number) nat_cmp)) (on (λ k. k.name) (slice_cmp nat_cmp))

-- whether two keys are one
abbrev pub same_key : LoginKey → LoginKey → Bool
same_key = eq_by_cmp key_cmp

-- the key that is lent
abbrev pub key_lent : LentKey → LoginKey
key_lent k = record { version = k.version; number = k.number; name = k.name.now }
