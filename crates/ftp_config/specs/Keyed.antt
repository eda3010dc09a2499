-- What HMAC keeps of a key.
use Rattle.std.specs.Prelude.{ℕ, List}
use Rattle.sha2.specs.Hashers.{Holds256}
use Rattle.ftp_config.specs.Hmac.{padded}
use Rattle.ftp_config.specs.declared.hmac.Keyed.{Keyed}

-- both hashers have read the key's block with their pad
pub record IsKeyedBy (keyed : Keyed) (key : List ℕ) : Type 0 where
  pub inner : Holds256 keyed.inner (padded key 0x36)
  pub outer : Holds256 keyed.outer (padded key 0x5c)
