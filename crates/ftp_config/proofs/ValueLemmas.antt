-- Why a value at a key is refused.
use Rattle.std.proofs.Common.{◌≡◌, Some, None, Option, false, refl, IfErr, Bool, ap, ◌∙◌}
use Rattle.std.specs.Option.{ok_or}
use Rattle.toml.specs.Data.{Data, Members}
use Rattle.ftp_config.specs.declared.error.ConfigError.TheVariants as error
use Rattle.ftp_config.specs.declared.key.Key.{Key}
use Rattle.ftp_config.specs.Config.{value_at, takes_value, IsFaultIn}

-- a key does not take what is none of its kind
pub refuses : (k : Key) (kind : Option Data → Bool) (v : Option Data) (d : Data) → takes_value k ≡ kind → v ≡ Some d → kind (Some d) ≡ false → takes_value k v ≡ false
refuses k kind v d is found other = ap (λ g. g v) is ∙ ap kind found ∙ other

-- a value that is none of the kind is a fault of the key
pub no_value : {A : Type 0} (r : Option A) (k : Key) (doc : Members) → (r ≡ None → takes_value k (value_at k doc) ≡ false) → IfErr (ok_or r (error.Value k)) (IsFaultIn doc)
no_value (Some x) k doc h = tt
no_value None k doc h = h refl
