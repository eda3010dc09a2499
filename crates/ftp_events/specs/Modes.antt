-- What the options say of ports.
use Rattle.std.specs.Prelude.{ℕ, Bool, ◌&&◌, nat_le}
use Rattle.ftp_options.specs.declared.options.Options.{Options}

-- the port is one of the passive ports
abbrev pub in_range : Options → ℕ → Bool
in_range o port = nat_le o.lo port && nat_le port o.hi
