-- The settings that an options line asks for.
use Rattle.std.specs.Prelude.{ℕ, ◌*◌, Bool, true, false, Option, Some}
use Rattle.ftp_options.specs.Builder.{defaults}
use Rattle.ftp_options.specs.Settings.{Settings}
use Rattle.ftp_text.specs.declared.setup.Item.{Item}
use Rattle.ftp_text.specs.declared.setup.Item.TheVariants as item

-- what the storage can do: transfers can begin at a restart offset, or nothing more
abbrev pub restart_features : Bool → ℕ
restart_features true = 1
restart_features false = 0

-- the settings that an options line asks for, whose idle time is in seconds; else those of a builder on which nothing was set
abbrev pub settings_in : Option Item → Settings
settings_in (Some (item.Options mode lo hi host active idle lockout restart)) =
    record defaults {
      mode = mode;
      lo = lo;
      hi = hi;
      host = host;
      active_passive = active;
      idle_ms = idle * 1000;
      lockout = lockout;
      features = restart_features restart;
    }
settings_in _ = defaults
