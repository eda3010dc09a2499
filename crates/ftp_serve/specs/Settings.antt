-- What a service sets of the options.
use Rattle.std.specs.Prelude.{◌≡◌, false}
use Rattle.ftp_options.specs.Builder.{defaults}
use Rattle.ftp_options.specs.Modes.{is_legacy}
use Rattle.ftp_options.specs.Settings.{Settings}
use Rattle.ftp_serve.specs.declared.service.Service.{Service}

-- a service sets its mode and its passive ports, and nothing else
abbrev pub settings_for : Service → Settings
settings_for service = record defaults { mode = service.mode; lo = service.lo; hi = service.hi }

-- the passive ports begin at port 0 where sessions share them
abbrev pub IsAtZero : Service → Type 0
IsAtZero service = (service.lo ≡ 0) × (is_legacy service.mode ≡ false)
