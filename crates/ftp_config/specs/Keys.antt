-- The keys of a configuration file.
use Rattle.std.specs.Prelude.{ℕ, List, [], ◌∷◌, codes, find, Option}
use Rattle.std.specs.Str.{bytes_eq}
use Rattle.ftp_config.specs.declared.key.Key.{Key}
use Rattle.ftp_config.specs.declared.key.Key.TheVariants as key

-- how a key is written
abbrev pub key_name : Key → List ℕ
key_name key.UsersFile = codes "users_file"
key_name key.Listen = codes "listen"
key_name key.Mode = codes "mode"
key_name key.ProxyControlPort = codes "proxy_control_port"
key_name key.TlsAtProxy = codes "tls_at_proxy"
key_name key.PasvMinPort = codes "pasv_min_port"
key_name key.PasvMaxPort = codes "pasv_max_port"
key_name key.PasvAddress = codes "pasv_address"
key_name key.PortEnable = codes "port_enable"
key_name key.Banner = codes "ftpd_banner"
key_name key.IdleSessionTimeout = codes "idle_session_timeout"
key_name key.ShutdownGrace = codes "shutdown_grace"
key_name key.MaxClients = codes "max_clients"
key_name key.MaxPerIp = codes "max_per_ip"
key_name key.Lockout = codes "lockout"
key_name key.LockoutFailures = codes "lockout_failures"
key_name key.LockoutForget = codes "lockout_forget"
key_name key.WholeUploads = codes "whole_uploads"
key_name key.XferlogFile = codes "xferlog_file"
key_name key.LogFile = codes "log_file"
key_name key.MetricsFile = codes "metrics_file"
key_name key.ControlSocket = codes "control_socket"

-- all keys
abbrev pub keys : List Key
keys =
    key.UsersFile ∷ key.Listen ∷ key.Mode ∷ key.ProxyControlPort ∷ key.TlsAtProxy ∷ key.PasvMinPort ∷ key.PasvMaxPort ∷ key.PasvAddress ∷ key.PortEnable ∷ key.Banner
    ∷ key.IdleSessionTimeout ∷ key.ShutdownGrace ∷ key.MaxClients ∷ key.MaxPerIp ∷ key.Lockout ∷ key.LockoutFailures ∷ key.LockoutForget
    ∷ key.WholeUploads ∷ key.XferlogFile ∷ key.LogFile ∷ key.MetricsFile ∷ key.ControlSocket ∷ []

-- the key that is written so
abbrev pub config_key : List ℕ → Option Key
config_key name = find (λ k. bytes_eq (key_name k) name) keys
