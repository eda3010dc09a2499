-- What a configuration file says: a value for each key that it has, and the usual one for each that it lacks.
use Rattle.std.specs.Prelude.{◌≡◌, ℕ, ℤ, pos, negsuc, nat_le, ◌&&◌, Bool, true, false, List, [], ◌∷◌, Option, Some, None, is_some, option_map, option_and_then, codes, if◌then◌else◌, ⊤}
use Rattle.std.specs.List.{list_all, list_any}
use Rattle.std.specs.Str.{bytes_eq}
use Rattle.toml.specs.Data.{Data, Members, no_members, member, get_member, as_str, as_integer, as_bool}
use Rattle.toml.specs.Parse.{parse_document}
use Rattle.ftp_options.specs.declared.options.ListenerMode.{ListenerMode}
use Rattle.ftp_options.specs.declared.options.ListenerMode.TheVariants.{Legacy, Pooled, Proxy}
use Rattle.ftp_options.specs.declared.lockout.FailedLoginsBlock.{FailedLoginsBlock}
use Rattle.ftp_options.specs.declared.lockout.FailedLoginsBlock.TheVariants.{UserAndIP, IP, User}
use Rattle.ftp_config.specs.declared.config.GatewayConfig.{GatewayConfig}
use Rattle.ftp_config.specs.declared.error.ConfigError.{ConfigError}
use Rattle.ftp_config.specs.declared.error.ConfigError.TheVariants as error
use Rattle.ftp_config.specs.declared.key.Key.{Key}
use Rattle.ftp_config.specs.declared.key.Key.TheVariants as key
use Rattle.ftp_config.specs.Keys.{key_name, config_key}

-- what a document has at a key
abbrev pub value_at : Key → Members → Option Data
value_at key document = get_member (key_name key) document

-- a text, or the usual one
abbrev pub text_or : List ℕ → Option Data → Option (List ℕ)
text_or usual None = Some usual
text_or usual (Some value) = as_str value

-- a text, or none
abbrev pub maybe_text : Option Data → Option (Option (List ℕ))
maybe_text None = Some None
maybe_text (Some value) = option_map Some (as_str value)

-- an integer of the range
abbrev pub within : ℕ → ℕ → ℤ → Option ℕ
within lo hi (pos n) = if nat_le lo n && nat_le n hi then Some n else None
within lo hi (negsuc n) = None

-- an integer of the range, or the usual one
abbrev pub number_or : ℕ → ℕ → ℕ → Option Data → Option ℕ
number_or lo hi usual None = Some usual
number_or lo hi usual (Some value) = option_and_then (within lo hi) (as_integer value)

-- a yes or no, or the usual one
abbrev pub flag_or : Bool → Option Data → Option Bool
flag_or usual None = Some usual
flag_or usual (Some value) = as_bool value

-- the mode of a word; behind a proxy with the proxy's control port
abbrev pub mode_named : ℕ → List ℕ → Option ListenerMode
mode_named port word =
    if bytes_eq word (codes "pooled") then Some Pooled else if bytes_eq word (codes "legacy") then Some Legacy else
    (if bytes_eq word (codes "proxy") then Some (Proxy port) else None)

-- what failed logins are counted by, if they are
abbrev pub block_named : List ℕ → Option (Option FailedLoginsBlock)
block_named word =
    if bytes_eq word (codes "ip") then Some (Some IP) else if bytes_eq word (codes "user") then Some (Some User) else
    (if bytes_eq word (codes "both") then Some (Some UserAndIP) else if bytes_eq word (codes "off") then Some None else None)

-- what keys take
abbrev pub is_text : Option Data → Bool
is_text value = is_some (text_or [] value)

abbrev pub is_count_in : ℕ → ℕ → Option Data → Bool
is_count_in lo hi value = is_some (number_or lo hi lo value)

abbrev pub is_flag : Option Data → Bool
is_flag value = is_some (flag_or false value)

abbrev pub is_port_value : Option Data → Bool
is_port_value = is_count_in 1 65535

abbrev pub is_count : Option Data → Bool
is_count = is_count_in 1 4294967295

abbrev pub takes_value : Key → Option Data → Bool
takes_value key.UsersFile value = is_some (option_and_then as_str value)
takes_value key.Mode value = is_some (option_and_then (mode_named 0) (text_or (codes "pooled") value))
takes_value key.Lockout value = is_some (option_and_then block_named (text_or (codes "ip") value))
takes_value key.PortEnable value = is_flag value
takes_value key.TlsAtProxy value = is_flag value
takes_value key.WholeUploads value = is_flag value
takes_value key.ProxyControlPort value = is_port_value value
takes_value key.PasvMinPort value = is_port_value value
takes_value key.PasvMaxPort value = is_port_value value
takes_value key.IdleSessionTimeout value = is_count value
takes_value key.ShutdownGrace value = is_count value
takes_value key.MaxClients value = is_count value
takes_value key.MaxPerIp value = is_count value
takes_value key.LockoutFailures value = is_count value
takes_value key.LockoutForget value = is_count value
takes_value _ value = is_text value

-- the keys of a document
abbrev pub keys_of_document : Members → List (List ℕ)
keys_of_document no_members = []
keys_of_document (member name value rest) = name ∷ keys_of_document rest

-- each key is known
abbrev pub has_known_keys : Members → Bool
has_known_keys document = list_all (λ name. is_some (config_key name)) (keys_of_document document)

-- what the document says
pub record IsConfigOf (document : Members) (config : GatewayConfig) : Type 0 where
  pub users_file : option_and_then as_str (value_at key.UsersFile document) ≡ Some config.users_file
  pub listen : text_or (codes "0.0.0.0:21") (value_at key.Listen document) ≡ Some config.listen
  pub control_port : number_or 1 65535 21 (value_at key.ProxyControlPort document) ≡ Some config.proxy_control_port
  pub mode : option_and_then (mode_named config.proxy_control_port) (text_or (codes "pooled") (value_at key.Mode document)) ≡ Some config.mode
  pub tls : flag_or false (value_at key.TlsAtProxy document) ≡ Some config.tls_at_proxy
  pub min_port : number_or 1 65535 20000 (value_at key.PasvMinPort document) ≡ Some config.pasv_min_port
  pub max_port : number_or 1 65535 20099 (value_at key.PasvMaxPort document) ≡ Some config.pasv_max_port
  pub address : maybe_text (value_at key.PasvAddress document) ≡ Some config.pasv_address
  pub active : flag_or false (value_at key.PortEnable document) ≡ Some config.port_enable
  pub banner : text_or (codes "FTP") (value_at key.Banner document) ≡ Some config.banner
  pub idle : number_or 1 4294967295 600 (value_at key.IdleSessionTimeout document) ≡ Some config.idle_session_timeout
  pub grace : number_or 1 4294967295 30 (value_at key.ShutdownGrace document) ≡ Some config.shutdown_grace
  pub all : number_or 1 4294967295 500 (value_at key.MaxClients document) ≡ Some config.max_clients
  pub of_one : number_or 1 4294967295 20 (value_at key.MaxPerIp document) ≡ Some config.max_per_ip
  pub lockout : option_and_then block_named (text_or (codes "ip") (value_at key.Lockout document)) ≡ Some config.lockout
  pub failures : number_or 1 4294967295 5 (value_at key.LockoutFailures document) ≡ Some config.lockout_failures
  pub forget : number_or 1 4294967295 600 (value_at key.LockoutForget document) ≡ Some config.lockout_forget
  pub whole : flag_or false (value_at key.WholeUploads document) ≡ Some config.whole_uploads
  pub xferlog : maybe_text (value_at key.XferlogFile document) ≡ Some config.xferlog_file
  pub log : maybe_text (value_at key.LogFile document) ≡ Some config.log_file
  pub metrics : maybe_text (value_at key.MetricsFile document) ≡ Some config.metrics_file
  pub control : maybe_text (value_at key.ControlSocket document) ≡ Some config.control_socket

-- a fault tells what is wrong with the document
abbrev pub IsFaultIn : Members → ConfigError → Type 0
IsFaultIn document (error.Value key) = takes_value key (value_at key document) ≡ false
IsFaultIn document (error.UnknownKey name) = (list_any (bytes_eq name) (keys_of_document document) ≡ true) × (config_key name ≡ None)
IsFaultIn document (error.Syntax _) = ⊥
IsFaultIn document error.OutOfMemory = ⊤

-- a fault tells what is wrong with the text
abbrev pub IsFaultOf : List ℕ → ConfigError → Type 0
IsFaultOf text (error.Syntax _) = parse_document text ≡ None
IsFaultOf text error.OutOfMemory = ⊤
IsFaultOf text e = (document : Members) × (parse_document text ≡ Some document) × IsFaultIn document e
