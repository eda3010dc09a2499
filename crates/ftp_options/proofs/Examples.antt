-- Worked examples of builders, each by computation. Handlers are numbers.
use Rattle.std.proofs.Common.{◌≡◌, ◌++◌, ℕ, [], ◌∷◌, Some, None, refl}
use Rattle.std.specs.Prelude.{codes}
use Rattle.ftp_options.specs.declared.error.ConfigFault.TheVariants.{InvalidName, Md5, Duplicate, ProviderAfterSite}
use Rattle.ftp_options.specs.declared.error.ServerError.TheVariants.{Configuration, EmptyRange, PortZero, FtpsRequired}
use Rattle.ftp_options.specs.declared.ftps.FtpsRequired.TheVariants as required
use Rattle.ftp_options.specs.declared.options.ListenerMode.TheVariants.{Pooled}
use Rattle.ftp_options.specs.Builder.{defaults, draft_of, refusal}
use Rattle.ftp_options.specs.Settings.{Settings, Draft}
use Rattle.ftp_options.specs.Site.{handler_of, registered, provided}
use Rattle.ftp_options.specs.Texts.{error_text}

-- ---- the order of refusals

abbrev fresh : Draft ℕ
fresh = draft_of defaults []

abbrev empty_range : Settings
empty_range = record defaults { lo = 5; hi = 4 }

abbrev port_zero : Settings
port_zero = record defaults { mode = Pooled; lo = 0 }

nothing_set : refusal fresh ≡ None
nothing_set = refl

all_at_once : refusal (record fresh { settings = empty_range; ftps_control = required.All; fault = Some Md5 }) ≡ Some (Configuration Md5)
all_at_once = refl

then_the_range : refusal (record fresh { settings = empty_range; ftps_control = required.All }) ≡ Some EmptyRange
then_the_range = refl

then_port_zero : refusal (record fresh { settings = port_zero; ftps_control = required.All }) ≡ Some PortZero
then_port_zero = refl

last_ftps : refusal (record fresh { ftps_data = required.Accounts }) ≡ Some FtpsRequired
last_ftps = refl

port_zero_of_its_own : refusal (record fresh { settings = record defaults { lo = 0 } }) ≡ None
port_zero_of_its_own = refl

-- ---- registrations

abbrev echo : Draft ℕ
echo = registered (codes "echo") 1 fresh

a_name_is_found_in_any_case : handler_of (registered (codes "x-1_2") 2 echo).handlers (codes "EcHo") ≡ Some 1
a_name_is_found_in_any_case = refl

a_name_twice : (registered (codes "ECHO") 2 echo).fault ≡ Some (Duplicate (codes "ECHO"))
a_name_twice = refl

md5_is_built_in : (registered (codes "Md5") 2 echo).fault ≡ Some Md5
md5_is_built_in = refl

no_name : (registered [] 2 echo).fault ≡ Some (InvalidName [])
no_name = refl

the_first_fault_is_kept : (registered (codes "echo") 3 (registered (codes "two words") 2 echo)).fault ≡ Some (InvalidName (codes "two words"))
the_first_fault_is_kept = refl

a_provider_comes_late : provided echo ≡ record fresh { fault = Some ProviderAfterSite }
a_provider_comes_late = refl

a_provider_comes_first : registered (codes "echo") 1 (provided fresh) ≡ echo
a_provider_comes_first = refl

-- ---- texts

twice_in_words : error_text (Configuration (Duplicate (codes "ECHO"))) ≡ codes "server error: Cannot register SITE command ECHO more than once"
twice_in_words = refl

a_name_escaped : error_text (Configuration (InvalidName (codes "a b" ++ 92 ∷ 10 ∷ 255 ∷ []))) ≡ codes "server error: Invalid SITE command name: \"a b\\x5c\\x0a\\xff\""
a_name_escaped = refl
