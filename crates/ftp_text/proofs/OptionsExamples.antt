-- Worked examples of the options: lines that are read, and lines of options that would not build or are not spelled so.
use Rattle.std.proofs.Common.{◌≡◌, ℕ, true, false, List, [], ◌∷◌, Some, None, refl}
use Rattle.std.specs.Prelude.{codes}
use Rattle.std.specs.Fmt.{digits}
use Rattle.ftp_options.specs.declared.options.ListenerMode.TheVariants.{Legacy, Pooled, Proxy}
use Rattle.ftp_options.specs.declared.options.ActivePassiveMode.TheVariants.{PassiveOnly, ActiveOnly, ActiveAndPassive}
use Rattle.ftp_options.specs.declared.host.PassiveHost.TheVariants.{FromConnection, Ip, Dns}
use Rattle.ftp_options.specs.declared.lockout.FailedLoginsBlock.TheVariants as block
use Rattle.ftp_text.specs.declared.setup.Item.{Item}
use Rattle.ftp_text.specs.declared.setup.Item.TheVariants as item
use Rattle.ftp_text.specs.Reading.{number_at, small_at, dotted_at, text_from, word_at}
use Rattle.ftp_text.specs.OptionsReading.{mode_of, mode_at, listening_at, host_of, host_at, active_at, policy_of, lockout_of, lockout_at, restart_at, rules_at}
use Rattle.ftp_text.specs.Setup.{item_line}
use Rattle.ftp_text.specs.SetupReading.{options_at, item_of}
use Rattle.ftp_text.proofs.Samples.{AreSpelled, AreRead, AreBad}

-- a name, for which the rest stays the same
abbrev named : List ℕ → Item
named name = item.Options Pooled 1 1 (Dns name) PassiveOnly 1 None true

-- options, and their lines
abbrev lines : List (Item × List ℕ)
lines =
    -- listeners of each session's own, where the first port may be 0
    (
      item.Options Legacy 0 65535 FromConnection ActiveAndPassive 4294967295 None false,
      codes "options legacy 0 65535 connection both 4294967295 off norestart",
    )
    -- three failed logins of a name from an address lock it, within two minutes each
    ∷ (
      item.Options Pooled 50000 50001 (Ip 3221225991) ActiveOnly 600
          (Some (record { max_attempts = 3; expires_after_ms = 120000; block_by = block.UserAndIP })) true,
      codes "options pooled 50000 50001 ip:192.0.2.7 active 600 3:120:both restart",
    )
    -- the control port may be one of the passive ports, and the first failed login may lock
    ∷ (
      item.Options (Proxy 50001) 50000 50001 (Dns (codes "ftp.example")) PassiveOnly 0
          (Some (record { max_attempts = 0; expires_after_ms = 4294967295000; block_by = block.IP })) true,
      codes "options proxy:50001 50000 50001 dns:ftp.example passive 0 0:4294967295:ip restart",
    )
    -- the control port may be 0, and failed logins are counted by the name alone
    ∷ (
      item.Options (Proxy 0) 50000 50001 FromConnection PassiveOnly 600
          (Some (record { max_attempts = 3; expires_after_ms = 120000; block_by = block.User })) true,
      codes "options proxy:0 50000 50001 connection passive 600 3:120:user restart",
    )
    -- a name may be empty
    ∷ (named [], codes "options pooled 1 1 dns: passive 1 off restart")
    -- a name may look like an address, and stays a name
    ∷ (named (codes "10.0.0.1"), codes "options pooled 1 1 dns:10.0.0.1 passive 1 off restart")
    -- a byte of a name that is not printable, and a backslash
    ∷ (named (97 ∷ 255 ∷ 92 ∷ []), codes "options pooled 1 1 dns:a\\xff\\x5c passive 1 off restart") ∷ []

pub spelled_lines : AreSpelled item_line lines
unfolding digits
spelled_lines = refl

pub read_lines : AreRead item_of lines
unfolding item_of options_at listening_at mode_at mode_of rules_at host_at host_of active_at lockout_at lockout_of policy_of restart_at number_at small_at dotted_at word_at text_from digits
read_lines = refl

-- a range of ports that ends before it begins, and one from 0 where sessions share the ports
pub bad_ranges : AreBad item_of
    (codes "options pooled 50001 50000 connection passive 600 off restart"
    ∷ codes "options legacy 50001 50000 connection passive 600 off restart"
    ∷ codes "options pooled 0 50001 connection passive 600 off restart"
    ∷ codes "options proxy:2121 0 50001 connection passive 600 off restart" ∷ [])
unfolding item_of options_at listening_at mode_at mode_of number_at small_at word_at digits
bad_ranges = refl

-- lines that spell nothing; a space stands for itself, and so in no name
pub bad_lines : AreBad item_of
    (codes "options proxy:65536 50000 50001 connection passive 600 off restart"
    ∷ codes "options proxy:02121 50000 50001 connection passive 600 off restart"
    ∷ codes "options pooled 1 1 ip:192.0.2 passive 1 off restart"
    ∷ codes "options pooled 1 1 dns:a b passive 1 off restart"
    ∷ codes "options pooled 1 1 dns:a\\x20b passive 1 off restart"
    ∷ codes "options pooled 1 1 connection passive 4294967296 off restart"
    ∷ codes "options pooled 1 1 connection passive 1 4294967296:120:both restart"
    ∷ codes "options pooled 1 1 connection passive 1 3:120 restart"
    ∷ codes "options pooled 1 1 connection passive 1 off restart " ∷ [])
unfolding item_of options_at listening_at mode_at mode_of rules_at host_at host_of active_at lockout_at lockout_of policy_of restart_at number_at small_at dotted_at word_at text_from digits
bad_lines = refl
