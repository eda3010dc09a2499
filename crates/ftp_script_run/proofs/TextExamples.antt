-- Worked examples: short scripts, and the first bad line of others.
use Rattle.std.proofs.Common.{◌≡◌, ℕ, true, cond, List, [], ◌∷◌, ◌++◌, Some, None, refl}
use Rattle.std.specs.Prelude.{codes}
use Rattle.std.specs.Fmt.{digits}
use Rattle.std.specs.FinMap as map
use Rattle.std.specs.Ordering.{nat_cmp, eq_by_cmp}
use Rattle.std.specs.Cmp.Lexicographic.{slice_cmp, nat_list_cmp_total}
use Rattle.ftp_base.specs.declared.message.ControlChanMsg.TheVariants as message
use Rattle.ftp_base.specs.declared.net.IpAddr.TheVariants.{V4}
use Rattle.ftp_base.specs.Storage.{Files}
use Rattle.ftp_base.specs.Storage as storage
use Rattle.ftp_options.specs.declared.host.PassiveHost.TheVariants.{FromConnection}
use Rattle.ftp_options.specs.declared.options.ActivePassiveMode.TheVariants.{PassiveOnly, ActiveAndPassive}
use Rattle.ftp_options.specs.declared.options.ListenerMode.{ListenerMode}
use Rattle.ftp_options.specs.declared.options.ListenerMode.TheVariants.{Legacy, Pooled, Proxy}
use Rattle.ftp_events.specs.declared.event.EventKind.{EventKind}
use Rattle.ftp_events.specs.declared.event.EventKind.TheVariants as kind
use Rattle.ftp_text.specs.Message.{message_at, two_paths_at}
use Rattle.ftp_text.specs.Reading.{number_at, small_at, dotted_at, address_at, ipv4_at, hex_of, hex_from, hex_field, optional_field, word_value, word_at, text_field, text_from, calls_field, call_of, list_of, each_of}
use Rattle.ftp_text.specs.declared.setup.Item.{Item}
use Rattle.ftp_text.specs.declared.setup.Item.TheVariants as item
use Rattle.ftp_text.specs.EventReading.{event_of, read_as}
use Rattle.ftp_text.specs.OptionsReading.{mode_of, mode_at, listening_at, host_of, host_at, active_at, lockout_of, lockout_at, restart_at, rules_at}
use Rattle.ftp_text.specs.SetupReading.{options_at, storage_at, dir_at, file_at, quota_at, budget_at, link_at, item_of}
use Rattle.ftp_audit.specs.Names.{ByName}
use Rattle.ftp_script_run.specs.Script.{IsScriptOf}
use Rattle.ftp_script_run.proofs.Reading.{script_from, script_read}

abbrev options : List ℕ
options = codes "options pooled 50000 50001 connection passive 600 off restart\n"

abbrev proxy_options : List ℕ
proxy_options = codes "options proxy:2121 50000 50001 connection passive 600 off restart\n"

abbrev own_options : List ℕ
own_options = codes "options legacy 0 50001 connection both 600 off restart\n"

-- options by which the clients connect
abbrev passive : ListenerMode → Item
passive mode = item.Options mode 50000 50001 FromConnection PassiveOnly 600 None true

-- options by which each session has a listener of its own, and either side connects
abbrev own : Item
own = item.Options Legacy 0 50001 FromConnection ActiveAndPassive 600 None true

abbrev happens : EventKind → Item
happens k = item.Event (record { at = 0; kind = k })

-- the last line lacks its line feed
pub script-whole : IsScriptOf (options ++ codes "link 11 65536 - .\n0 pass 1") (passive Pooled ∷ item.Link 11 65536 [] [] ∷ happens (kind.Pass 1) ∷ []) None
unfolding script_from item_of options_at listening_at mode_at mode_of rules_at host_at host_of active_at lockout_at lockout_of restart_at link_at calls_field list_of event_of word_value read_as number_at small_at hex_field hex_of word_at digits
script-whole = script_read refl

-- skipped lines are counted, and an event needs no options
pub script-no_options : IsScriptOf (codes "# a comment\n\n0 pass 1\n") (item.Skip ∷ item.Skip ∷ happens (kind.Pass 1) ∷ []) None
unfolding script_from item_of event_of word_value read_as number_at small_at word_at digits
script-no_options = script_read refl

-- the options come before the links
pub script-late_options : IsScriptOf (codes "# a comment\nlink 11 65536 - .\n" ++ options) (item.Skip ∷ item.Link 11 65536 [] [] ∷ []) (Some 3)
unfolding script_from item_of options_at listening_at mode_at mode_of rules_at host_at host_of active_at lockout_at lockout_of restart_at link_at calls_field list_of number_at small_at hex_field hex_of word_at digits
script-late_options = script_read refl

-- and before the events
pub script-options_behind_event : IsScriptOf (codes "0 pass 1\n" ++ options) (happens (kind.Pass 1) ∷ []) (Some 2)
unfolding script_from item_of options_at listening_at mode_at mode_of rules_at host_at host_of active_at lockout_at lockout_of restart_at event_of word_value read_as number_at small_at word_at digits
script-options_behind_event = script_read refl

-- a data connection needs its link
pub script-no_link : IsScriptOf (options ++ codes "0 data 11 10.0.0.1:4001 50000\n") (passive Pooled ∷ []) (Some 2)
unfolding script_from item_of options_at listening_at mode_at mode_of rules_at host_at host_of active_at lockout_at lockout_of restart_at event_of word_value read_as address_at ipv4_at dotted_at number_at small_at word_at digits
script-no_link = script_read refl

-- and so does a connection behind a proxy
pub script-no_proxied_link : IsScriptOf (proxy_options ++ codes "link 11 65536 - .\n0 proxied 12 10.9.9.9:33000 1\n") (passive (Proxy 2121) ∷ item.Link 11 65536 [] [] ∷ []) (Some 3)
unfolding script_from item_of options_at listening_at mode_at mode_of rules_at host_at host_of active_at lockout_at lockout_of restart_at link_at calls_field list_of event_of word_value read_as address_at ipv4_at dotted_at number_at small_at hex_field hex_of word_at digits
script-no_proxied_link = script_read refl

-- with its link it is an event
pub script-proxied : IsScriptOf (proxy_options ++ codes "link 11 65536 - .\n0 proxied 11 10.9.9.9:33000 1\n") (passive (Proxy 2121) ∷ item.Link 11 65536 [] [] ∷ happens (kind.Proxied 11 (record { ip = V4 168364297; port = 33000 }) 1) ∷ []) None
unfolding script_from item_of options_at listening_at mode_at mode_of rules_at host_at host_of active_at lockout_at lockout_of restart_at link_at calls_field list_of event_of word_value read_as address_at ipv4_at dotted_at number_at small_at hex_field hex_of word_at digits
script-proxied = script_read refl

-- a connection to the listener of one session needs its link
pub script-no_accepted_link : IsScriptOf (own_options ++ codes "0 accepted 1 11 10.0.0.1:4001\n") (own ∷ []) (Some 2)
unfolding script_from item_of options_at listening_at mode_at mode_of rules_at host_at host_of active_at lockout_at lockout_of restart_at event_of word_value read_as address_at ipv4_at dotted_at number_at small_at word_at digits
script-no_accepted_link = script_read refl

-- and so does one that was made for a PORT
pub script-no_port_link : IsScriptOf (own_options ++ codes "0 port 1 11 10,0,0,1,15,161\n") (own ∷ []) (Some 2)
unfolding script_from item_of options_at listening_at mode_at mode_of rules_at host_at host_of active_at lockout_at lockout_of restart_at event_of word_value read_as optional_field number_at small_at word_at text_field text_from digits
script-no_port_link = script_read refl

-- with their links they are events, and a PORT without a connection is one without a link
pub script-own : IsScriptOf (own_options ++ codes "link 11 1 - .\n0 port 1 - x\n0 port 1 11 x\n0 slot 1\n0 sweep\n")
    (own ∷ item.Link 11 1 [] [] ∷ happens (kind.Port 1 (codes "x") None) ∷ happens (kind.Port 1 (codes "x") (Some 11)) ∷ happens (kind.SlotTick 1) ∷ happens kind.Sweep ∷ []) None
unfolding script_from item_of options_at listening_at mode_at mode_of rules_at host_at host_of active_at lockout_at lockout_of restart_at link_at calls_field list_of event_of word_value read_as optional_field number_at small_at hex_field hex_of word_at text_field text_from digits
script-own = script_read refl

pub script-accepted : IsScriptOf (own_options ++ codes "link 11 1 - .\n0 accepted 1 11 10.0.0.1:4001\n")
    (own ∷ item.Link 11 1 [] [] ∷ happens (kind.Accepted 1 11 (record { ip = V4 167772161; port = 4001 })) ∷ []) None
unfolding script_from item_of options_at listening_at mode_at mode_of rules_at host_at host_of active_at lockout_at lockout_of restart_at link_at calls_field list_of event_of word_value read_as address_at ipv4_at dotted_at number_at small_at hex_field hex_of word_at digits
script-accepted = script_read refl

-- no link is needed where no connection comes
pub script-no_connections : IsScriptOf (codes "0 abor 1\n0 internal 1 renamed 1 /a\n0 idle 1\n0 scavenge\n0 shutdown\n")
    (happens (kind.Abor 1) ∷ happens (kind.Internal 1 (message.RenameSuccess (codes "/") (codes "a"))) ∷ happens (kind.IdleTick 1) ∷ happens kind.Scavenge
    ∷ happens kind.Shutdown ∷ []) None
unfolding script_from item_of event_of word_value read_as message_at two_paths_at number_at word_at text_field text_from digits
script-no_connections = script_read refl

-- a first path that is longer than both is a bad line
pub script-bad_cut : IsScriptOf (codes "0 shutdown\n0 internal 1 renamed 3 /a\n") (happens kind.Shutdown ∷ []) (Some 2)
unfolding script_from item_of event_of word_value read_as message_at two_paths_at number_at word_at text_field text_from digits
script-bad_cut = script_read refl

pub script-nil : IsScriptOf [] [] None
unfolding script_from
script-nil = script_read refl

-- ---- the storage

abbrev no_files : Files
no_files = map.empty

-- nothing is at a path of no files
none : (path : List ℕ) → map.get no_files path ≡ None
none path = map.get-empty (slice_cmp nat_cmp) path

-- what is at a path of files with another
with_one : (files : Files) (i : storage.Item) (path q : List ℕ) → map.get (map.insert files path i) q ≡ cond (eq_by_cmp (slice_cmp nat_cmp) q path) (Some i) (map.get files q)
with_one files i path q = map.get-insert nat_list_cmp_total files path i q

abbrev a : List ℕ
a = codes "/a"

abbrev b : List ℕ
b = codes "/a/b"

-- a file in a directory, as long as it may be
pub script-stored : IsScriptOf (codes "storage 2 3\ndir /a\nfile 6869 /a/b\n") (item.Storage 2 (3 ∷ []) ∷ item.Dir (codes "/a") ∷ item.File (codes "hi") (codes "/a/b") ∷ []) None
unfolding script_from item_of storage_at dir_at file_at number_at hex_field hex_of hex_from word_at text_field text_from calls_field call_of list_of each_of digits
script-stored = script_read (rw (none a, with_one no_files storage.Directory a a, with_one no_files storage.Directory a b, none b) refl)

pub script-long_file : IsScriptOf (codes "storage 1 -\nfile 6869 /a\n") (item.Storage 1 [] ∷ []) (Some 2)
unfolding script_from item_of storage_at file_at number_at hex_field hex_of hex_from word_at text_field text_from calls_field list_of digits
script-long_file = script_read (rw (none a) refl)

pub script-two_storages : IsScriptOf (codes "storage 1 -\nstorage 2 -\n") (item.Storage 1 [] ∷ []) (Some 2)
unfolding script_from item_of storage_at number_at word_at calls_field list_of digits
script-two_storages = script_read refl

pub script-late_storage : IsScriptOf (codes "dir /a\nstorage 2 -\n") (item.Dir (codes "/a") ∷ []) (Some 2)
unfolding script_from item_of storage_at dir_at number_at word_at text_field text_from calls_field list_of digits
script-late_storage = script_read (rw (none a) refl)

-- the parent of a path is a directory, not a file
pub script-in_file : IsScriptOf (codes "file . /a\nfile . /a/b\n") (item.File [] (codes "/a") ∷ []) (Some 2)
unfolding script_from item_of file_at hex_field hex_of word_at text_field text_from
script-in_file = script_read (rw (none a, with_one no_files (storage.File []) a a) refl)

pub script-same_path : IsScriptOf (codes "dir /a\nfile . /a\n") (item.Dir (codes "/a") ∷ []) (Some 2)
unfolding script_from item_of dir_at file_at hex_field hex_of word_at text_field text_from
script-same_path = script_read (rw (none a, with_one no_files storage.Directory a a) refl)

pub script-root : IsScriptOf (codes "dir /\n") ([]) (Some 1)
unfolding script_from item_of dir_at text_field text_from
script-root = script_read refl

-- a path is taken as it stands
pub script-slashes : IsScriptOf (codes "dir //x\n") (item.Dir (codes "//x") ∷ []) None
unfolding script_from item_of dir_at text_field text_from
script-slashes = script_read (rw (none (codes "//x")) refl)

pub script-late_dir : IsScriptOf (options ++ codes "0 pass 1\ndir /a\n") (passive Pooled ∷ happens (kind.Pass 1) ∷ []) (Some 3)
unfolding script_from item_of options_at listening_at mode_at mode_of rules_at host_at host_of active_at lockout_at lockout_of restart_at dir_at event_of word_value read_as number_at small_at word_at text_field text_from digits
script-late_dir = script_read refl

-- ---- budgets

abbrev no_budgets : ByName ℕ
no_budgets = map.empty

-- nobody has a budget of his own where there are none
no_budget : (user : List ℕ) → map.get no_budgets user ≡ None
no_budget user = map.get-empty (slice_cmp nat_cmp) user

pub script-budgets : IsScriptOf (codes "quota 1\nbudget 2 ann\n") (item.Quota 1 ∷ item.Budget 2 (codes "ann") ∷ []) None
unfolding script_from item_of quota_at budget_at number_at text_field text_from digits
script-budgets = script_read (rw (no_budget (codes "ann")) refl)

pub script-two_quotas : IsScriptOf (codes "quota 1\nquota 2\n") (item.Quota 1 ∷ []) (Some 2)
unfolding script_from item_of quota_at number_at digits
script-two_quotas = script_read refl

pub script-early_budget : IsScriptOf (codes "budget 2 ann\n") ([]) (Some 1)
unfolding script_from item_of budget_at number_at text_field text_from digits
script-early_budget = script_read refl
