-- The event that each command gives, and what is asked for it.
--   asked_x    what is asked of the edge, where it is asked
--   MayBe      an answer that may come, or none where nothing was asked
--   Gives      the event of a command
--   GivenBy    the event of a line
use Rattle.std.specs.Prelude.{◌≡◌, ℕ, nat_eq, Bool, true, false, List, ◌++◌, take, codes, Option, Some, None, IfSome, Result, Ok, Err, if◌then◌else◌}
use Rattle.std.specs.List.{position_or_len}
use Rattle.std.specs.Option.{option_and_then}
use Rattle.std.specs.Bool.{then_some}
use Rattle.ftp_base.specs.declared.error_kind.ErrorKind.{ErrorKind}
use Rattle.ftp_base.specs.declared.message.ControlChanMsg.TheVariants as message
use Rattle.ftp_base.specs.declared.net.SocketAddr.{SocketAddr}
use Rattle.ftp_base.specs.declared.net.IpAddr.{IpAddr}
use Rattle.ftp_base.specs.declared.reply.Reply.TheVariants as reply
use Rattle.ftp_base.specs.declared.reply.ReplyCode.{ReplyCode}
use Rattle.ftp_base.specs.declared.reply.ReplyCode.TheVariants as code
use Rattle.ftp_base.specs.Net.{same_ip}
use Rattle.ftp_options.specs.declared.host.PassiveHost.{PassiveHost}
use Rattle.ftp_options.specs.declared.host.PassiveHost.TheVariants.{Dns}
use Rattle.ftp_options.specs.declared.options.Options.{Options}
use Rattle.ftp_options.specs.Modes.{is_legacy, is_passive_off, is_active_off}
use Rattle.ftp_transfer.specs.Path.{join_path}
use Rattle.ftp_events.specs.declared.entry.Entry.{Entry}
use Rattle.ftp_events.specs.declared.event.EventKind.{EventKind}
use Rattle.ftp_events.specs.declared.event.EventKind.TheVariants as kind
use Rattle.ftp_events.specs.declared.session.Login.{Login}
use Rattle.ftp_events.specs.declared.session.Login.TheVariants as login
use Rattle.ftp_events.specs.Login.{login_state}
use Rattle.ftp_events.specs.Place.{cwd}
use Rattle.ftp_events.specs.Text.{port_target}
use Rattle.ftp_control.specs.declared.command.Command.{Command}
use Rattle.ftp_control.specs.declared.command.Command.TheVariants as command
use Rattle.ftp_control.specs.declared.line.LineError.{LineError}
use Rattle.ftp_control.specs.declared.line.LineError.TheVariants as error
use Rattle.ftp_shared.specs.Desk.{MaySay, drawn_after}
use Rattle.ftp_talk.specs.Ground.{Ground}

-- the user is logged in
abbrev pub is_in : Login → Bool
is_in login.LoggedIn = true
is_in _ = false

-- what is asked for: nothing before the user is logged in
abbrev pub asked_of : {Q : Type 0} → Login → Option Q → Option Q
asked_of l q = if is_in l then q else None

-- the part of a name before its first colon
abbrev pub is_colon : ℕ → Bool
is_colon b = nat_eq b 58

abbrev pub before_colon : List ℕ → List ℕ
before_colon name = take (position_or_len is_colon name) name

-- the name that passive replies advertise
abbrev pub name_of : PassiveHost → Option (List ℕ)
name_of (Dns name) = Some (before_colon name)
name_of _ = None

-- the name that a PASV looks up, where passive commands are on
abbrev pub looked_up : Options → Option (List ℕ)
looked_up o = if is_passive_off o.active_passive then None else name_of o.host

-- the range in which a PASV binds a port of its own, where passive commands are on
abbrev pub bound_in : Options → Option (ℕ × ℕ)
bound_in o = if is_passive_off o.active_passive then None else then_some (is_legacy o.mode) (o.lo, o.hi)

-- the address, where it is one of the peer's
abbrev pub of_peer : IpAddr → SocketAddr → Option SocketAddr
of_peer raw to = then_some (same_ip to.ip raw) to

-- the address to which a PORT connects: one of the peer's, unless active commands are off
abbrev pub connected_to : Bool → IpAddr → List ℕ → Option SocketAddr
connected_to off raw text = if off then None else option_and_then (of_peer raw) (port_target text)

-- what a PASV and a PORT ask for after these entries
abbrev pub asked_name : Ground → List Entry → Option (List ℕ)
asked_name g h = asked_of (login_state h) (looked_up g.start.desk.options)

abbrev pub asked_range : Ground → List Entry → Option (ℕ × ℕ)
asked_range g h = asked_of (login_state h) (bound_in g.start.desk.options)

abbrev pub asked_target : Ground → List Entry → List ℕ → Option SocketAddr
asked_target g h text = asked_of (login_state h) (connected_to (is_active_off g.start.desk.options.active_passive) g.raw text)

-- what is not asked for is none, and what is asked for is an answer that may come
abbrev pub MayBe : {Q A : Type 0} → (Q → Option A → Bool) → Option Q → Option A → Type 0
MayBe may None answer = answer ≡ None
MayBe may (Some q) answer = may q answer ≡ true

-- the number is the one that the desk draws after these entries, where it draws the next one and tells its journal
abbrev pub IsNextNumber : Ground → List Entry → ℕ → Type 0
IsNextNumber g h number = g.start.draws_next ≡ true → IfSome g.start.desk.journal (λ J. number ≡ drawn_after (h ++ J))

-- a connection that is not asked for has no number; one that is asked for has the number that was drawn, where it is made
abbrev pub MayConnect : Ground → List Entry → Option SocketAddr → Option ℕ → Type 0
MayConnect g h None number = number ≡ None
MayConnect g h (Some to) number =
    (drawn : ℕ) × (made : Bool) × IsNextNumber g h drawn × (g.start.edge.meaning.connects to drawn made ≡ true) × (number ≡ then_some made drawn)

-- CWD: the storage is asked for the directory that is meant
abbrev pub GivesCwd : Ground → List Entry → List ℕ → EventKind → Type 0
GivesCwd g h path k = (refusal : Option ErrorKind) × (k ≡ kind.Cwd g.session path refusal) × MaySay g.start.desk.files (join_path (cwd h) path) refusal

-- PASV: with a word of 16 bits, and what was looked up and bound
abbrev pub GivesPasv : Ground → List Entry → EventKind → Type 0
GivesPasv g h k =
    (word : ℕ) × (lookup bound : Option ℕ) × (k ≡ kind.Pasv g.session word lookup bound)
    × MayBe g.start.edge.meaning.names (asked_name g h) lookup
    × MayBe (λ (r : ℕ × ℕ). g.start.edge.meaning.ports r.0 r.1) (asked_range g h) bound

-- PORT: with the number of the connection that was made
abbrev pub GivesPort : Ground → List Entry → List ℕ → EventKind → Type 0
GivesPort g h text k = (number : Option ℕ) × (k ≡ kind.Port g.session text number) × MayConnect g h (asked_target g h text) number

-- STOU: with a word
abbrev pub GivesStou : Ground → EventKind → Type 0
GivesStou g k = (word : ℕ) × (k ≡ kind.Stou g.session word)

-- a reply of the control layer
abbrev pub told_as : ℕ → ReplyCode → List ℕ → EventKind
told_as s c text = kind.Internal s (message.CommandChannelReply (reply.CodeAndMsg c text))

-- the event of a command, after these entries
abbrev pub Gives : Ground → List Entry → Command → EventKind → Type 0
Gives g h (command.User name) k = k ≡ kind.User g.session name
Gives g h (command.Pass password) k = k ≡ kind.Pass g.session
Gives g h (command.Cwd path) k = GivesCwd g h path k
Gives g h (command.Port text) k = GivesPort g h text k
Gives g h (command.Data c) k = k ≡ kind.Transfer g.session c
Gives g h (command.Rest offset) k = k ≡ kind.Rest g.session offset
Gives g h command.Pasv k = GivesPasv g h k
Gives g h command.Stou k = GivesStou g k
Gives g h command.Abor k = k ≡ kind.Abor g.session
Gives g h command.Quit k = k ≡ kind.Quit g.session
Gives g h command.Noop k = k ≡ told_as g.session code.CommandOkay (codes "Successfully did nothing")
Gives g h command.TypeCmd k = k ≡ told_as g.session code.CommandOkay (codes "Always in binary mode")
Gives g h (command.Other word) k = k ≡ told_as g.session code.CommandSyntaxError (codes "Command not implemented")

-- the event of a line that is refused
abbrev pub refused_as : ℕ → LineError → EventKind
refused_as s error.Utf8 = told_as s code.CommandSyntaxError (codes "Invalid UTF8 in command")
refused_as s _ = told_as s code.ParameterSyntaxError (codes "Invalid Parameter")

-- the event of a line that is too long
abbrev pub too_long : ℕ → EventKind
too_long s = told_as s code.CommandSyntaxError (codes "Command line too long")

-- the event of a line
abbrev pub GivenBy : Ground → List Entry → Result Command LineError → EventKind → Type 0
GivenBy g h (Ok c) k = Gives g h c k
GivenBy g h (Err e) k = k ≡ refused_as g.session e
