use Rattle.std.proofs.Common.{◌≡◌, refl, sym, ap, ◌∙◌, ℕ, true, false, not, ◌||◌, List, Ok}
use Rattle.std.specs.Prelude.{is_some}
use Rattle.ftp_base.specs.Net.{is_v6}
use Rattle.ftp_base.specs.declared.net.SocketAddr.{SocketAddr}
use Rattle.ftp_options.specs.Modes.{is_proxy}
use Rattle.ftp_events.specs.declared.decision.Decision.TheVariants as decision
use Rattle.ftp_events.specs.declared.event.Answer.TheVariants.{Header}
use Rattle.ftp_events.specs.declared.event.EventKind.TheVariants.{Proxied}
use Rattle.ftp_events.specs.Log.{is_stopped}
use Rattle.ftp_hub.specs.Stands.{header_for}
use Rattle.ftp_hub.proofs.Common.{Entry, EventKind, Hub, Stands, decide, is_used, past_of}
use Rattle.ftp_hub.proofs.Links.{header-parts}
use Rattle.ftp_hub.proofs.Refusals.{serves-refused}
use Rattle.ftp_hub.proofs.hub.Hub.pass_on.Goals as goal

-- a header is read for a number that was not used, where there was no stop
read-unused :
    (hub : Hub) (log : List Entry) (k : EventKind) (n trace : ℕ) (raw : SocketAddr) → Stands hub log → is_some (header_for hub k) ≡ true → k ≡ Proxied n raw trace →
    ((not (is_proxy hub.options.mode) || is_v6 raw.ip) ≡ false) × (is_used (past_of log) n ≡ false) × (is_stopped (past_of log) ≡ false)
read-unused hub log k n trace raw st read is =
    let parts = header-parts hub n trace raw (ap (λ (k : EventKind). is_some (header_for hub k)) (sym is) ∙ read) in
    (parts.0, sym (st.tables.numbers n) ∙ parts.1, sym st.tables.stopped ∙ parts.2)

-- a client with an address of version 6 is refused
pub returns-in_default-ip-clause-serves : goal.returns-in_default-ip-clause-serves
unfolding decide
returns-in_default-ip-clause-serves c log st =
    let parts = read-unused c.args.self.now log c.args.event.now.kind c.in-Proxied.number c.in-Proxied.trace c.in-Proxied.raw st c.requires.of_this_event c.in-Proxied.is in
    serves-refused c.args.self.now log c.args.event.now (Header (Ok c.args.line)) decision.NotExpected _ st (rw (c.in-Proxied.is, parts.0, parts.1, parts.2, c.in_default-ip.is) refl) refl c.requires.ready.ready.actions

-- so is one that called an address of version 6
pub returns-then-is_v6-clause-serves : goal.returns-then-is_v6-clause-serves
unfolding decide
returns-then-is_v6-clause-serves c log st =
    let parts = read-unused c.args.self.now log c.args.event.now.kind c.in-Proxied.number c.in-Proxied.trace c.in-Proxied.raw st c.requires.of_this_event c.in-Proxied.is in
    serves-refused c.args.self.now log c.args.event.now (Header (Ok c.args.line)) decision.NotExpected _ st (rw (c.in-Proxied.is, parts.0, parts.1, parts.2, c.in-V4.is, sym c.if-is_v6.ensures) refl) refl c.requires.ready.ready.actions
