use denote.Param.Object.{Vt, ghosts_of}
use denote.Param.Send.{sendable}
use Rattle.std.proofs.Crossing.{crosses, dyn_box_send, dyn_box_sync}
use Rattle.ftp_listen.specs.contracts.server.listen_boxed.dyn-1 as authenticator
use Rattle.ftp_listen.specs.contracts.server.listen_boxed.dyn-2 as incoming
use Rattle.ftp_listen.specs.contracts.server.listen_boxed.dyn-3 as presence
use Rattle.ftp_listen.proofs.server.listen_boxed.Goals as goal

-- a box may go to another thread, and be shared, where whatever it holds may; `search` does not find the table of what it may hold
pub listen_at-requires-send-S-Authenticator : goal.listen_at-requires-send-S-Authenticator
listen_at-requires-send-S-Authenticator g c κs within =
    let slots = authenticator.slots g.row.R g.row.S g.row.G g.row.P g.row.F g.row.I in
    let box = dyn_box_send (Vt slots g.dyn-1.0) (ghosts_of slots g.dyn-1.0 g.dyn-1.1) g.dyn-1.2 (search sendable) in
    search (sendable, crosses) depth 40

pub listen_at-requires-sync-S-Authenticator : goal.listen_at-requires-sync-S-Authenticator
listen_at-requires-sync-S-Authenticator g c κs within =
    let slots = authenticator.slots g.row.R g.row.S g.row.G g.row.P g.row.F g.row.I in
    let box = dyn_box_sync (Vt slots g.dyn-1.0) (ghosts_of slots g.dyn-1.0 g.dyn-1.1) g.dyn-1.3 (search sendable) in
    search (sendable, crosses) depth 40

pub listen_at-requires-send-S-Sinks : goal.listen_at-requires-send-S-Sinks
listen_at-requires-send-S-Sinks g c κs within =
    let slots = incoming.slots g.row.R g.row.S g.row.G g.row.P g.row.F g.row.I in
    let others = presence.slots g.row.R g.row.S g.row.G g.row.P g.row.F g.row.I in
    let box = dyn_box_send (Vt slots g.dyn-2.0) (ghosts_of slots g.dyn-2.0 g.dyn-2.1) g.dyn-2.2 (search sendable) in
    let other = dyn_box_send (Vt others g.dyn-3.0) (ghosts_of others g.dyn-3.0 g.dyn-3.1) g.dyn-3.2 (search sendable) in
    search (sendable, crosses) depth 40

-- and so may the name of all services together
pub listen_at-requires-send-S : goal.listen_at-requires-send-S
listen_at-requires-send-S g c κs within =
    let first = authenticator.slots g.row.R g.row.S g.row.G g.row.P g.row.F g.row.I in
    let slots = incoming.slots g.row.R g.row.S g.row.G g.row.P g.row.F g.row.I in
    let others = presence.slots g.row.R g.row.S g.row.G g.row.P g.row.F g.row.I in
    let own = dyn_box_send (Vt first g.dyn-1.0) (ghosts_of first g.dyn-1.0 g.dyn-1.1) g.dyn-1.2 (search sendable) in
    let box = dyn_box_send (Vt slots g.dyn-2.0) (ghosts_of slots g.dyn-2.0 g.dyn-2.1) g.dyn-2.2 (search sendable) in
    let other = dyn_box_send (Vt others g.dyn-3.0) (ghosts_of others g.dyn-3.0 g.dyn-3.1) g.dyn-3.2 (search sendable) in
    search (sendable, crosses) depth 40
