-- The key of a connection: its source's IPv4 address and its destination's port.
use Rattle.std.specs.Prelude.{ℕ, Option, Some, None}
use Rattle.std.specs.FinMap as finmap
use Rattle.ftp_base.specs.declared.net.IpAddr.{IpAddr}
use Rattle.ftp_base.specs.declared.net.IpAddr.TheVariants.{V4, V6}
use Rattle.ftp_base.specs.declared.net.SocketAddrPair.{SocketAddrPair}
use Rattle.ftp_switchboard.specs.declared.key.SwitchboardKey.{SwitchboardKey}
use Rattle.ftp_switchboard.specs.Board.{Board, Held, KeepsOtherRoom, KeepsRoom, key}

-- the key of an address and a port; an IPv6 address has none
abbrev pub key_from : IpAddr → ℕ → Option SwitchboardKey
key_from (V4 a) port = Some (key a port)
key_from (V6 a) port = None

-- the key of a pair, if its source is an IPv4 address
abbrev pub key_of_pair : SocketAddrPair → Option SwitchboardKey
key_of_pair c = key_from c.source.ip c.destination.port

-- the session that holds the key, if there is a key
abbrev pub holder_of : Board → Option SwitchboardKey → Option ℕ
holder_of board None = None
holder_of board (Some k) = finmap.get board.held k

-- the session that holds the pair's key
abbrev pub holder_of_pair : Board → SocketAddrPair → Option ℕ
holder_of_pair board c = holder_of board (key_of_pair c)

-- what is held without the key, if there is a key
abbrev pub without : Held → Option SwitchboardKey → Held
without held None = held
without held (Some k) = finmap.remove held k

-- room that was there for other sources than the key's is there still
abbrev pub KeepsRoomBut : Option SwitchboardKey → Board → Board → Type 0
KeepsRoomBut None old new = KeepsRoom old new
KeepsRoomBut (Some k) old new = KeepsOtherRoom k.source old new
