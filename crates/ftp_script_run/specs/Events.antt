-- The events of a stress run: the logins of all sessions, and then PASVs, data connections and ABORs as they are drawn.
use Rattle.std.specs.Prelude.{ℕ, ◌+◌, ◌-◌, ◌*◌, ◌%◌, ◌==◌, List, [], ◌∷◌, ◌++◌, map, flat_map, codes, None}
use Rattle.std.specs.List.{range_with_len}
use Rattle.ftp_base.specs.declared.login.AuthAnswer.TheVariants.{Good}
use Rattle.ftp_base.specs.declared.net.IpAddr.TheVariants.{V4}
use Rattle.ftp_base.specs.declared.net.SocketAddr.{SocketAddr}
use Rattle.ftp_events.specs.declared.event.Answer.{Answer}
use Rattle.ftp_events.specs.declared.event.Answer.TheVariants as answer
use Rattle.ftp_events.specs.declared.event.EventKind.{EventKind}
use Rattle.ftp_events.specs.declared.event.EventKind.TheVariants.{Connect, User, Pass, AuthDone, Pasv, DataIn, Abor}
use Rattle.ftp_events.specs.declared.event.HubEvent.{HubEvent}
use Rattle.ftp_events.specs.Words.{◌⇒◌∣◌}
use Rattle.ftp_script_run.specs.Draws.{draw}

-- one of sixteen clients, 10.0.0.0 to 10.0.0.15, at a port of it
abbrev pub client : ℕ → ℕ → SocketAddr
client n port = record { ip = V4 (167772160 + n % 16); port = port }

-- where clients call, 10.0.0.9
abbrev pub called : SocketAddr
called = record { ip = V4 167772169; port = 21 }

-- session s logs in
abbrev pub login_of : ℕ → List EventKind
login_of s = Connect s (client s 4000) called s ∷ User s (codes "ann") ∷ Pass s ∷ AuthDone s Good ∷ []

-- what three numbers choose, of so many sessions, where a connection would have this number
abbrev pub chosen : ℕ → ℕ → ℕ → ℕ → ℕ → EventKind
chosen sessions number a b c =
    b % 4 == 2 ⇒ DataIn number (client a 4001) (50000 + c % 64)
    ∣ b % 4 == 3 ⇒ Abor (1 + a % sessions)
    ∣ Pasv (1 + a % sessions) (c % 65536) None None

-- the k-th drawn event, counted from 1
abbrev pub drawn : ℕ → ℕ → ℕ → EventKind
drawn seed sessions k = chosen sessions (sessions + k) (draw seed (3 * k - 2)) (draw seed (3 * k - 1)) (draw seed (3 * k))

-- all events, in order
abbrev pub kinds : ℕ → ℕ → List EventKind
kinds seed sessions = flat_map login_of (range_with_len 1 sessions) ++ map (drawn seed sessions) (range_with_len 1 (16 * sessions))

-- an event at moment 0, for which nothing outside is asked
abbrev pub unasked : EventKind → HubEvent × Answer
unasked k = (record { at = 0; kind = k }, answer.None)
