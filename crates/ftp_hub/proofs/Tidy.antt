-- Lines tell all of the sessions and the jobs of a hub that stands for a log.
use Rattle.std.proofs.Common.{◌≡◌, sym, ap, ◌∙◌, List, Some}
use Rattle.std.specs.Prelude.{nat_eq}
use Rattle.std.specs.HashMap as map
use Rattle.ftp_events.specs.Acts.{pending_in}
use Rattle.ftp_laws.proofs.AgeLemmas.{session-aged}
use Rattle.ftp_laws.proofs.MannedLemmas.{session-manned}
use Rattle.ftp_laws.proofs.TransferLemmas.{running-queued, waiting-queued}
use Rattle.ftp_laws.specs.Transfers.{transfer_of}
use Rattle.ftp_hub.proofs.Common.{Entry, Hub, Options, Stands, past_of, session}
use Rattle.ftp_hub.proofs.Paths.{queued-absolute, session-absolute}
use Rattle.ftp_hub.specs.State.{AreOwn, AreTidy}

-- lines tell all of the live sessions of a hub that stands for a log
pub live-tidy : (hub : Hub) (log : List Entry) → Stands hub log → AreTidy (map.get nat_eq hub.sessions)
live-tidy hub log st s v there =
    let o : Options = hub.options in
    let known : session o (past_of log) s ≡ Some v = sym (st.tables.sessions s) ∙ there in
    let manned = session-manned o log st.right s v known in
    record {
      absolute = session-absolute o (past_of log) s v known;
      path = λ p waits. queued-absolute o (past_of log) p (waiting-queued o log s p st.right (ap pending_in known ∙ waits)).1;
      aged = session-aged o (past_of log) s v known;
      placed = manned.placed;
      own = λ p waits. (waiting-queued o log s p st.right (ap pending_in known ∙ waits)).0;
      user = manned.user;
    }

-- each of its jobs is of the session that it stands for, and its path begins with a slash
pub jobs-own : (hub : Hub) (log : List Entry) → Stands hub log → AreOwn (map.get nat_eq hub.jobs)
jobs-own hub log st s r there =
    let queued = running-queued hub.options log s r st.right (sym (st.tables.jobs s) ∙ there) in
    (queued.0, queued-absolute hub.options (past_of log) (transfer_of r.job) queued.1)
