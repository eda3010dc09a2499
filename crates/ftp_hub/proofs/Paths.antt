-- Directories and paths of transfers begin with a slash.
use Rattle.std.proofs.Common.{◌≡◌, refl, sym, subst, ℕ, Bool, true, false, cond, List, [], ◌∷◌, ◌++◌, length, Option, Some, None, inl, inr}
use Rattle.std.specs.Prelude.{◌-◌, slice_get}
use Rattle.std.specs.Str.{bytes_eq}
use Rattle.ftp_base.specs.declared.command.DataChanCmd.{DataChanCmd}
use Rattle.ftp_base.specs.declared.command.DataChanCmd.TheVariants.{Retr, Stor, Appe, Nlst, Mlsd}
use Rattle.ftp_base.specs.declared.command.DataChanCmd.TheVariants as command
use Rattle.ftp_transfer.specs.Path.{is_slash, join_path, slash, with_slash}
use Rattle.ftp_events.specs.declared.decision.Decision.{Decision}
use Rattle.ftp_events.specs.declared.decision.Decision.TheVariants.{CwdOk}
use Rattle.ftp_events.specs.declared.entry.Entry.{Entry}
use Rattle.ftp_events.specs.declared.event.EventKind.{EventKind}
use Rattle.ftp_events.specs.declared.event.EventKind.TheVariants.{Cwd}
use Rattle.ftp_events.specs.declared.session.Pending.{Pending}
use Rattle.ftp_events.specs.declared.session.Session.{Session}
use Rattle.ftp_events.specs.History.{history}
use Rattle.ftp_events.specs.Place.{cwd, cwd_after}
use Rattle.ftp_events.specs.Session.{session}
use Rattle.ftp_events.specs.Transfer.{command_path, listed_path}
use Rattle.ftp_options.specs.declared.options.Options.{Options}
use Rattle.ftp_laws.specs.Transfers.{WasQueuedSo}
use Rattle.ftp_laws.proofs.QuestionLemmas.{session-told}
use Rattle.ftp_hub.specs.State.{IsAbsolute}

-- what comes behind a path leaves how it begins
behind-absolute : (dir more : List ℕ) → IsAbsolute dir → IsAbsolute (dir ++ more)
behind-absolute [] more h = cc
behind-absolute (byte ∷ dir) more h = h

-- a path that is joined with a directory's
joined-absolute : (dir arg : List ℕ) → IsAbsolute dir → IsAbsolute (join_path dir arg)
joined-absolute dir arg h = go (is_slash (slice_get arg 0)) refl
  where
    ended : (b : Bool) → IsAbsolute (cond b dir (dir ++ slash ∷ []))
    ended true = h
    ended false = behind-absolute dir (slash ∷ []) h

    go : (b : Bool) → is_slash (slice_get arg 0) ≡ b → IsAbsolute (cond b arg (with_slash dir ++ arg))
    go true e = e
    go false e = behind-absolute (with_slash dir) arg (ended (is_slash (slice_get dir (length dir - 1))))

-- the path of a listing
listed-absolute : (dir : List ℕ) (path : Option (List ℕ)) → IsAbsolute dir → IsAbsolute (listed_path dir path)
listed-absolute dir None h = h
listed-absolute dir (Some path) h = go (bytes_eq path (46 ∷ []))
  where
    go : (b : Bool) → IsAbsolute (cond b dir (join_path dir path))
    go true = h
    go false = joined-absolute dir path h

-- the path of a command
command-absolute : (dir : List ℕ) (c : DataChanCmd) → IsAbsolute dir → IsAbsolute (command_path dir c)
command-absolute dir (Retr path) h = joined-absolute dir path h
command-absolute dir (Stor path) h = joined-absolute dir path h
command-absolute dir (Appe path) h = joined-absolute dir path h
command-absolute dir (command.List options path) h = listed-absolute dir path h
command-absolute dir (Nlst path) h = listed-absolute dir path h
command-absolute dir (Mlsd path) h = listed-absolute dir path h

-- the working directory
cwd-absolute : (h : List Entry) → IsAbsolute (cwd h)
cwd-absolute [] = refl
cwd-absolute (e ∷ h) = after e.decision e.event.kind (cwd h) (cwd-absolute h)
  where
    after : (d : Decision) (k : EventKind) (dir : List ℕ) → IsAbsolute dir → IsAbsolute (cwd_after d k dir)
    after CwdOk (Cwd s path refusal) dir h = joined-absolute dir path h
    after d k dir h = h

-- the working directory of a live session
pub session-absolute : (o : Options) (past : List Entry) (s : ℕ) (v : Session) → session o past s ≡ Some v → IsAbsolute v.cwd
session-absolute o past s v known =
    subst (λ (w : Session). IsAbsolute w.cwd) (session-told o past s v known).told (cwd-absolute (history o past s))

-- the path of a transfer that was queued
pub queued-absolute : (o : Options) (past : List Entry) (p : Pending) → WasQueuedSo o past p → IsAbsolute p.path
queued-absolute o (e ∷ past) p (inl q) =
    subst IsAbsolute (sym q.path) (command-absolute q.session_then.cwd p.command (session-absolute o past p.ticket.session q.session_then q.live))
queued-absolute o (e ∷ past) p (inr more) = queued-absolute o past p more
queued-absolute o [] p h = absurd h
