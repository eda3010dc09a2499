-- The lists of a state that has lines have the form that a hub asks for.
use Rattle.std.proofs.Common.{◌≡◌, ℕ, true, List, [], ◌∷◌, map, refl, sym, ap, subst}
use Rattle.std.specs.List.{AllByRecursion}
use Rattle.std.specs.List.Sorted.{IsStrictlySortedBy}
use Rattle.std.specs.Map.{keys_of}
use Rattle.ftp_lockout.specs.declared.key.LoginKey.{LoginKey}
use Rattle.ftp_lockout.specs.Keys.{key_cmp}
use Rattle.ftp_hub.specs.declared.state.HubState.{HubState}
use Rattle.ftp_hub.specs.declared.state.JobLine.{JobLine}
use Rattle.ftp_hub.specs.declared.state.QueuedLine.{QueuedLine}
use Rattle.ftp_hub.specs.declared.state.RecordLine.{RecordLine}
use Rattle.ftp_hub.specs.declared.state.SessionLine.{SessionLine}
use Rattle.ftp_hub.specs.State.{IsAbsolute, IsForm, entries_of, is_keyed, record_key}
use Rattle.ftp_text.specs.declared.state_line.StateLine.{StateLine}
use Rattle.ftp_text.specs.declared.state_line.StateLine.TheVariants as says
use Rattle.ftp_text.specs.Grammar.{AreStateLines}
use Rattle.ftp_text.specs.ListOrder.{AreListsInOrder}
use Rattle.ftp_text.specs.Spelling.{IsStateLine, is_from_root}
use Rattle.ftp_text.proofs.ListLemmas.{HasLists, has-lists, lists-in-order}
use Rattle.ftp_text.proofs.KindLemmas.{said_in}
use Rattle.ftp_text.proofs.KindLemmas as kind

-- a path that begins with a slash
absolute : (path : List ℕ) → is_from_root path ≡ true → IsAbsolute path
absolute [] h = absurd cc
absolute (b ∷ path) h = h

-- ---- the lines of each kind

sessions-absolute : (lines : List StateLine) → AllByRecursion IsStateLine lines → AllByRecursion (λ (l : SessionLine). IsAbsolute l.cwd) (said_in kind.Session lines)
sessions-absolute [] fit = tt
sessions-absolute (says.Session s ∷ lines) fit = (absolute s.cwd fit.0.cwd.1, sessions-absolute lines fit.1)
sessions-absolute (l ∷ lines) fit = sessions-absolute lines fit.1

queued-absolute : (lines : List StateLine) → AllByRecursion IsStateLine lines → AllByRecursion (λ (q : QueuedLine). IsAbsolute q.path) (said_in kind.Queued lines)
queued-absolute [] fit = tt
queued-absolute (says.Queued q ∷ lines) fit = (absolute q.path fit.0.path.1, queued-absolute lines fit.1)
queued-absolute (l ∷ lines) fit = queued-absolute lines fit.1

jobs-absolute : (lines : List StateLine) → AllByRecursion IsStateLine lines → AllByRecursion (λ (j : JobLine). IsAbsolute j.job.path) (said_in kind.Job lines)
jobs-absolute [] fit = tt
jobs-absolute (says.Job j ∷ lines) fit = (absolute j.job.path fit.0.path.1, jobs-absolute lines fit.1)
jobs-absolute (l ∷ lines) fit = jobs-absolute lines fit.1

records-keyed : (lines : List StateLine) → AllByRecursion IsStateLine lines → AllByRecursion (λ (r : RecordLine). is_keyed r ≡ true) (said_in kind.Record lines)
records-keyed [] fit = tt
records-keyed (says.Record r ∷ lines) fit = (fit.0.4, records-keyed lines fit.1)
records-keyed (l ∷ lines) fit = records-keyed lines fit.1

-- ---- the state

-- the keys of the records
keys-are : (records : List RecordLine) → keys_of (entries_of records) ≡ map record_key records
keys-are [] = refl
keys-are (r ∷ records) = ap (λ (keys : List LoginKey). record_key r ∷ keys) (keys-are records)

pub lines-form : (x : HubState) (lines : List StateLine) → AreStateLines x lines → IsForm x
lines-form x lines is =
    let h : HasLists x = has-lists x lines is in
    let order : AreListsInOrder x = lists-in-order x lines is in
    record {
      used = order.used;
      records = record {
        keyed = subst (AllByRecursion (λ (r : RecordLine). is_keyed r ≡ true)) (h.lists kind.Record) (records-keyed h.lines h.fit);
        in_order = subst (IsStrictlySortedBy key_cmp) (sym (keys-are x.records)) order.records;
      };
      sessions = record {
        sessions_rise = order.sessions;
        slots_rise = order.slots;
        queued_rise = order.queued;
        live = order.live;
        placed = order.placed;
        absolute = subst (AllByRecursion (λ (l : SessionLine). IsAbsolute l.cwd)) (h.lists kind.Session) (sessions-absolute h.lines h.fit);
        paths = subst (AllByRecursion (λ (q : QueuedLine). IsAbsolute q.path)) (h.lists kind.Queued) (queued-absolute h.lines h.fit);
      };
      jobs = record {
        in_order = order.jobs;
        paths = subst (AllByRecursion (λ (j : JobLine). IsAbsolute j.job.path)) (h.lists kind.Job) (jobs-absolute h.lines h.fit);
      };
    }
