-- What was counted, after one entry more.
use Rattle.std.proofs.Common.{◌≡◌, sym, ◌∙◌, ap, subst, ℕ, ◌+◌, List, ◌∷◌}
use Rattle.ftp_options.specs.declared.options.Options.{Options}
use Rattle.ftp_events.specs.declared.entry.Entry.{Entry}
use Rattle.ftp_events.specs.Counts.{Counted, one_if}
use Rattle.ftp_events.specs.Log.{past_of}
use Rattle.ftp_events.specs.Right.{IsActed, IsRight, next_entry}
use Rattle.ftp_events.specs.Tallies.{saturated}
use Rattle.ftp_hub.specs.Stands.{SameAnswers, Stands, counters_of, options_of}
use Rattle.ftp_hub.proofs.Refusals.{counted-same, stands-same}
use Rattle.ftp_laws.proofs.LogLemmas.{next_entry-right}
use Rattle.ftp_audit.specs.declared.tally.Tally.{Tally}
use Rattle.ftp_audit.specs.Tally.{HasCounted}
use Rattle.ftp_audit.specs.Written.{is_lockout, lockout_count}
use Rattle.ftp_audit.proofs.TakenLemmas.{more-still}

-- a hub that is made ready for an event has counted the same
pub counted-ready :
    (o : Options) (old new : Tally) (log : List Entry) → SameAnswers old.hub new.hub → new.locked ≡ old.locked →
    HasCounted o old log → HasCounted o new log
counted-ready o old new log same locked h =
    record {
      options = same.head.options ∙ h.options;
      stands = stands-same old.hub new.hub log same h.stands;
      counted =
          subst (λ (p : Options). Counted p (past_of log) (counters_of new.hub)) (same.head.options ∙ h.options)
          (counted-same old.hub new.hub (past_of log) same
          (subst (λ (p : Options). Counted p (past_of log) (counters_of old.hub)) (sym h.options) h.counted));
      locked = locked ∙ h.locked;
    }

-- an entry that is made anew from an event and an answer of a right and acted log is the one that is there
pub counted-more :
    (o : Options) (old new : Tally) (log : List Entry) (e made : Entry) →
    options_of new.hub ≡ options_of old.hub →
    ((l : List Entry) → Stands old.hub l → made ≡ next_entry (options_of old.hub) l e.event e.answer) →
    ((l : List Entry) → Stands old.hub l → Stands new.hub (made ∷ l)) →
    ((l : List Entry) → Stands old.hub l →
    Counted (options_of old.hub) (past_of l) (counters_of old.hub) →
    Counted (options_of old.hub) (past_of (made ∷ l)) (counters_of new.hub)) →
    new.locked ≡ saturated (old.locked + one_if (is_lockout e.decision)) →
    HasCounted o old log → IsRight o (e ∷ log) → IsActed o (e ∷ log) → HasCounted o new (e ∷ log)
counted-more o old new log e made options due stands counters locked h r a =
    record {
      options = options ∙ h.options;
      stands = subst (λ (x : Entry). Stands new.hub (x ∷ log)) is (stands log h.stands);
      counted =
          subst (λ (x : Entry). Counted o (past_of (x ∷ log)) (counters_of new.hub)) is
          (subst (λ (p : Options). Counted p (past_of (made ∷ log)) (counters_of new.hub)) h.options
          (counters log h.stands (subst (λ (p : Options). Counted p (past_of log) (counters_of old.hub)) (sym h.options) h.counted)));
      locked =
          locked
          ∙ (ap (λ (n : ℕ). saturated (n + one_if (is_lockout e.decision))) h.locked
          ∙ more-still (lockout_count log) (one_if (is_lockout e.decision)));
    }
  where
    is : made ≡ e
    is = due log h.stands ∙ (ap (λ (p : Options). next_entry p log e.event e.answer) h.options ∙ next_entry-right o log e r.1 a.1)
