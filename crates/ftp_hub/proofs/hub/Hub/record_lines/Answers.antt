use Rattle.std.proofs.Common.{sym, ap, ◌∙◌, subst, List, Option}
use Rattle.std.specs.List.Sorted.{IsStrictlySortedBy}
use Rattle.ftp_options.specs.declared.lockout.FailedLoginsPolicy.{FailedLoginsPolicy}
use Rattle.ftp_lockout.specs.declared.cache.Failures.{Failures}
use Rattle.ftp_lockout.specs.declared.key.LoginKey.{LoginKey}
use Rattle.ftp_lockout.specs.Failures.{recorded}
use Rattle.ftp_lockout.specs.Places.{AreInKeyOrder}
use Rattle.ftp_hub.proofs.Common.{failures_in}
use Rattle.ftp_hub.specs.declared.state.RecordLine.{RecordLine}
use Rattle.ftp_hub.specs.State.{AreRecords, failures_told, recorded_in}
use Rattle.ftp_hub.proofs.Recording.{all-keyed, all-made}
use Rattle.ftp_hub.proofs.hub.Hub.record_lines.Goals as goal

-- the lines tell of each key what the table has
pub returns-in_ok-lines-in-Some-Some-clause-told : goal.returns-in_ok-lines-in-Some-Some-clause-told
returns-in_ok-lines-in-Some-Some-clause-told c key =
    let policy : FailedLoginsPolicy = c.in-Some-Some.policy in
    let lines : List RecordLine = c.in_ok-lines-in-Some-Some.lines.items in
    ap (λ (p : Option FailedLoginsPolicy). failures_told p lines key) c.in-Some-Some.is-1
    ∙ ap (λ (ls : List RecordLine). recorded_in ls key) (all-made policy.block_by lines c.in_ok-lines-in-Some-Some.ensures.made)
    ∙ ap (λ (es : List (LoginKey × Failures)). recorded es key) (c.in_ok-lines-in-Some-Some.ensures.entries ∙ c.in_ok-records-in-Some-Some.ensures.records)
    ∙ sym (ap (λ f. failures_in f key) c.in-Some-Some.is-0)

-- they are in order of keys
pub returns-in_ok-lines-in-Some-Some-clause-form : goal.returns-in_ok-lines-in-Some-Some-clause-form
returns-in_ok-lines-in-Some-Some-clause-form c =
    let policy : FailedLoginsPolicy = c.in-Some-Some.policy in
    let lines : List RecordLine = c.in_ok-lines-in-Some-Some.lines.items in
    record {
      keyed = all-keyed policy.block_by lines c.in_ok-lines-in-Some-Some.ensures.made;
      in_order = subst AreInKeyOrder (sym c.in_ok-lines-in-Some-Some.ensures.entries) c.in_ok-records-in-Some-Some.ensures.order;
    }

-- without failed logins there is no line
pub returns-in_default-clause-form : goal.returns-in_default-clause-form
unfolding IsStrictlySortedBy
returns-in_default-clause-form c = subst AreRecords (sym c.new.ensures.items) (record { keyed = tt; in_order = tt })
