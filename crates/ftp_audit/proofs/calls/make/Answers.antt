use Rattle.std.proofs.Common.{List, ℕ, sym, ap, ◌∙◌}
use Rattle.ftp_audit.specs.declared.calls.QuotaCall.TheVariants as call
use Rattle.ftp_audit.proofs.Replayed.{told-as, begin-told, append-told}
use Rattle.ftp_audit.proofs.calls.make.Goals as goal

pub returns-in-Begin-clause-answered : goal.returns-in-Begin-clause-answered
returns-in-Begin-clause-answered g c =
    let old = c.args.q.now in
    let new = c.begin.new.self in
    told-as c.told.result _ _ _ (g.S.Storage.files old.inner) (g.S.Storage.files new.inner) old.accounts new.accounts (g.S.Storage.rule old.inner) (g.S.Storage.rule new.inner) c.told.ensures (sym c.in-Begin.is)
    (begin-told c.begin.result (g.S.Storage.files old.inner) (g.S.Storage.files new.inner) old.accounts new.accounts (g.S.Storage.rule old.inner) (g.S.Storage.rule new.inner)
    c.in-Begin.user c.in-Begin.path c.in-Begin.start
    c.begin.ensures.refused c.begin.ensures.begun c.begin.ensures.unchanged c.begin.ensures.owned c.begin.ensures.same_owners c.begin.ensures.rule c.begin.ensures.same_rule)

pub returns-in-Append-clause-answered : goal.returns-in-Append-clause-answered
returns-in-Append-clause-answered g c =
    let old = c.args.q.now in
    let new = c.append.new.self in
    told-as c.told-in-Append.result _ _ _ (g.S.Storage.files old.inner) (g.S.Storage.files new.inner) old.accounts new.accounts (g.S.Storage.rule old.inner) (g.S.Storage.rule new.inner) c.told-in-Append.ensures
    (ap (λ (bytes : List ℕ). call.Append c.in-Append.user c.in-Append.path bytes) c.as_slice.ensures ∙ sym c.in-Append.is)
    (append-told c.append.result (g.S.Storage.files old.inner) (g.S.Storage.files new.inner) old.accounts new.accounts (g.S.Storage.rule old.inner) (g.S.Storage.rule new.inner)
    c.in-Append.user c.in-Append.path c.as_slice.result.now
    c.append.ensures.refused c.append.ensures.grown c.append.ensures.unchanged c.append.ensures.owned c.append.ensures.same_owners c.append.ensures.inner_rule)
