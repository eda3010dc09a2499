use Rattle.std.proofs.Common.{◌∙◌, sym, ap, subst, List, [], ◌∷◌, take, arith}
use Rattle.ftp_audit.specs.declared.account.Mark.{Mark}
use Rattle.ftp_audit.specs.Marks.{below, UpTo}
use Rattle.ftp_audit.specs.Users.{marks_of}
use Rattle.ftp_audit.specs.Heard.{notices_on, with_all}
use Rattle.ftp_audit.proofs.HeardLemmas.{upto-with_all, below-same, heard-action}
use Rattle.ftp_audit.proofs.audit.hear.Goals as goal

pub hear_one-requires : goal.hear_one-requires
hear_one-requires c = λ user.
    subst (UpTo c.args.place) (sym (c.loop-action.invariant user))
    (upto-with_all c.args.place (marks_of c.args.users.now user) (notices_on user (take c.loop-action.action-index c.args.actions.now)) (c.requires user))

pub loop-action-preserved : goal.loop-action-preserved
loop-action-preserved c = λ user.
    c.in_ok-hear_one.ensures.heard user
    ∙ (ap (λ (marks : List Mark). with_all c.args.place marks (notices_on user (c.action-item.result ∷ []))) (c.loop-action.invariant user)
    ∙ sym (heard-action c.args.place user (marks_of c.args.users.now user) c.args.actions.now c.loop-action.action-index c.action-item.result (omega arith) c.action-item.is))

pub returns-in_err-hear_one-clause-earlier : goal.returns-in_err-hear_one-clause-earlier
returns-in_err-hear_one-clause-earlier c = λ user.
    ap (below c.args.place) (c.in_err-hear_one.ensures.unchanged user ∙ c.loop-action.invariant user)
    ∙ below-same c.args.place (marks_of c.args.users.now user) (notices_on user (take c.loop-action.action-index c.args.actions.now))

pub returns-in_err-hear_one-clause-place : goal.returns-in_err-hear_one-clause-place
returns-in_err-hear_one-clause-place c = λ user.
    subst (UpTo c.args.place) (sym (c.in_err-hear_one.ensures.unchanged user ∙ c.loop-action.invariant user))
    (upto-with_all c.args.place (marks_of c.args.users.now user) (notices_on user (take c.loop-action.action-index c.args.actions.now)) (c.requires user))

pub returns-clause-earlier : goal.returns-clause-earlier
returns-clause-earlier c = λ user.
    ap (below c.args.place) (c.loop-action.invariant user)
    ∙ below-same c.args.place (marks_of c.args.users.now user) (notices_on user (take c.loop-action.action-index c.args.actions.now))

pub returns-clause-place : goal.returns-clause-place
returns-clause-place c = λ user.
    subst (UpTo c.args.place) (sym (c.loop-action.invariant user))
    (upto-with_all c.args.place (marks_of c.args.users.now user) (notices_on user (take c.loop-action.action-index c.args.actions.now)) (c.requires user))
