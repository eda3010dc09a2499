use Rattle.std.proofs.Common.{◌∙◌, refl, sym, ap, subst, ◌+◌, List, arith}
use Rattle.ftp_events.specs.declared.action.Action.{Action}
use Rattle.ftp_audit.specs.Users.{marks_of}
use Rattle.ftp_audit.specs.Heard.{notices_on, with_all, Below}
use Rattle.ftp_audit.proofs.HeardLemmas.{below-below, below-all, below-upto, upto-below, heard-more}
use Rattle.ftp_audit.proofs.audit.Audit.take.Goals as goal

pub hear-requires : goal.hear-requires
hear-requires c = λ user. upto-below c.self.inside.taken (marks_of c.self.inside.users user) (c.self.invariant user)

pub invariant_of-self : goal.invariant_of-self
invariant_of-self c = λ user.
    subst (Below c.self.inside.taken) (sym (c.forget.ensures user)) (below-below c.self.inside.taken (marks_of c.hear.new.users user))

pub returns-in-Err-clause-unchanged : goal.returns-in-Err-clause-unchanged
returns-in-Err-clause-unchanged c =
    rw (← c.self.view_is)
    (record {
      taken = refl;
      marks = λ user. c.forget.ensures user ∙ (c.hear.ensures.earlier user ∙ below-all c.self.inside.taken (marks_of c.self.inside.users user) (c.self.invariant user));
    })

pub invariant_of-self-2 : goal.invariant_of-self-2
invariant_of-self-2 c = λ user. below-upto c.self.inside.taken (c.self.inside.taken + 1) (marks_of c.hear.new.users user) (c.hear.ensures.place user) (omega arith)

pub returns-clause-heard : goal.returns-clause-heard
returns-clause-heard c =
    rw (← c.self.view_is)
    (λ log h.
    heard-more (record { taken = c.self.inside.taken; users = c.self.inside.users }) (record { taken = c.self.inside.taken + 1; users = c.hear.new.users }) log c.args.entry.now h c.self.invariant refl
    (λ user. c.in_default.ensures.heard user ∙ ap (λ (actions : List Action). with_all c.self.inside.taken (marks_of c.self.inside.users user) (notices_on user actions)) c.as_slice.ensures))

pub returns-clause-stands : goal.returns-clause-stands
returns-clause-stands c =
    rw (← c.self.view_is)
    (λ o log h right acted. record {
      right = right;
      acted = acted;
      heard = heard-more (record { taken = c.self.inside.taken; users = c.self.inside.users }) (record { taken = c.self.inside.taken + 1; users = c.hear.new.users }) log c.args.entry.now h.heard c.self.invariant refl
          (λ user. c.in_default.ensures.heard user ∙ ap (λ (actions : List Action). with_all c.self.inside.taken (marks_of c.self.inside.users user) (notices_on user actions)) c.as_slice.ensures);
    })
