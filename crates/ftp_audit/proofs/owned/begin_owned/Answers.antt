use Rattle.std.proofs.Common.{◌<◌, ◌^◌, Bool, Option, sym, subst, ◌∙◌}
use Rattle.std.specs.Prelude.{IsSomeAnd}
use Rattle.ftp_base.specs.Storage.{Files}
use Rattle.ftp_audit.specs.Usage.{given, Agrees}
use Rattle.ftp_audit.specs.Book.{Book, IsWithin, Takes}
use Rattle.ftp_audit.proofs.Begun.{takes-held, takes-put, takes-back, takes-empty, true-begun, within-begun}
use Rattle.ftp_audit.proofs.owned.begin_owned.Goals as goal

pub put-requires-clause-held : goal.put-requires-clause-held
put-requires-clause-held g c =
    takes-held c.args.accounts.now c.take.new.self c.args.user.now c.args.path.now c.args.start c.in_ok-is_new.is_new c.in_ok-is_new.ensures.taken c.in_default.ensures.refused

pub put-requires-clause-room : goal.put-requires-clause-room
put-requires-clause-room g c =
    let put = takes-put c.args.accounts.now c.take.new.self c.args.user.now c.args.path.now c.args.start c.in_ok-is_new.is_new c.in_ok-is_new.ensures.taken in
    subst (λ (b : Book). given b.owners c.args.user.now < 2 ^ 64) (sym put) c.in_default.ensures.room

pub give_up-requires : goal.give_up-requires
give_up-requires g c =
    let taken = subst (λ (b : Bool). Takes c.args.accounts.now c.take.new.self c.args.user.now c.args.path.now b) c.if-is_new.true c.in_ok-is_new.ensures.taken in
    record { empty = takes-empty c.args.accounts.now c.take.new.self c.args.user.now c.args.path.now taken }

pub returns-in-Ok-clause-owned : goal.returns-in-Ok-clause-owned
returns-in-Ok-clause-owned g c =
    c.put.ensures ∙ takes-put c.args.accounts.now c.take.new.self c.args.user.now c.args.path.now c.args.start c.in_ok-is_new.is_new c.in_ok-is_new.ensures.taken

pub returns-in-Ok-clause-agreed : goal.returns-in-Ok-clause-agreed
returns-in-Ok-clause-agreed g c agrees =
    let put = c.put.ensures ∙ takes-put c.args.accounts.now c.take.new.self c.args.user.now c.args.path.now c.args.start c.in_ok-is_new.is_new c.in_ok-is_new.ensures.taken in
    subst (λ (b : Book). IsSomeAnd (g.S.Storage.files c.begin.new.self) (Agrees b.owners)) (sym put)
    (true-begun c.args.accounts.now.owners (g.S.Storage.files c.args.inner.now) (g.S.Storage.files c.begin.new.self) c.args.user.now c.args.path.now c.args.start agrees c.in-Ok.ensures.begun)

pub returns-in-Ok-clause-within : goal.returns-in-Ok-clause-within
returns-in-Ok-clause-within g c within =
    let put = c.put.ensures ∙ takes-put c.args.accounts.now c.take.new.self c.args.user.now c.args.path.now c.args.start c.in_ok-is_new.is_new c.in_ok-is_new.ensures.taken in
    subst IsWithin (sym put) (within-begun c.args.accounts.now c.args.user.now c.args.path.now c.args.start within c.in_default.ensures.refused)

pub returns-then-is_new-clause-agreed : goal.returns-then-is_new-clause-agreed
returns-then-is_new-clause-agreed g c agrees =
    let taken = subst (λ (b : Bool). Takes c.args.accounts.now c.take.new.self c.args.user.now c.args.path.now b) c.if-is_new.true c.in_ok-is_new.ensures.taken in
    let back = c.give_up.ensures ∙ takes-back c.args.accounts.now c.take.new.self c.args.user.now c.args.path.now taken in
    subst (λ (b : Book). IsSomeAnd (g.S.Storage.files c.begin.new.self) (Agrees b.owners)) (sym back)
    (subst (λ (f : Option Files). IsSomeAnd f (Agrees c.args.accounts.now.owners)) (sym c.in-Err-begin.ensures.unchanged) agrees)

pub returns-then-is_new-clause-within : goal.returns-then-is_new-clause-within
returns-then-is_new-clause-within g c within =
    let taken = subst (λ (b : Bool). Takes c.args.accounts.now c.take.new.self c.args.user.now c.args.path.now b) c.if-is_new.true c.in_ok-is_new.ensures.taken in
    let back = c.give_up.ensures ∙ takes-back c.args.accounts.now c.take.new.self c.args.user.now c.args.path.now taken in
    subst IsWithin (sym back) within

pub returns-then-is_new-clause-same_owners : goal.returns-then-is_new-clause-same_owners
returns-then-is_new-clause-same_owners g c =
    let taken = subst (λ (b : Bool). Takes c.args.accounts.now c.take.new.self c.args.user.now c.args.path.now b) c.if-is_new.true c.in_ok-is_new.ensures.taken in
    c.give_up.ensures ∙ takes-back c.args.accounts.now c.take.new.self c.args.user.now c.args.path.now taken
