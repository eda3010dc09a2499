use Rattle.std.proofs.Common.{◌≡◌, ◌∙◌, Bool, true, false, cond, Option, Some, None, sym, ap, subst}
use Rattle.ftp_lockout.specs.Keys.{key_lent, same_key}
use Rattle.ftp_lockout.specs.Failures.{recorded, is_locked, let_in}
use Rattle.ftp_lockout.specs.declared.cache.Failures.{Failures}
use Rattle.ftp_lockout.specs.Places.{AreInKeyOrder, place_in, records_in}
use Rattle.ftp_lockout.proofs.Records.{recorded-gap, recorded-taken, order-remove, of_same, of_unchanged}
use Rattle.ftp_lockout.proofs.cache.let_in.Goals as goal
use Rattle.ftp_lockout.proofs.cache.let_in.Goals.{In_default}

-- a key that stands nowhere has no failures
not_recorded : (c : In_default) → recorded (records_in c.args.blocks.now.items) (key_lent c.args.key) ≡ None
not_recorded c = recorded-gap (records_in c.args.blocks.now.items) _ (key_lent c.args.key) (rw c.deref.ensures.value at c.in_default.ensures.absent)

pub returns-in_default-clause-locked : goal.returns-in_default-clause-locked
returns-in_default-clause-locked c = ap (is_locked c.args.policy c.args.at) (sym (not_recorded c))

pub returns-in_default-clause-removed : goal.returns-in_default-clause-removed
returns-in_default-clause-removed c = λ other.
    of_unchanged (let_in c.args.policy c.args.at) (records_in c.args.blocks.now.items) (key_lent c.args.key) other
    (ap (let_in c.args.policy c.args.at) (not_recorded c) ∙ sym (not_recorded c))

pub returns-then-locks-clause-removed : goal.returns-then-locks-clause-removed
returns-then-locks-clause-removed c = λ other.
    let is_at = rw c.deref.ensures.value at c.in-Ok.ensures.found in
    let found = rw c.deref-2.ensures.value at (c.failures_at.ensures (key_lent c.args.key) (rw c.deref-2.ensures.value is_at)) in
    let locked : is_locked c.args.policy c.args.at (Some c.failures_at.result) ≡ true = sym c.locks.ensures ∙ c.if-locks.true in
    of_unchanged (let_in c.args.policy c.args.at) (records_in c.args.blocks.now.items) (key_lent c.args.key) other
    (ap (let_in c.args.policy c.args.at) found ∙ ap (λ (b : Bool). cond b (Some c.failures_at.result) None) locked ∙ sym found)

pub returns-clause-removed : goal.returns-clause-removed
returns-clause-removed c = λ other.
    let old = records_in c.args.blocks.now.items in
    let key = key_lent c.args.key in
    let f = c.failures_at.result in
    let is_at = rw c.deref.ensures.value at c.in-Ok.ensures.found in
    let found = rw c.deref-2.ensures.value at (c.failures_at.ensures key (rw c.deref-2.ensures.value is_at)) in
    let open_ : is_locked c.args.policy c.args.at (Some f) ≡ false = sym c.locks.ensures ∙ c.if-locks.false in
    let none : let_in c.args.policy c.args.at (Some f) ≡ None = ap (λ (b : Bool). cond b (Some f) None) open_ in
    recorded-taken old (records_in c.take_at.new.blocks.items) (place_in c.args.blocks.now.items c.in-Ok.place) c.requires.order c.take_at.ensures.records key other is_at
    ∙ ap (λ (o : Option Failures). cond (same_key other key) o (recorded old other)) (sym none)
    ∙ of_same (let_in c.args.policy c.args.at) old key other _ (Some f) found

pub returns-clause-order : goal.returns-clause-order
returns-clause-order c =
    subst AreInKeyOrder (sym c.take_at.ensures.records) (order-remove (records_in c.args.blocks.now.items) (place_in c.args.blocks.now.items c.in-Ok.place) c.requires.order)
