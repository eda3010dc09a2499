use Rattle.std.proofs.Common.{Some, cond, refl, sym, ap, ◌∙◌}
use Rattle.std.specs.FinMap as finmap
use Rattle.std.proofs.lemmas.Option.{none-some}
use Rattle.ftp_switchboard.specs.Board.{Board, is_key, key, present_released, still_holder}
use Rattle.ftp_switchboard.specs.Rows.{holder_in}
use Rattle.ftp_switchboard.proofs.InsideLemmas.{first_free-board, holder-is, reserved, room-is}
use Rattle.ftp_switchboard.proofs.PortsLemmas.{first_free-is}
use Rattle.ftp_switchboard.proofs.TableLemmas.{get-held, held-reserved, in_order}
use Rattle.ftp_switchboard.proofs.switchboard.Switchboard.reserve.Goals as goal

pub returns-in_default-clause-max_retries : goal.returns-in_default-clause-max_retries
returns-in_default-clause-max_retries c =
    let none = sym (first_free-board c.self.inside.range c.self.inside.rows c.self.inside.spare c.self.invariant c.args.self.now c.self.view_is c.args.source c.args.word) ∙ sym c.free_port_of.ensures.free ∙ c.in_default.is in
    ((λ is_err. none), (λ is_none. refl))

pub put-requires-clause-in_range : goal.put-requires-clause-in_range
put-requires-clause-in_range c =
    let is = first_free-is (holder_in c.self.inside.rows c.args.source) c.self.inside.range.lo c.self.inside.range.hi c.args.word c.in-Some.port c.self.invariant.in_range (sym c.in-Some.ensures.free) in
    (c.self.invariant.from_one, is.0, is.1)

pub put-requires-clause-room : goal.put-requires-clause-room
put-requires-clause-room c = room-is c.self.inside.range c.self.inside.rows c.self.inside.spare c.self.invariant c.args.self.now c.self.view_is c.args.source c.requires.room

pub put-requires-clause-free : goal.put-requires-clause-free
put-requires-clause-free c =
    (first_free-is (holder_in c.self.inside.rows c.args.source) c.self.inside.range.lo c.self.inside.range.hi c.args.word c.in-Some.port c.self.invariant.in_range (sym c.in-Some.ensures.free)).2

pub give_up_present-requires-clause-order : goal.give_up_present-requires-clause-order
give_up_present-requires-clause-order c =
    in_order c.self.inside.range.lo c.self.inside.range.hi c.put.new.rows c.self.invariant.from_one c.self.invariant.in_range c.self.invariant.below c.put.ensures.rows

pub returns-clause-granted : goal.returns-clause-granted
returns-clause-granted c = sym (c.in-Some.ensures.free ∙ first_free-board c.self.inside.range c.self.inside.rows c.self.inside.spare c.self.invariant c.args.self.now c.self.view_is c.args.source c.args.word)

pub returns-clause-held : goal.returns-clause-held
returns-clause-held c =
    held-reserved c.self.inside.rows c.give_up_present.new.rows c.self.invariant.rows.unique c.give_up_present.ensures.rows.unique c.args.source c.in-Some.port c.args.present c.args.session
    (λ a p. c.give_up_present.ensures.holders a p
    ∙ ap (λ o. cond (is_key a p c.args.source c.in-Some.port) o (still_holder c.args.source c.args.present c.args.session a p o)) (c.put.ensures.holders a p)
    ∙ reserved (is_key a p c.args.source c.in-Some.port) c.args.source c.args.present c.args.session a p (holder_in c.self.inside.rows a p))
    ∙ ap (λ (b : Board). finmap.insert (present_released b.held c.args.source c.args.present c.args.session) (key c.args.source c.in-Some.port) c.args.session) c.self.view_is

-- Key by key: the new hold, then what the session gave up, then what was held.
pub returns-clause-holders : goal.returns-clause-holders
returns-clause-holders c a p =
    get-held c.give_up_present.new.rows c.give_up_present.ensures.rows.unique a p
    ∙ c.give_up_present.ensures.holders a p
    ∙ ap (λ o. cond (is_key a p c.args.source c.in-Some.port) o (still_holder c.args.source c.args.present c.args.session a p o)) (c.put.ensures.holders a p)
    ∙ reserved (is_key a p c.args.source c.in-Some.port) c.args.source c.args.present c.args.session a p (holder_in c.self.inside.rows a p)
    ∙ ap (λ o. cond (is_key a p c.args.source c.in-Some.port) (Some c.args.session) (still_holder c.args.source c.args.present c.args.session a p o)) (holder-is c.self.inside.range c.self.inside.rows c.self.inside.spare c.self.invariant c.args.self.now c.self.view_is a p)

pub returns-clause-max_retries : goal.returns-clause-max_retries
returns-clause-max_retries c =
    let found = sym (first_free-board c.self.inside.range c.self.inside.rows c.self.inside.spare c.self.invariant c.args.self.now c.self.view_is c.args.source c.args.word) ∙ sym c.in-Some.ensures.free in
    ((λ is_err. absurd (cc)), (λ none. absurd (none-some c.in-Some.port (sym none ∙ found))))
