use Rattle.std.proofs.Common.{◌≡◌, sym, ap, ◌∙◌, ◌∷◌, ◌++◌, length, Some, arith}
use Rattle.std.specs.Prelude.{nat_eq}
use Rattle.std.specs.HashMap as map
use Rattle.ftp_handlers.specs.Copies.{Leaver}
use Rattle.ftp_handlers.specs.Rooms.{RoomState, actions_in, kept_in, leavers_in, len_in, twice_in}
use Rattle.ftp_events.specs.declared.decision.Decision.TheVariants.{Stopped}
use Rattle.ftp_events.specs.declared.event.EventKind.TheVariants.{Shutdown}
use Rattle.ftp_hub.proofs.Common.{Session, session_acts}
use Rattle.ftp_hub.proofs.Leaving.{IsNext, leaving-acts, leaving-more, leaving-next, leaving-none, none-empty}
use Rattle.ftp_hub.proofs.stop.leave.Goals as goal

-- one more has left
pub loop-number-preserved : goal.loop-number-preserved
loop-number-preserved c =
    let so_far = c.loop-number.invariant in
    let live = map.get nat_eq c.args.sessions.now in
    let now = map.get nat_eq c.loop-number.sessions in
    let next : Leaver = record { session = c.in-Some.number; user = kept_in c.take_leaver.new.self } in
    let is : leavers_in c.loop-number.room ≡ next ∷ leavers_in c.take_leaver.new.self = c.in-Some.ensures.first in
    let v : Session = c.in-Some-take.session in
    let n : IsNext live now next (leavers_in c.take_leaver.new.self) = leaving-next live now c.args.room.now c.loop-number.room next (leavers_in c.take_leaver.new.self) so_far is in
    let known : live next.session ≡ Some v = sym n.here ∙ sym c.take.ensures.value ∙ c.in-Some-take.is in
    let same = c.take_leaver.ensures.same in
    let after = c.stop.ensures.same in
    let behind : leavers_in c.stop.new.room ≡ leavers_in c.take_leaver.new.self = ap leavers_in after in
    leaving-more live now (map.get nat_eq c.take.new.table) c.args.room.now c.loop-number.room c.stop.new.room next v so_far
    (is ∙ ap (λ ls. next ∷ ls) (sym behind)) known c.take.ensures.updates
    (omega (arith, so_far.places, ap length is, ap length behind, c.stop.ensures.len, ap len_in same, ap (λ (r : RoomState). r.places) same, ap (λ (r : RoomState). r.places) after))
    (ap twice_in after ∙ ap twice_in same)
    (λ few o answer job.
    c.stop.ensures.actions (few next.session v known).notices o answer job
    ∙ ap (λ (r : RoomState). actions_in r ++ session_acts o next.session Shutdown answer Stopped job (Some v)) same)

-- nobody is left
pub returns-clause-empty : goal.returns-clause-empty
returns-clause-empty c =
    none-empty c.loop-number.sessions.entries (λ s. leaving-none _ (map.get nat_eq c.loop-number.sessions) c.args.room.now c.loop-number.room s c.loop-number.invariant c.in_default.ensures.none)

-- and all has been done
pub returns-clause-actions : goal.returns-clause-actions
returns-clause-actions c few o answer jobs =
    ap actions_in c.take_leaver.ensures.same ∙ leaving-acts _ (map.get nat_eq c.loop-number.sessions) c.args.room.now c.loop-number.room c.loop-number.invariant c.in_default.ensures.none few o answer jobs
