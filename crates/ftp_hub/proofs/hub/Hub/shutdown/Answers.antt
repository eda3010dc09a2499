use Rattle.std.proofs.Common.{refl, sym, ap, ◌∙◌, ◌++◌, List}
use Rattle.std.specs.Prelude.{flat_map, nat_eq}
use Rattle.std.specs.HashMap as map
use Rattle.std.specs.FinMap as finmap
use Rattle.ftp_switchboard.specs.Board.{Held, key, key_cmp}
use Rattle.ftp_handlers.specs.Rooms.{leavers_in}
use Rattle.ftp_hub.specs.Leavers.{AreFew, AreLeavers, numbers_of}
use Rattle.ftp_hub.proofs.Common.{Action}
use Rattle.ftp_hub.proofs.Leaving.{leave_acts}
use Rattle.ftp_hub.proofs.Named.{few-counts}
use Rattle.ftp_hub.proofs.Stops.{serves-stopped}
use Rattle.ftp_hub.proofs.hub.Hub.shutdown.Goals as goal

-- every live session leaves, in order of its number, and nobody holds a port
pub returns-clause-serves : goal.returns-clause-serves
returns-clause-serves c log given st =
    let live = map.get nat_eq c.args.self.now.sessions in
    let are : AreLeavers live (leavers_in c.args.room.now) = c.requires.fits.leavers (rw c.requires.of_this_event refl) in
    let few : AreFew live = λ s v there. few-counts c.args.self.now log s v st c.requires.fits.below (sym (st.tables.sessions s) ∙ there) in
    serves-stopped c.args.self.now _ log c.args.event.now given _ (numbers_of (leavers_in c.args.room.now)) st c.requires.of_this_event
    are.in_order are.all
    (λ jobs.
    c.leave.ensures.actions few c.args.self.now.options given jobs
    ∙ ap (λ (xs : List Action). xs ++ flat_map (leave_acts c.args.self.now.options given jobs live) (numbers_of (leavers_in c.args.room.now))) c.requires.fits.ready.actions)
    refl c.leave.ensures.none c.leave.ensures.empty refl refl
    (λ a p. ap (λ (held : Held). finmap.get held (key a p)) c.clear.ensures.free ∙ finmap.get-empty key_cmp (key a p))
    refl refl
