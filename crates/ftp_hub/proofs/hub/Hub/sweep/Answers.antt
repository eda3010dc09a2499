use Rattle.std.proofs.Common.{refl}
use Rattle.ftp_hub.proofs.Sweeps.{serves-swept, swept-none, swept-table}
use Rattle.ftp_hub.proofs.hub.Hub.sweep.Goals as goal

-- what is too old goes
pub returns-in-Some-clause-serves : goal.returns-in-Some-clause-serves
returns-in-Some-clause-serves c log given st =
    serves-swept c.args.self.now _ log c.args.event.now given _ st c.requires.of_this_event c.requires.fits.ready.actions
    refl refl refl refl refl refl (swept-table c.args.self.now c.in-Some.failures c.sweep.new.self c.args.event.now.at c.in-Some.is c.sweep.ensures.swept)

-- where failed logins lock nobody, none is recorded
pub returns-in_default-clause-serves : goal.returns-in_default-clause-serves
returns-in_default-clause-serves c log given st =
    serves-swept c.args.self.now _ log c.args.event.now given _ st c.requires.of_this_event c.requires.fits.ready.actions
    refl refl refl refl refl refl (swept-none c.args.self.now c.args.event.now.at c.in_default.is)
