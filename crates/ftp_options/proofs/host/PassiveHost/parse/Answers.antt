use Rattle.std.proofs.Common.{refl}
use Rattle.ftp_options.proofs.Hosts.{spells-number, spells-none}
use Rattle.ftp_options.proofs.host.PassiveHost.parse.Goals as goal

pub returns-in-Ok : goal.returns-in-Ok
returns-in-Ok c = rw (← c.as_slice.ensures) (spells-number c.as_slice.result.now c.in-Ok.ip c.to_bits.result c.in-Ok.ensures c.to_bits.ensures)

pub returns-in-Err : goal.returns-in-Err
returns-in-Err c = (refl, rw (← c.as_slice.ensures) (spells-none c.as_slice.result.now c.in-Err.ensures))
