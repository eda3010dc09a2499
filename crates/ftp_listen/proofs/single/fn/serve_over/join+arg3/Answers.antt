use denote.Param.Send.{param_send}
use Rattle.ftp_listen.proofs.single.fn.serve_over.join+arg3.Goals as goal

-- what the closure requires of the types of its server is what the call does
pub spawn_on-requires-send-H : goal.spawn_on-requires-send-H
spawn_on-requires-send-H g c κs within = param_send _ _ c.requires.1.1.1.1.1.1.1.1.1.1.1.1.1.1.1.1.1.1.1.1.1

pub spawn_on-requires-send-S : goal.spawn_on-requires-send-S
spawn_on-requires-send-S g c κs within = param_send _ _ c.requires.1.1.1.1.1.1.1.1.1.1.1.1.1.1.1.1.1.1.1.1.2

pub spawn_on-requires-send-H-Pass : goal.spawn_on-requires-send-H-Pass
spawn_on-requires-send-H-Pass g c κs within = param_send _ _ c.requires.1.1.1.1.1.1.1.1.1.1.1.1.1.1.1.1.1.1.1.1.3

pub spawn_on-requires-send-S-Authenticator : goal.spawn_on-requires-send-S-Authenticator
spawn_on-requires-send-S-Authenticator g c κs within = param_send _ _ c.requires.1.1.1.1.1.1.1.1.1.1.1.1.1.1.1.1.1.1.1.1.4

pub spawn_on-requires-send-S-Sinks : goal.spawn_on-requires-send-S-Sinks
spawn_on-requires-send-S-Sinks g c κs within = param_send _ _ c.requires.1.1.1.1.1.1.1.1.1.1.1.1.1.1.1.1.1.1.1.1.5

pub spawn_on-requires-send-S-Depot : goal.spawn_on-requires-send-S-Depot
spawn_on-requires-send-S-Depot g c κs within = param_send _ _ c.requires.1.1.1.1.1.1.1.1.1.1.1.1.1.1.1.1.1.1.1.1.6

pub spawn_on-requires-send-S-Gate : goal.spawn_on-requires-send-S-Gate
spawn_on-requires-send-S-Gate g c κs within = param_send _ _ c.requires.1.1.1.1.1.1.1.1.1.1.1.1.1.1.1.1.1.1.1.1.7

pub spawn_on-requires-send-S-Depot-Store : goal.spawn_on-requires-send-S-Depot-Store
spawn_on-requires-send-S-Depot-Store g c κs within = param_send _ _ c.requires.1.1.1.1.1.1.1.1.1.1.1.1.1.1.1.1.1.1.1.1.8

pub spawn_on-requires-send-S-Depot-Words : goal.spawn_on-requires-send-S-Depot-Words
spawn_on-requires-send-S-Depot-Words g c κs within = param_send _ _ c.requires.1.1.1.1.1.1.1.1.1.1.1.1.1.1.1.1.1.1.1.1.9
