-- Where a proxy's connection leads.
use Rattle.std.specs.Prelude.{Bool, false, Ok}
use Rattle.ftp_events.specs.declared.event.Answer.{Answer}
use Rattle.ftp_events.specs.declared.event.Answer.TheVariants.{Header}
use Rattle.ftp_options.specs.declared.options.ListenerMode.{ListenerMode}
use Rattle.ftp_options.specs.Modes.{is_control_port}

-- the header that was read leads to the control port
abbrev pub leads_to_control : ListenerMode → Answer → Bool
leads_to_control mode (Header (Ok line)) = is_control_port mode line.destination.port
leads_to_control mode _ = false
