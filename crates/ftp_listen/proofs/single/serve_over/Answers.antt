use denote.Param.Send.{sendable}
use Rattle.ftp_listen.proofs.single.serve_over.Goals as goal

-- what either thread is handed lives for ever, and may go there: so the function's own bounds say it
pub join-end-requires-after_bounds : goal.join-end-requires-after_bounds
join-end-requires-after_bounds g c κs within =
    let b = c.type_bounds in (
      (b.static-H, (b.static-H-Pass, (b.static-S-Depot-Store, (b.static-S-Depot-Words, (b.static-R, (b.static-S, (b.static-S-Authenticator, (b.static-S-Sinks, (b.static-S-Depot, (b.static-S-Gate, (search sendable, search sendable, search sendable, search sendable, search sendable, search sendable, search sendable, search sendable, search sendable, search sendable, search sendable, search sendable, search sendable, search sendable, search sendable))))))))))),
      (b.static-H, (b.static-H-Pass, (b.static-S-Depot-Store, (b.static-S-Depot-Words, (b.static-R, (b.static-S, (b.static-S-Authenticator, (b.static-S-Sinks, (b.static-S-Depot, (b.static-S-Gate, (search sendable, search sendable, search sendable, search sendable, search sendable, search sendable, search sendable, search sendable, search sendable, search sendable, search sendable, search sendable, search sendable, search sendable, search sendable))))))))))),
    )
