use Rattle.std.proofs.Common.{sym}
use Rattle.ftp_base.proofs.memory_link.MemoryLinkLink.write.Goals as goal

pub returns-clause-unlisted : goal.returns-clause-unlisted
returns-clause-unlisted c = rw (← c.self.view_is) (c.count_call.ensures.unlisted (sym c.in_default.ensures.fails))
