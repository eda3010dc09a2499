use Rattle.std.proofs.Common.{sym, ap, Some, ◌∙◌}
use Rattle.ftp_options.proofs.Sites.{AreInOrder, found, absent}
use Rattle.ftp_options.proofs.site.SiteHandlers.find.Goals as goal

pub returns-in-Ok : goal.returns-in-Ok
returns-in-Ok g c =
    let order : AreInOrder c.args.self.now = rw (← c.self.view_is) c.self.invariant in
    let here = found c.args.self.now c.args.name.now c.in-Ok.place c.index.result.now order c.in-Ok.ensures.range c.in-Ok.ensures.place in
    ap (λ site. Some site.1) c.index.ensures ∙ rw c.self.view_is (sym here)

pub returns-in-Err : goal.returns-in-Err
returns-in-Err g c =
    let order : AreInOrder c.args.self.now = rw (← c.self.view_is) c.self.invariant in
    sym (absent c.args.self.now c.args.name.now c.in-Err.field-0 order c.in-Err.ensures.place)
