use Rattle.std.proofs.Common.{[]}
use Rattle.ftp_options.proofs.Sites.{AreInOrder, not-absent, put, put-order, put-found}
use Rattle.ftp_options.proofs.site.SiteHandlers.insert.Goals as goal

pub unreachable-requires : goal.unreachable-requires
unreachable-requires g c =
    let order : AreInOrder c.args.self.now = rw (← c.self.view_is) c.self.invariant in
    not-absent c.args.self.now c.args.name.now c.in_default.field-0 ([], c.args.handler) order c.in_default.ensures.range c.in_default.ensures.place c.requires.absent

pub returns-clause-inserted : goal.returns-clause-inserted
returns-clause-inserted g c =
    let order : AreInOrder c.args.self.now = rw (← c.self.view_is) c.self.invariant in
    let there = put c.args.self.now c.args.name.now c.args.handler c.in-Err.place order c.in-Err.ensures.place in
    rw (c.in_ok-insert.ensures.items, c.self.view_is, c.in_ok-name.ensures) there

pub invariant_of-self-2 : goal.invariant_of-self-2
invariant_of-self-2 g c =
    let order : AreInOrder c.args.self.now = rw (← c.self.view_is) c.self.invariant in
    rw (returns-clause-inserted g c) (put-order c.args.self.now c.args.name.now c.args.handler order)

pub returns-clause-found : goal.returns-clause-found
returns-clause-found g c = rw (returns-clause-inserted g c) (put-found c.args.self.now c.args.name.now c.args.handler)
