use Rattle.std.specs.BTreeMap as tree
use Rattle.std.specs.Ordering.{nat_cmp}
use Rattle.std.proofs.lemmas.Result.{on_ok_weaker}
use Rattle.ftp_check_log.proofs.PlaceLemmas.{entry-there}
use Rattle.ftp_check_log.proofs.GrantLemmas.{last-after, last-kept}
use Rattle.ftp_check_log.proofs.grants.take_grant.Goals as goal

pub returns-in-Some : goal.returns-in-Some
returns-in-Some c =
    let o = c.args.options.now in
    let log = c.args.entries.now in
    let here = entry-there log c.args.place c.requires.entry in
    let grants = c.in-Some.ensures here.0 here.1 in
    on_ok_weaker c.put_grant.result
    (λ told p.
    last-after o log c.args.place c.args.client here.0 c.in-Some.hold.session c.in-Some.hold.port (tree.get nat_cmp c.args.last.now) (tree.get nat_cmp c.put_grant.new.last) here.1 grants.1 grants.0 grants.2
    c.requires.before told p)
    c.put_grant.ensures

pub returns-in-None : goal.returns-in-None
returns-in-None c = λ p.
    let log = c.args.entries.now in
    let here = entry-there log c.args.place c.requires.entry in
    last-kept c.args.options.now log c.args.place c.args.client p here.0 (tree.get nat_cmp c.args.last.now p) here.1 (c.in-None.ensures here.0 here.1 p) (c.requires.before p)
