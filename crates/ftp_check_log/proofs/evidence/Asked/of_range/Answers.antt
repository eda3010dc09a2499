use Rattle.std.specs.BTreeMap as tree
use Rattle.std.specs.Ordering.{nat_cmp}
use Rattle.ftp_check_log.proofs.GrantLemmas.{last-there, full-told}
use Rattle.ftp_check_log.proofs.evidence.Asked.of_range.Goals as goal

pub places_of-requires : goal.places_of-requires
places_of-requires c =
    last-there c.args.self.now.options.now c.args.self.now.entries.now c.args.self.now.k c.args.client (tree.get nat_cmp c.in_ok-last.last) c.in_ok-last.ensures c.requires

pub returns : goal.returns
returns c =
    full-told c.args.self.now.options.now c.args.self.now.entries.now c.args.self.now.k c.args.client (tree.get nat_cmp c.in_ok-last.last) c.in_ok-places_of.field-0.items c.in_ok-last.ensures c.requires
    c.in_ok-places_of.ensures.length c.in_ok-places_of.ensures.places
