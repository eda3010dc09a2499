use Rattle.std.proofs.Common.{rules}
use Rattle.std.proofs.lemmas.List.Sorted.{All-permutation}
use Rattle.ftp_disk.specs.Listing.{IsShownOf}
use Rattle.ftp_disk.proofs.ListingLemmas.{sorted_by_name}
use Rattle.ftp_disk.proofs.listing.list_children.Goals as goal

pub returns-clause-shown : goal.returns-clause-shown
returns-clause-shown g c =
    All-permutation (IsShownOf (g.S.FileSystem.told c.args.system.now) c.args.place.now c.args.pattern.now) _ _
    c.sort_unstable_by.ensures.permutation
    c.loop-name.invariant

pub returns-clause-in_order : goal.returns-clause-in_order
returns-clause-in_order g c = sorted_by_name _ c.sort_unstable_by.ensures.sorted (λ a r q k. search rules)
