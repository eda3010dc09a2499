use Rattle.ftp_disk.specs.declared.standing.Standing.TheVariants.{Nothing, Directory, File}
use Rattle.ftp_disk.proofs.ListingLemmas.{WasShown-all, listing-of, sorted-alone}
use Rattle.ftp_disk.proofs.listing.list.Goals as goal

pub returns-in_ok-children-in-Directory : goal.returns-in_ok-children-in-Directory
returns-in_ok-children-in-Directory g c =
    let listed = c.in_ok-children-in-Directory in
    let shown = WasShown-all (g.S.FileSystem.told c.args.system.now) c.args.place.now _ listed.children.items listed.ensures.shown in
    record { listed = listing-of Directory c.in_ok-found.ensures.unlinked (rw c.in-Directory.is at c.in_ok-found.ensures.found) shown listed.ensures.in_order }

pub returns-in_ok-alone-in-File : goal.returns-in_ok-alone-in-File
returns-in_ok-alone-in-File g c =
    let one = c.in_ok-alone-in-File.ensures.shown in
    let in_order = sorted-alone one.info c.in_ok-alone-in-File.alone.items one.alone in
    record { listed = listing-of (File c.in-File.field-0) c.in_ok-found.ensures.unlinked (rw c.in-File.is at c.in_ok-found.ensures.found) one in_order }

pub returns-in_ok-matching-in-Nothing : goal.returns-in_ok-matching-in-Nothing
returns-in_ok-matching-in-Nothing g c =
    let listed = c.in_ok-matching-in-Nothing.ensures in
    record { listed = listing-of Nothing c.in_ok-found.ensures.unlinked (rw c.in-Nothing.is at c.in_ok-found.ensures.found) listed.shown listed.in_order }
