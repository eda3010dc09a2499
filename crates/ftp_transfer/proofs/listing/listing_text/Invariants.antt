use Rattle.std.proofs.Common.{◌≡◌, take}
use Rattle.std.specs.List.{flat_map}
use Rattle.ftp_transfer.specs.Listing.{line_of}
use Rattle.ftp_transfer.proofs.listing.listing_text.Given as goal

-- the lines of the children so far
abbrev pub invariant-loop-child : goal.invariant-loop-child
invariant-loop-child l = l.text.items ≡ flat_map (line_of l.command) (take l.child-index l.children)
