use Rattle.ftp_transfer.proofs.Appended.{appended-7}
use Rattle.ftp_transfer.proofs.listing.put_long.Goals as goal

pub returns : goal.returns
returns c =
    let name = rw c.as_slice.ensures at c.in_ok-extend_from_slice-4.ensures.items in
    appended-7 _ _ _ _ _ _ _ _ _ _ _ _ _ _ _ c.in_ok-put_mode.ensures c.in_ok-extend_from_slice.ensures.items c.in_ok-put_size.ensures c.in_ok-extend_from_slice-2.ensures.items c.in_ok-put_date.ensures c.in_ok-extend_from_slice-3.ensures.items name
