use Rattle.ftp_transfer.proofs.Appended.{appended-3}
use Rattle.ftp_transfer.proofs.listing.put_facts.Goals as goal

pub returns : goal.returns
returns c =
    let digits = rw (c.as_slice.ensures.value, c.in_ok-digits.ensures) at c.in_ok-extend_from_slice-3.ensures.items in
    rw c.if-meta.false (appended-3 _ _ _ _ _ _ _ c.in_ok-extend_from_slice-2.ensures.items digits c.in_ok-extend_from_slice-4.ensures.items)
