use Rattle.std.proofs.Common.{refl}
use Rattle.ftp_proxy.proofs.HeaderLemmas.{header_made}
use Rattle.ftp_proxy.proofs.encode.written.Goals as goal

pub returns : goal.returns
returns c =
    header_made c.args.header.now c.args.len c.from_vec.result c.requires.len c.requires.suits c.in_ok-put_body.ensures.fit
    (rw (
      c.from_vec.ensures,
      c.in_ok-put_body.ensures.added,
      c.in_ok-extend_from_slice-2.ensures.items,
      c.in_ok-push-2.ensures.items,
      c.in_ok-push.ensures.items,
      c.in_ok-extend_from_slice.ensures.items,
      c.in_ok-bytes.ensures.items,
      c.to_be_bytes.ensures,
      c.command_of.ensures,
    ) refl)
