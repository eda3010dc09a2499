use Rattle.ftp_text.proofs.LineLaws.{returned}
use Rattle.ftp_text.proofs.SetupLemmas.{reads_items}
use Rattle.ftp_text.proofs.setup.read_item.Goals as goal

pub returns : goal.returns
returns c =
    let r = returned reads_items c.args.line.now c.item_in.result c.item_in.ensures in
    record { found = r.found; bad = r.bad; only = r.only; exact = c.item_in.ensures }
