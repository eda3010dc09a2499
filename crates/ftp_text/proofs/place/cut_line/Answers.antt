use Rattle.ftp_text.proofs.PlaceLemmas.{cut_told, feed_none}
use Rattle.ftp_text.proofs.place.cut_line.Goals as goal

pub returns-in-Some : goal.returns-in-Some
returns-in-Some c = cut_told c.args.text.now c.in-Some.end c.in-Some.ensures

pub returns-in-None : goal.returns-in-None
returns-in-None c = feed_none c.args.text.now c.in-None.ensures
