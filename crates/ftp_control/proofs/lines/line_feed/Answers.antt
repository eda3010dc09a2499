use Rattle.ftp_control.proofs.LineLemmas.{line_feed_found, line_feed_none}
use Rattle.ftp_control.proofs.lines.line_feed.Goals as goal

pub returns-in-Some : goal.returns-in-Some
returns-in-Some c = line_feed_found c.args.bytes.now c.args.from c.in-Some.i c.requires.in_range c.requires.none_before c.in-Some.ensures

pub returns-in-None : goal.returns-in-None
returns-in-None c = line_feed_none c.args.bytes.now c.args.from c.requires.in_range c.requires.none_before c.in-None.ensures
