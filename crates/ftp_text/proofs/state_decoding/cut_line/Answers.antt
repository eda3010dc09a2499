use Rattle.ftp_text.proofs.TextLemmas.{cut-found, cut-none}
use Rattle.ftp_text.proofs.state_decoding.cut_line.Goals as goal

pub returns-in-Some-clause-lines : goal.returns-in-Some-clause-lines
returns-in-Some-clause-lines c = cut-found c.args.text.now c.in-Some.end c.in-Some.ensures

pub returns-in-None-clause-lines : goal.returns-in-None-clause-lines
returns-in-None-clause-lines c = cut-none c.args.text.now c.requires.some c.in-None.ensures
