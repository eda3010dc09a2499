use Rattle.std.proofs.Common.{sym, ◌∙◌}
use Rattle.ftp_text.proofs.PlaceLemmas.{whole_told, open_told}
use Rattle.ftp_text.proofs.place.Place.is_whole.Goals as goal

pub returns-clause-whole : goal.returns-clause-whole
returns-clause-whole c = λ before all read whole. whole_told before all c.args.self.now read (sym c.is_whole.ensures ∙ whole)

pub returns-clause-unfinished : goal.returns-clause-unfinished
returns-clause-unfinished c = λ before all read half. open_told before all c.args.self.now read (sym c.is_whole.ensures ∙ half)
