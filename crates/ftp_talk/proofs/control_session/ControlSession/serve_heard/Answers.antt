use Rattle.std.proofs.Common.{refl}
use Rattle.ftp_talk.specs.Parts.{HeardLine}
use Rattle.ftp_talk.specs.Speaking.{IsHearing, asker_of}
use Rattle.ftp_talk.proofs.HeardLemmas.{read-heard, served-heard}
use Rattle.ftp_talk.proofs.ServeLemmas.{cut-here}
use Rattle.ftp_talk.proofs.control_session.ControlSession.serve_heard.Goals as goal

pub returns-clause-served : goal.returns-clause-served
returns-clause-served g c = λ q x0 hs rest about hears s is_line same.
    let x : HeardLine = record { who = asker_of c.args.self.now; before = g.X.Extras.pending c.args.extras.now; command = c.args.command; line = c.args.line.now; extra = c.in-Ok.extra; after = g.X.Extras.pending c.hear.new.self } in
    let may = rw (c.as_ref.ensures.value, c.is_in.ensures) at c.in-Ok.ensures.may in
    let hearing : IsHearing c.args.self.now x = record { line = is_line; parsed = read-heard c.args.is_refused c.args.line.now c.args.command c.requires.unsecret same; unsecret = c.requires.unsecret; who = refl; beside = c.in-Ok.ensures.beside; whole = c.in-Ok.ensures.whole } in
    served-heard q _ _ _ _ rest c.answer_heard.result
    (g.X.Extras.may x0) (g.X.Extras.may c.args.extras.now) (g.X.Extras.may c.hear.new.self) (g.X.Extras.pending x0) (g.X.Extras.pending c.args.extras.now) (g.X.Extras.pending c.hear.new.self)
    hs x hears refl may refl c.hear.ensures.kept (c.answer_heard.ensures.served q hs x rest about s hearing refl same)

pub returns-in_default-clause-served : goal.returns-in_default-clause-served
returns-in_default-clause-served g c = λ q x0 hs rest about hears s is_line same. (hs, hears.allowed, tt, cut-here q c.args.self.now _ _ _ _ hs _ s)
