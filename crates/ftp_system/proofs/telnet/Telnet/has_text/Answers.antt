use Rattle.std.proofs.Common.{◌≡◌, ap, sym, ◌∙◌}
use Rattle.std.proofs.lemmas.List.{drop_all}
use Rattle.ftp_system.specs.Telnet.{text_in}
use Rattle.ftp_system.proofs.TelnetLemmas.{step-passed-last, step-some, text-none}
use Rattle.ftp_system.proofs.telnet.Telnet.has_text.Goals as goal

pub loop-byte-preserved : goal.loop-byte-preserved
loop-byte-preserved c =
    c.loop-byte.invariant ∙ step-passed-last _ _ _ _ _ c.loop-byte-test.true c.if-is_text.false c.step-next.ensures

pub returns-then-is_text-clause-some : goal.returns-then-is_text-clause-some
returns-then-is_text-clause-some c some none =
    step-some _ _ _ _ _ c.loop-byte-test.true c.if-is_text.true c.step-next.ensures (sym c.loop-byte.invariant ∙ none)

pub returns-clause-none : goal.returns-clause-none
returns-clause-none c none =
    c.loop-byte.invariant
    ∙ ap (λ l. text_in c.loop-byte.place l) (drop_all c.loop-byte.byte-index c.args.bytes.now c.loop-byte-test.false)
    ∙ text-none c.loop-byte.place
