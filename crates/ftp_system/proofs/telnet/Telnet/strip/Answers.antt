use Rattle.std.proofs.Common.{ℕ, ◌≡◌, ◌<◌, ◌≤◌, ◌+◌, List, length, take, drop, ◌++◌, sym, ap, ap₂, ◌∙◌, arith}
use Rattle.ftp_system.specs.Telnet.{text_in}
use Rattle.ftp_system.proofs.TelnetLemmas.{step-kept, step-passed, text-behind}
use Rattle.ftp_system.proofs.telnet.Telnet.strip.Goals as goal
use Rattle.ftp_system.proofs.telnet.Telnet.strip.Goals.{then-is_text, else-is_text}

pub loop-i-preserved : goal.loop-i-preserved
loop-i-preserved c =
    let inside : c.loop-i.i < length c.loop-i.bytes = omega (arith, c.loop-i.auto.bytes, c.loop-i-test.true) in
    elim c.if-is_text.branch [
      | then-is_text w ↦ record {
        text = λ more. c.loop-i.invariant.text more
            ∙ step-kept _ _ _ _ _ _ _ _ c.loop-i.invariant.within inside w.if-is_text.true w.bytes-is w.kept-is c.step-next.ensures more;
        within = omega (arith, c.loop-i.invariant.within, w.kept-is);
      }
      | else-is_text w ↦ record {
        text = λ more. c.loop-i.invariant.text more
            ∙ ap (λ l. take c.loop-i.kept c.loop-i.bytes ++ l) (step-passed _ _ _ _ _ inside w.if-is_text.false c.step-next.ensures more)
            ∙ ap₂ (λ (n : ℕ) (l : List ℕ). take n l ++ text_in c.step-next.result.0 (drop (c.loop-i.i + 1) l ++ more)) (sym w.kept-is) (sym w.bytes-is);
        within = omega (arith, c.loop-i.invariant.within, w.kept-is);
      }
    ]

pub returns-clause-text : goal.returns-clause-text
returns-clause-text c more =
    let end : length c.loop-i.bytes ≤ c.loop-i.i = omega (arith, c.loop-i.auto.bytes, c.loop-i-test.false) in
    c.loop-i.invariant.text more ∙ ap (λ l. take c.loop-i.kept c.loop-i.bytes ++ l) (text-behind _ _ _ end more)
