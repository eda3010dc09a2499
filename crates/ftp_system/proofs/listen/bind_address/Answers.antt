use Rattle.std.proofs.Common.{◌≡◌, ◌-◌, ◌<◌, Some, length, take, drop, refl, sym, ◌∙◌, subst, arith}
use Rattle.std.proofs.lemmas.List.{take_rest}
use Rattle.ftp_system.specs.Listen.{IsHostText}
use Rattle.ftp_base.specs.Decimal.{decimal_below}
use Rattle.ftp_base.proofs.Digits.{decimal_below-digits}
use Rattle.ftp_system.proofs.Colons.{no-number, behind-colon, cut-colon, join-colon}
use Rattle.ftp_system.proofs.listen.bind_address.Goals as goal

pub returns-then-behind-eq0-clause-none : goal.returns-then-behind-eq0-clause-none
returns-then-behind-eq0-clause-none c none at w =
    let found = c.behind_last_colon-behind.ensures in
    let place = behind-colon c.args.text.now w.host w.digits c.behind_last_colon-behind.result w.spelled (decimal_below-digits w.digits 65536 at.port w.number) found.within found.colon found.last in
    absurd (omega (arith, place, c.if-behind-eq0.true))

pub returns-in_err-ip-clause-none : goal.returns-in_err-ip-clause-none
returns-in_err-ip-clause-none c none at w =
    let found = c.behind_last_colon-behind.ensures in
    let place = behind-colon c.args.text.now w.host w.digits c.behind_last_colon-behind.result w.spelled (decimal_below-digits w.digits 65536 at.port w.number) found.within found.colon found.last in
    let parts = cut-colon c.args.text.now w.host w.digits c.behind_last_colon-behind.result w.spelled place in
    c.in_err-ip.ensures.none refl at.ip (subst (λ h. IsHostText h at.ip) parts.0 w.address)

pub returns-in_err-port-clause-none : goal.returns-in_err-port-clause-none
returns-in_err-port-clause-none c none at w =
    let text = c.args.text.now in
    let behind = c.behind_last_colon-behind.result in
    let found = c.behind_last_colon-behind.ensures in
    let place = behind-colon text w.host w.digits behind w.spelled (decimal_below-digits w.digits 65536 at.port w.number) found.within found.colon found.last in
    let parts = cut-colon text w.host w.digits behind w.spelled place in
    let number : decimal_below 65536 (take (length text - behind) (drop behind text)) ≡ Some at.port = rw take_rest (subst (λ d. decimal_below 65536 d ≡ Some at.port) parts.1 w.number) in
    no-number at.port (c.in_err-port.ensures.number ∙ number)

pub returns-clause-written : goal.returns-clause-written
returns-clause-written c =
    let text = c.args.text.now in
    let behind = c.behind_last_colon-behind.result in
    let found = c.behind_last_colon-behind.ensures in
    let some : 0 < behind = grind arith in
    record {
      host = take (behind - 1) text;
      digits = take (length text - behind) (drop behind text);
      spelled = rw take_rest (join-colon text behind some found.within (found.colon some));
      address = c.in_ok-ip.ensures.written;
      number = sym c.in_ok-port.ensures.number;
    }
