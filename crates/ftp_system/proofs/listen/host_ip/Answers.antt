use Rattle.std.proofs.Common.{[], ◌∷◌, drop, refl, sym, ap, ◌∙◌, subst}
use Rattle.std.proofs.lemmas.List.{append_cancel_right}
use Rattle.std.specs.Net.Grammar.{Parses, IsIpv4Text, IsIpv6Text}
use Rattle.ftp_base.specs.declared.net.IpAddr.TheVariants.{V4, V6}
use Rattle.ftp_system.proofs.listen.host_ip.Goals as goal

pub returns-in_err-inner-clause-none : goal.returns-in_err-inner-clause-none
returns-in_err-inner-clause-none c none (V4 bits) w = subst (Parses IsIpv4Text c.args.text.now) c.in_default.is c.parse_ascii.ensures w.0 w.1
returns-in_err-inner-clause-none c none (V6 bits) w = c.in_err-inner.ensures.none refl w.0 w.2

pub returns-in-Err-clause-none : goal.returns-in-Err-clause-none
returns-in-Err-clause-none c none (V4 bits) w = subst (Parses IsIpv4Text c.args.text.now) c.in_default.is c.parse_ascii.ensures w.0 w.1
returns-in-Err-clause-none c none (V6 bits) w =
    c.in-Err.ensures w.1 (subst (λ t. IsIpv6Text t w.1) (append_cancel_right _ _ (93 ∷ []) (ap (λ l. drop 1 l) (sym w.2 ∙ c.in_ok-inner.ensures.found))) w.3)
