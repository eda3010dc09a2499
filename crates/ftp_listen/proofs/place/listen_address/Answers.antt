use Rattle.std.proofs.Common.{◌≡◌, ◌∙◌, true, false, true≢false, refl, sym}
use Rattle.ftp_listen.proofs.VersionLemmas.{one-version}
use Rattle.ftp_listen.proofs.place.listen_address.Goals as goal
use Rattle.ftp_listen.proofs.place.listen_address.Goals.{else-is_v6-via-then-is_v6+else-not-is_legacy, else-is_v6-via-else-is_v6}

pub returns-in_default-clause-address : goal.returns-in_default-clause-address
returns-in_default-clause-address c = (λ is. c.in_default.ensures.none refl, λ none. refl)

pub returns-in_default-clause-ipv6 : goal.returns-in_default-clause-ipv6
returns-in_default-clause-ipv6 c = (λ is. absurd (cc is), λ w. absurd (c.in_default.ensures.none refl w.0.0 w.0.1))

pub returns-clause-ipv6 : goal.returns-clause-ipv6
returns-clause-ipv6 c = (
  λ is. absurd (cc is),
  λ w.
      elim c.else-is_v6.branch [
        | else-is_v6-via-then-is_v6+else-not-is_legacy b ↦ absurd (true≢false (sym b.if-not-is_legacy.false ∙ b.is_legacy.ensures ∙ w.1))
        | else-is_v6-via-else-is_v6 b ↦
            absurd (one-version c.args.text.now w.0.0 c.in-Some.at w.0.1 c.in-Some.ensures.written w.0.2 (sym c.is_v6.ensures ∙ b.if-is_v6.false))
      ],
)
